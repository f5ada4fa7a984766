-- `Operands::extent` meets its contract: D's axes are asked first, then A's, B's and C's.
-- Assumes nothing.
use mathlib.Core.Path.{◌≡◌, ◌∙◌}
use mathlib.Core.List.{List, [], ◌++◌, append_assoc}
use Prim.Native.Nat.{ℕ}
use Rattle.std.specs.Prelude.{Option, None, Some, unwrap_or, MatchOption}
use Rattle.layout.specs.declared.layout.Axis.{Axis}
use Rattle.layout.specs.Listed.{listed}
use Rattle.labels.specs.Labels.{extent_of}
use Rattle.labels.specs.declared.labelled.Labelled.{Labelled}
use Rattle.contraction.specs.Operands.{together}
use Rattle.contraction.proofs.Again.{extent_again}
use Rattle.contraction.proofs.operands.Operands.extent.Goals as goal

-- where C is not named, D stands behind the others once more
behind : (o : Option Labelled) (d : Labelled) (a b : List Axis) (n m r : ℕ) → MatchOption o (m ≡ 1) (λ l. m ≡ extent_of n (listed l.axes))
    → ((ys : List Axis) → m ≡ extent_of n ys → r ≡ extent_of n (listed d.axes ++ (a ++ (b ++ ys))))
    → r ≡ extent_of n (listed d.axes ++ (a ++ (b ++ listed (unwrap_or o d).axes)))
behind (Some l) d a b n m r e f = f (listed l.axes) e
behind None d a b n m r e f =
    f [] e ∙ rw (← append_assoc a b [], ← append_assoc a b (listed d.axes)) (extent_again n (listed d.axes) (a ++ b))

pub returns : goal.returns
unfolding together
returns c =
    let x = c.args.self.now in
    behind x.c x.d (listed x.a.axes) (listed x.b.axes) c.args.c c.extent_in_c.result c.extent_or-3.result c.extent_in_c.ensures
    (λ ys e. c.extent_or-3.ensures _ (c.extent_or-2.ensures _ (c.extent_or.ensures ys e)))
