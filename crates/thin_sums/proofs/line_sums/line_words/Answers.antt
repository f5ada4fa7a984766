-- `line_words` meets its contract. The invariant: the first k words are the line's.
use Rattle.std.proofs.Common.{◌≡◌, ℕ, List, get_or, refl, ap, ◌∙◌, arith}
use Rattle.words.proofs.Fronts.{get_or_front}
use Rattle.words.proofs.Filled.{filled_none, filled_more}
use Rattle.thin_sums.proofs.line_sums.line_words.Goals as goal

pub loop-k-init : goal.loop-k-init
loop-k-init c = (refl, filled_none _ _)

pub loop-k-preserved : goal.loop-k-preserved
loop-k-preserved c = let l = c.loop-k in
    (refl, filled_more _ _ l.invariant.1 (omega (arith, l.invariant.1.long, c.requires.0)) refl)

pub returns : goal.returns
returns c = let l = c.loop-k in
    let e : l.k ≡ c.args.x.now.depth = omega arith in
    record { each = λ k h. ap (λ (xs : List ℕ). get_or xs k 0) l.invariant.1.is ∙ get_or_front l.k _ _ k (rw e h) }
