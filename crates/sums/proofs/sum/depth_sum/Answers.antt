-- `depth_sum` meets its contract: where there is one run, its places are the group's.
-- Assumes nothing.
use Rattle.std.proofs.Common.{◌≡◌, ℕ, ◌*◌, List, ap, ◌∙◌, arith}
use Rattle.words.specs.Words.{word}
use Rattle.words.specs.Loops.{Within}
use Rattle.words.specs.Stepped.{stepped}
use Rattle.words.proofs.Sums.{sum_to_ext}
use Rattle.contraction.specs.declared.contraction.Operand.{Operand}
use Rattle.contraction.specs.declared.contraction.Operand.TheVariants.{A, B}
use Rattle.groups.specs.Groups.{Label, size}
use Rattle.offsets.specs.Offsets.{words_in}
use Rattle.sums.specs.declared.walk.Walk.{Walk}
use Rattle.dots.specs.Dot.{dot}
use Rattle.sums.specs.Walk.{reached, sum_from, Walks}
use Rattle.sums.proofs.GroupRuns.{first_place}
use Rattle.sums.proofs.sum.depth_sum.Goals as goal

-- one run has all counts
module _ {g : List Label} {w : Walk} (k : Walks g w) (one : w.runs ≡ 1) where
  all : size g ≡ w.len
  all = k.counts ∙ ap (λ (n : ℕ). w.len * n) one ∙ omega arith

  inside : (o : Operand) (x n : ℕ) → Within (size g) (reached o x g) n → Within w.len (stepped x (words_in w.step o)) n
  inside o x n i = record { each = λ v h. rw (first_place g w k o x v h) (i.each v (rw all h)) }

  sums : (a b : List ℕ) (at : Operand → ℕ) → dot w.len (stepped (at A) (words_in w.step A)) a (stepped (at B) (words_in w.step B)) b ≡ sum_from g a b at
  unfolding sum_from dot
  sums a b at = rw all (sum_to_ext w.len (λ v h. rw (first_place g w k A (at A) v h, first_place g w k B (at B) v h)))

pub run_sum-requires : goal.run_sum-requires
run_sum-requires c =
    let in_run_lem = inside c.args.depth.now.walks (omega arith) in
    record { in_a = rw (c.of.ensures, c.of-then-depth-eq1-2.ensures) (in_run_lem A _ _ c.requires.in_a); in_b = rw (c.of-then-depth-eq1.ensures, c.of-then-depth-eq1-3.ensures) (in_run_lem B _ _ c.requires.in_b) }

pub returns-then-depth-eq1 : goal.returns-then-depth-eq1
returns-then-depth-eq1 c =
    (rw (c.of.ensures, c.of-then-depth-eq1.ensures, c.of-then-depth-eq1-2.ensures, c.of-then-depth-eq1-3.ensures) at c.run_sum.ensures) ∙ ap (word 32) (sums c.args.depth.now.walks (omega arith) _ _ (words_in c.args.from))
