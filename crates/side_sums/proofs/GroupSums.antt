-- Sums side by side over the depth group, run by run: what a run of its counts adds, and what all of them leave.
-- Assumes nothing.
use Rattle.std.proofs.Common.{◌≡◌, ℕ, ◌+◌, ◌*◌, ◌<◌, ◌≤◌, List, length, replicate, ap, mul-suc, add-one, arith}
use lib.ListN.{get_or-replicate}
use Rattle.words.specs.Loops.{Within}
use Rattle.words.proofs.Sums.{sum_to_ext, sum_to_add}
use Rattle.limits.specs.Limits.{block_limit}
use Rattle.contraction.specs.declared.contraction.Operand.TheVariants.{A, B}
use Rattle.groups.specs.Groups.{Label, size}
use Rattle.dots.specs.Dot.{dot}
use Rattle.sums.specs.declared.walk.Walk.{Walk}
use Rattle.sums.specs.Walk.{reached, Walks}
use Rattle.sums.proofs.GroupRuns.{run_below}
use Rattle.side_sums.specs.SideSums.{Sums, Added, RunsInside}
use Rattle.side_sums.proofs.SideTurns.{added_more}

-- the sum over the first k counts of a group, for the output that stands at x in A and at y in B
abbrev pub up_to : List Label → List ℕ → List ℕ → ℕ → ℕ → ℕ → ℕ
up_to g a b k x y = dot k (reached A x g) a (reached B y g) b

-- run m, which for output r goes from x r in A and y r in B by the places f r and h r
module _ {g : List Label} {w : Walk} (k : Walks g w) {m : ℕ} (i : m < w.runs) (x y : ℕ → ℕ) (f h : ℕ → ℕ → ℕ)
    (in_a : (r v : ℕ) → v < w.len → f r v ≡ reached A (x r) g (w.len * m + v)) (in_b : (r v : ℕ) → v < w.len → h r v ≡ reached B (y r) g (w.len * m + v)) where
  pub run_inside : {n : ℕ} {a b : List ℕ} → ((r : ℕ) → r < n → Within (size g) (reached A (x r) g) (length a)) → ((r : ℕ) → r < n → Within (size g) (reached B (y r) g) (length b))
      → RunsInside n w.len f h a b
  run_inside p q =
      record {
        each = λ r l.
            record {
              in_a = record { each = λ v j. rw (in_a r v j) ((p r l).each (w.len * m + v) (run_below g w k m v i j)) };
              in_b = record { each = λ v j. rw (in_b r v j) ((q r l).each (w.len * m + v) (run_below g w k m v i j)) };
            };
      }

  pub run_added : {n : ℕ} (a b : List ℕ) {old mid new : List ℕ} → Added n (λ r. up_to g a b (w.len * m) (x r) (y r)) old mid
      → Added n (λ r. dot w.len (f r) a (h r) b) mid new → Added n (λ r. up_to g a b (w.len * (m + 1)) (x r) (y r)) old new
  unfolding dot
  run_added a b p q =
      added_more _ _ _
      (λ r l. rw (add-one, mul-suc, sum_to_add (w.len * m) w.len _)
      (ap (λ (z : ℕ). up_to g a b (w.len * m) (x r) (y r) + z) (sum_to_ext w.len (λ v j. rw (in_a r v j, in_b r v j)))))
      p q

-- from sums of 0
pub total : {n : ℕ} {f : ℕ → ℕ} {sums : List ℕ} → n ≤ block_limit → Added n f (replicate block_limit 0) sums → Sums n f sums
total few a = record { each = λ r h. omega (arith, a.each r h, get_or-replicate {A = ℕ} block_limit r 0 0 (omega arith)) }
