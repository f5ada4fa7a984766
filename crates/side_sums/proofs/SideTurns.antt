-- Sums side by side to which numbers are added, none at first and then more.
-- Assumes nothing.
use Rattle.std.proofs.Common.{◌≡◌, ℕ, ◌+◌, ◌*◌, ◌<◌, ◌≤◌, List, length, get_or, refl, ap, ◌∙◌, add-one, arith}
use Rattle.words.specs.Words.{word}
use Rattle.words.specs.Sums.{sum_to}
use Rattle.words.specs.Loops.{Within}
use Rattle.words.specs.Stepped.{stepped}
use Rattle.words.proofs.Modular.{word_word}
use Rattle.words.proofs.Store.{length_puts, puts_at}
use Rattle.limits.specs.Limits.{block_limit}
use Rattle.lanes.specs.LaneProducts.{products_added}
use Rattle.dots.specs.Dot.{dot}
use Rattle.side_sums.specs.SideSums.{side_run, Added}

-- what each sum becomes by a lane
pub lane_added : (n : ℕ) (f : ℕ → ℕ) {old new : List ℕ} → n ≤ length old → new ≡ products_added n f old → Added n f old new
lane_added n f {old} {new} few e =
    record {
      len = ap length e ∙ length_puts (λ r. r) (λ r w. word 32 (w + f r)) n old;
      each = λ r h. ap (λ (xs : List ℕ). word 32 (get_or xs r 0)) e ∙ ap (word 32) (sum r h) ∙ word_word 32 (get_or old r 0 + f r);
    }
  where
    sum : (r : ℕ) → r < n → get_or (products_added n f old) r 0 ≡ word 32 (get_or old r 0 + f r)
    sum = puts_at (λ r. r) (λ r w. word 32 (w + f r)) n old (λ i k h l q. q) (record { each = λ k h. omega arith })

-- nothing, and one thing after another
pub added_none : (n : ℕ) (f : ℕ → ℕ) (sums : List ℕ) → ((r : ℕ) → f r ≡ 0) → Added n f sums sums
added_none n f sums z = record { len = refl; each = λ r h. omega (arith, z r) }

pub added_more : {n : ℕ} (f g h : ℕ → ℕ) {old mid new : List ℕ} → ((r : ℕ) → r < n → h r ≡ f r + g r) → Added n f old mid → Added n g mid new → Added n h old new
added_more f g h same p q =
    record {
      len = q.len ∙ p.len;
      each = λ r l. omega (arith, p.each r l, q.each r l, same r l);
    }

-- ---- a run of depth counts, a lane for each

-- v steps and then r along, or r along and then v steps
pub crossed : (x s t v r : ℕ) {i : ℕ} → i ≡ stepped x s v → stepped i t r ≡ side_run x t s r v
crossed x s t v r e = omega arith

pub across : (x s t v : ℕ) {i n len size : ℕ} → i ≡ stepped x s v → v < len → ((r : ℕ) → r < n → Within len (side_run x t s r) size) → Within n (stepped i t) size
across x s t v e h w = record { each = λ r l. rw (crossed x s t v r e) ((w r l).each v h) }

-- no depth count, and one more, where output r is at f r in A and at g r in B
module _ (a b : List ℕ) (f g : ℕ → ℕ → ℕ) (n : ℕ) where
  pub run_none : (old : List ℕ) → Added n (λ r. dot 0 (f r) a (g r) b) old old
  unfolding dot sum_to
  run_none old = added_none n _ old (λ r. refl)

  pub run_turn : (v : ℕ) (p : ℕ → ℕ) {old mid new : List ℕ} → n ≤ block_limit → length old ≡ block_limit → Added n (λ r. dot v (f r) a (g r) b) old mid
      → new ≡ products_added n p mid → ((r : ℕ) → r < n → p r ≡ get_or a (f r v) 0 * get_or b (g r v) 0) → Added n (λ r. dot (v + 1) (f r) a (g r) b) old new
  unfolding dot sum_to
  run_turn v p few len added e same =
      added_more _ p _ (λ r h. rw (add-one, same r h)) added (lane_added n p (omega (arith, added.len)) e)
