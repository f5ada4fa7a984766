-- The sums of a column while the kernel goes through the depth: at first none, and then one packed lane more at a time.
-- Assumes nothing.
use Rattle.std.proofs.Common.{◌≡◌, ℕ, ◌+◌, ◌*◌, ◌≤◌, List, length, get_or, replicate, sym, refl, ap, ◌∙◌, mul_comm, add_comm, add-one, arith}
use lib.ListN.{get_or-replicate}
use Rattle.words.specs.Words.{word}
use Rattle.words.specs.Sums.{sum_to}
use Rattle.words.proofs.Modular.{word_add_left}
use Rattle.words.proofs.Sums.{sum_to_ext}
use Rattle.words.proofs.Store.{length_puts, puts_at}
use Rattle.limits.specs.Limits.{block_limit}
use Rattle.lanes.specs.LaneProducts.{products_added, scaled}
use Rattle.kernel.specs.Kernel.{column_sum, ColumnSums}

-- ---- sums that stand side by side
pub record Summing (count : ℕ) (f : ℕ → ℕ) (sums : List ℕ) : Type 0 where
  pub len : length sums ≡ block_limit
  pub holds : ColumnSums count f sums

module _ (count : ℕ) (few : count ≤ block_limit) where
  pub none_summed : (f : ℕ → ℕ) → ((r : ℕ) → f r ≡ 0) → Summing count f (replicate 64 0)
  none_summed f z = record { len = refl; holds = record { each = λ r h. get_or-replicate 64 r 0 0 (omega arith) ∙ sym (ap (word 32) (z r)) } }

  -- a product more in each: to reduce the sum so far first changes nothing
  pub one_more : (f g v : ℕ → ℕ) {sums next : List ℕ} → Summing count f sums → next ≡ products_added count v sums → ((r : ℕ) → g r ≡ f r + v r) → Summing count g next
  one_more f g v {sums} s e q =
      record {
        len = ap length e ∙ length_puts (λ k. k) added count sums ∙ s.len;
        holds = record {
          each = λ r h.
              ap (λ (xs : List ℕ). get_or xs r 0) e
              ∙ puts_at (λ k. k) added count sums (λ i k p q e. e) (record { each = λ k b. omega (arith, s.len) }) r h ∙ ap (added r) (s.holds.each r h)
              ∙ rw (q r) (word_add_left 32 (f r) (v r));
        };
      }
    where
      added : ℕ → ℕ → ℕ
      added r w = word 32 (w + v r)

-- ---- those of a column, after d depth counts
abbrev pub Summed : List ℕ → ℕ → ℕ → ℕ → ℕ → ℕ → List ℕ → Type 0
Summed work rows count from cols d = Summing count (column_sum work rows from cols d)

module _ (work : List ℕ) (rows count from cols : ℕ) (few : count ≤ block_limit) where
  pub summed_none : Summed work rows count from cols 0 (replicate 64 0)
  unfolding column_sum sum_to
  summed_none = none_summed count few (column_sum work rows from cols 0) (λ r. refl)

  -- a lane times the column's next word
  pub summed_turn : (d : ℕ) {by : ℕ} {sums next : List ℕ} → Summed work rows count from cols d sums → by ≡ get_or work (from + cols * d) 0
      → next ≡ products_added count (scaled work (rows * d) by) sums → Summed work rows count from cols (d + 1) next
  unfolding column_sum sum_to
  summed_turn d {by} s q e =
      one_more count few (column_sum work rows from cols d) (column_sum work rows from cols (d + 1)) (scaled work (rows * d) by) s e (λ r. rw (q, add-one))

-- ---- those of the words of lanes, which begin at `base`
abbrev pub lane_sums : List ℕ → ℕ → ℕ → ℕ → ℕ → ℕ → ℕ → ℕ
lane_sums work base width from step d i = column_sum work width from step d (base + i)

module _ (work : List ℕ) (base width count from step : ℕ) (few : count ≤ block_limit) where
  pub lanes_none : Summing count (lane_sums work base width from step 0) (replicate 64 0)
  unfolding column_sum sum_to
  lanes_none = none_summed count few (lane_sums work base width from step 0) (λ i. refl)

  pub lanes_turn : (d : ℕ) {by : ℕ} {sums next : List ℕ} → Summing count (lane_sums work base width from step d) sums → by ≡ get_or work (from + step * d) 0
      → next ≡ products_added count (scaled work (base + width * d) by) sums → Summing count (lane_sums work base width from step (d + 1)) next
  unfolding column_sum sum_to
  lanes_turn d {by} s q e =
      one_more count few (lane_sums work base width from step d) (lane_sums work base width from step (d + 1)) (scaled work (base + width * d) by) s e
      (λ i. let place : base + width * d + i ≡ width * d + (base + i) = omega arith in rw (q, add-one, place))

-- a sum over the depth is the same with A and B exchanged
pub exchanged : (work : List ℕ) (rows from cols depth r : ℕ) → column_sum work rows from cols depth r ≡ column_sum work cols r rows depth from
unfolding column_sum
exchanged work rows from cols depth r = sum_to_ext depth (λ d h. rw (add_comm (rows * d) r, add_comm from (cols * d)) (mul_comm _ _))
