-- Sums side by side: one product more, and places one after the other.
-- Assumes nothing.
use Rattle.std.proofs.Common.{◌≡◌, ℕ, ◌+◌, ◌^◌, ◌<◌, ◌≤◌, List, get_or, set, refl, ◌∙◌, arith}
use Rattle.words.specs.Words.{word}
use Rattle.words.specs.Loops.{Within}
use Rattle.words.specs.Stepped.{stepped}
use Rattle.words.proofs.Loops.{each_ext}
use Rattle.words.proofs.Modular.{word_add_right, row_inside, row_place_lem}
use Rattle.words.proofs.Store.{put_next}
use Rattle.limits.specs.Limits.{block_limit}
use Rattle.lanes.specs.LaneProducts.{products_added}

-- to reduce the product first changes nothing
pub product_turn : (f : ℕ → ℕ) (old : List ℕ) (r : ℕ) {sums new : List ℕ} → sums ≡ products_added r f old
    → new ≡ set sums r (word 32 (get_or sums r 0 + word 32 (f r))) → new ≡ products_added (r + 1) f old
product_turn f old r {sums} e s = s ∙ put_next (λ k w. word 32 (w + f k)) (λ k. k) old r e refl (word_add_right 32 (get_or sums r 0) (f r))

-- the same products, said another way
pub products_same : {n : ℕ} {f g : ℕ → ℕ} (old : List ℕ) {new : List ℕ} → ((r : ℕ) → r < n → f r ≡ g r) → new ≡ products_added n f old → new ≡ products_added n g old
products_same {n} old same e = e ∙ each_ext n (λ r h s. rw (same r h)) old

-- words of step 1 inside a slice stand one after the other
module _ {n : ℕ} (some : 1 ≤ n) (few : n ≤ block_limit) {x s len : ℕ} (low : x < 2 ^ 64) (short : len < 2 ^ 63) (one : s ≡ 1) (w : Within n (stepped x s) len) where
  pub row_room : x + n ≤ len
  row_room = row_inside {x = x} low some (omega arith) short (rw one at w)

  pub row_at : (r : ℕ) → r < n → x + r ≡ stepped x s r
  row_at r h = rw one (row_place_lem {x = x} low some (omega arith) short (rw one at w) r h)
