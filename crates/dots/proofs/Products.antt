-- Sums of products along a run, one product after the other.
-- Assumes nothing.
use Rattle.std.proofs.Common.{◌≡◌, ℕ, ◌+◌, ◌*◌, ◌<◌, List, get_or, add-one}
use Rattle.words.specs.Words.{word}
use Rattle.words.proofs.Modular.{word_sum}
use Rattle.words.proofs.Sums.{sum_to_ext}
use Rattle.dots.specs.Dot.{dot}

-- one product more
pub product_more : (a b : List ℕ) (f g : ℕ → ℕ) (v : ℕ) {i j sum p : ℕ}
    → i ≡ f v → j ≡ g v → sum ≡ word 32 (dot v f a g b) → p ≡ word 32 (get_or a i 0 * get_or b j 0)
    → word 32 (sum + p) ≡ word 32 (dot (v + 1) f a g b)
unfolding dot
product_more a b f g v ei ej es ep = rw (es, ep, ei, ej, add-one) (word_sum 32 v (λ k. get_or a (f k) 0 * get_or b (g k) 0))

-- the sum hangs on the places below n only
pub dot_ext : (a b : List ℕ) (n : ℕ) {f f' g g' : ℕ → ℕ} → ((k : ℕ) → k < n → f k ≡ f' k) → ((k : ℕ) → k < n → g k ≡ g' k) → dot n f a g b ≡ dot n f' a g' b
unfolding dot
dot_ext a b n ef eg = sum_to_ext n (λ k h. rw (ef k h, eg k h))
