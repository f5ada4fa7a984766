-- Laws of a loop over counts, on any state. What every turn keeps between two states, the loop keeps; with one state or with equal ones that says what a loop
-- keeps, what it makes of equal turns, and that idle turns may be left out. Two loops whose turns don't meet are one.
-- Assumes nothing.
use Rattle.std.proofs.Common.{◌≡◌, ℕ, zero, suc, ◌+◌, ◌<◌, ◌≢◌, sym, refl, ap, ◌∙◌, add-zero, add-suc, add-one, arith}
use native.Mathlib.Decide.{ℕ_discrete}
use Rattle.words.specs.Loops.{each}

-- two states side by side
pub each_relates : {S S' : Type 0} (R : S → S' → Type 0) (f : ℕ → S → S) (g : ℕ → S' → S') (n : ℕ)
    → ((k : ℕ) → k < n → (s : S) (s' : S') → R s s' → R (f k s) (g k s')) → (s : S) (s' : S') → R s s' → R (each n f s) (each n g s')
unfolding each
each_relates R f g zero turn s s' r = r
each_relates R f g (suc n) turn s s' r = turn n (omega arith) (each n f s) (each n g s') (each_relates R f g n (λ k h. turn k (omega arith)) s s' r)

module _ {S : Type 0} where
  pub each_keeps : (P : S → Type 0) (f : ℕ → S → S) (n : ℕ) → ((k : ℕ) → k < n → (s : S) → P s → P (f k s)) → (s : S) → P s → P (each n f s)
  each_keeps P f n turn s = each_relates (λ s (u : Unit {0}). P s) f (λ k u. u) n (λ k h s u. turn k h s) s tt

  -- turns that do the same
  pub each_ext : {f g : ℕ → S → S} (n : ℕ) → ((k : ℕ) → k < n → (s : S) → f k s ≡ g k s) → (s : S) → each n f s ≡ each n g s
  each_ext {f} {g} n same s = each_relates ◌≡◌ f g n (λ k h s s' e. ap (f k) e ∙ same k h s') s s refl

  -- one turn more
  pub each_next : (body : ℕ → S → S) (n : ℕ) (s₀ : S) {s s' : S} → s ≡ each n body s₀ → s' ≡ body n s → s' ≡ each (n + 1) body s₀
  unfolding each
  each_next body n s₀ i j = rw add-one (j ∙ ap (body n) i)

  -- a loop in two parts
  pub each_add : (m n : ℕ) (body : ℕ → S → S) (s : S) → each (m + n) body s ≡ each n (λ k. body (m + k)) (each m body s)
  unfolding each
  each_add m zero body s = ap (λ (k : ℕ). each k body s) (add-zero m)
  each_add m (suc n) body s = ap (λ (k : ℕ). each k body s) (add-suc m n) ∙ ap (body (m + n)) (each_add m n body s)

  -- r turns and n more, which do what the turns after r do
  pub each_more : (r n : ℕ) (body more : ℕ → S → S) (s : S) → ((k : ℕ) → k < n → (u : S) → more k u ≡ body (r + k) u) → each n more (each r body s) ≡ each (r + n) body s
  each_more r n body more s e = each_ext {f = more} {g = λ k. body (r + k)} n e (each r body s) ∙ sym (each_add r n body s)

  -- turns that do nothing, and all but one that do nothing
  pub each_none : (f : ℕ → S → S) (n : ℕ) → ((k : ℕ) → k < n → (s : S) → f k s ≡ s) → (s : S) → each n f s ≡ s
  each_none f n idle s = each_keeps (λ s'. s' ≡ s) f n (λ k h s' e. idle k h s' ∙ e) s refl

  pub each_one : (f : ℕ → S → S) (n m : ℕ) → m < n → ((k : ℕ) → k < n → k ≢ m → (s : S) → f k s ≡ s) → (s : S) → each n f s ≡ f m s
  unfolding each
  each_one f zero m b idle s = absurd (omega arith)
  each_one f (suc n) m b idle s = go (ℕ_discrete n m) (λ l. each_one f n m l (λ k h. idle k (omega arith)) s)
    where
      go : Dec (n ≡ m) → (m < n → each n f s ≡ f m s) → f n (each n f s) ≡ f m s
      go (yes e) r = ap (f n) (each_none f n (λ k h. idle k (omega arith) (λ z. omega arith)) s) ∙ ap (λ (k : ℕ). f k s) e
      go (no ne) r = idle n (omega arith) ne (each n f s) ∙ r (omega arith)

  -- a change that every turn lets pass may come before the loop or after it
  pub each_swap : (f : ℕ → S → S) (g : S → S) (n : ℕ) → ((k : ℕ) → k < n → (s : S) → f k (g s) ≡ g (f k s)) → (s : S) → each n f (g s) ≡ g (each n f s)
  each_swap f g n pass s = each_relates (λ s s'. s ≡ g s') f f n (λ k h s s' e. ap (f k) e ∙ pass k h s') (g s) s refl

  -- one loop after the other, where each turn of the second lets the later turns of the first pass
  pub each_zip : (f g : ℕ → S → S) (n : ℕ) → ((i j : ℕ) → i < j → j < n → (s : S) → f i (g j s) ≡ g j (f i s)) → (s : S)
      → each n f (each n g s) ≡ each n (λ k s. f k (g k s)) s
  unfolding each
  each_zip f g zero pass s = refl
  each_zip f g (suc n) pass s =
      ap (f n) (each_swap f (g n) n (λ k h. pass k n h (omega arith)) (each n g s))
      ∙ ap (λ (u : S). f n (g n u)) (each_zip f g n (λ i j h k. pass i j h (omega arith)) s)

  -- a loop in a loop the other way round, where turns of different outer counts let each other pass
  pub each_turned : (f : ℕ → ℕ → S → S) (m n : ℕ) → ((i k j l : ℕ) → i < k → k < m → j < n → l < n → (s : S) → f i j (f k l s) ≡ f k l (f i j s)) → (s : S)
      → each m (λ i. each n (f i)) s ≡ each n (λ j. each m (λ i. f i j)) s
  unfolding each
  each_turned f zero n pass s = sym (each_none (λ j. each 0 (λ i. f i j)) n (λ k h u. refl) s)
  each_turned f (suc m) n pass s =
      ap (each n (f m)) (each_turned f m n (λ i k j l h b. pass i k j l h (omega arith)) s)
      ∙ each_zip (f m) (λ j. each m (λ i. f i j)) n
      (λ i j h b u. sym (each_swap (λ k. f k j) (f m i) m (λ k c. pass k m j i c (omega arith) b (omega arith)) u)) s
