-- The places of a block, one after the other: by its step or by its offsets, the next place is reached. A block that is classified even has each offset
-- the one before plus the step, and to reduce an address first changes nothing.
-- Assumes nothing.
use Rattle.std.proofs.Common.{◌≡◌, ℕ, zero, suc, ◌+◌, ◌<◌, ◌≤◌, min, Bool, true, false, cond, eqb, List, [], ◌∷◌, length, get_or, sym, refl, ap, ◌∙◌, add_assoc, add-one, arith, lt-ltb, eqb-true}
use mathlib.Core.Bool.{and-eq-true_iff}
use Rattle.words.specs.Lists.{first_of}
use Rattle.words.specs.Words.{word}
use Rattle.words.proofs.Modular.{word_add_left, word_add_right}
use Rattle.words.proofs.Tabulate.{length_first_of, get_or_first_of}
use Rattle.limits.specs.Limits.{block_limit}
use Rattle.block.specs.Block.{Step, even, scattered, steps, step_from, classify, block_step}
use Rattle.block.specs.Places.{place_of, place_after, Stepped}

-- each offset is the one before plus s
steps_at : (s x : ℕ) (ys : List ℕ) → steps s x ys ≡ true → (i : ℕ) → i < length ys → get_or ys i 0 ≡ word 64 (get_or (x ∷ ys) i 0 + s)
steps_at s x [] e i h = absurd (omega arith)
steps_at s x (y ∷ ys) e zero h = eqb-true y (word 64 (x + s)) ((and-eq-true_iff (eqb y (word 64 (x + s))) (steps s y ys)).0 e).0
steps_at s x (y ∷ ys) e (suc i) h = steps_at s y ys ((and-eq-true_iff (eqb y (word 64 (x + s))) (steps s y ys)).0 e).1 i (omega arith)

even_at : (s : ℕ) (xs : List ℕ) → even s ≡ classify xs → (i : ℕ) → i + 1 < length xs → get_or xs (i + 1) 0 ≡ word 64 (get_or xs i 0 + s)
unfolding classify
even_at s [] e i h = absurd (omega arith)
even_at s (x ∷ []) e i h = absurd (omega arith)
even_at s (x ∷ y ∷ ys) e i h = go (steps (step_from x y) x (y ∷ ys)) refl e
  where
    go : (b : Bool) → steps (step_from x y) x (y ∷ ys) ≡ b → even s ≡ cond b (even (step_from x y)) scattered
        → get_or (x ∷ y ∷ ys) (i + 1) 0 ≡ word 64 (get_or (x ∷ y ∷ ys) i 0 + s)
    go true t z = let same : s ≡ step_from x y = cc in rw (add-one, same) (steps_at (step_from x y) x (y ∷ ys) t i (omega arith))
    go false t z = let never : ◌≡◌ {A = ℕ} 0 1 = cc in absurd (omega arith)

offset_at : (s : ℕ) (offsets : List ℕ) (count : ℕ) → even s ≡ block_step count offsets → count ≤ block_limit → (i : ℕ) → i + 1 < count
    → get_or offsets (i + 1) 0 ≡ word 64 (get_or offsets i 0 + s)
unfolding block_step
offset_at s offsets count e few i h =
    let all : min count block_limit ≡ count = omega arith in
    let z : even s ≡ classify (first_of count 0 offsets) = rw all at e in
    sym (get_or_first_of count 0 offsets (i + 1) h) ∙ even_at s (first_of count 0 offsets) z i (omega (arith, length_first_of count 0 offsets))
    ∙ ap (λ (x : ℕ). word 64 (x + s)) (get_or_first_of count 0 offsets i (omega arith))

pub next_reaches : (from : ℕ) (offsets : List ℕ) (count : ℕ) (s : Step) → Stepped count offsets s → count ≤ block_limit → (i : ℕ) → i + 1 < count
    → place_after (place_of from offsets i) from offsets s (i + 1) ≡ place_of from offsets (i + 1)
next_reaches from offsets count scattered w few i h = rw (lt-ltb (i + 1) block_limit (omega arith))
next_reaches from offsets count (even s) w few i h =
    let x = get_or offsets i 0 in
    word_add_left 64 (from + x) s ∙ ap (word 64) (add_assoc from x s) ∙ sym (word_add_right 64 from (x + s))
    ∙ ap (λ (y : ℕ). word 64 (from + y)) (sym (offset_at s offsets count w.step few i h))

-- and so from an address that is the place before
pub reaches : (from : ℕ) (offsets : List ℕ) {count : ℕ} (s : Step) → Stepped count offsets s → count ≤ block_limit → (i j : ℕ) {at r : ℕ} → j ≡ i + 1 → j < count
    → at ≡ place_of from offsets i → r ≡ place_after at from offsets s j → r ≡ place_of from offsets j
reaches from offsets {count} s w few i j e h a n = n ∙ rw (e, a) (next_reaches from offsets count s w few i (omega arith))
