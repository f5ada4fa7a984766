-- The longest even beginning: exactly the beginnings that are no longer are even; the stretches of a list cover it; the length from a place on, by that from
-- the next place on.
-- Assumes nothing.
use Rattle.std.proofs.Common.{◌≡◌, ℕ, zero, suc, ◌+◌, ◌^◌, ◌<◌, ◌≤◌, Bool, true, false, cond, ◌&&◌, eqb, leb, List, [], ◌∷◌, ◌++◌, length, take, drop, sym, refl, ap, ◌∙◌, arith, length-drop, take-append-drop, length-take, eq-eqb, ne_eqb, le-leb}
use borrow.Author.Tests.{lt-leb}
use lib.Dec.{leb-zero, leb-suc-zero, leb-suc-suc}
use lib.Seq.{take-length}
use Rattle.words.specs.Words.{word}
use Rattle.block.specs.Block.{Step, even, scattered, steps, step_from, classify}
use Rattle.block.specs.Places.{StepOf}
use Rattle.block.specs.Stretches.{following, longest, is_even, LongestEven, stretches, Furthest, Covered}

-- ---- exactly the beginnings that are no longer are even

pub following_le : (s x : ℕ) (ys : List ℕ) → following s x ys ≤ length ys
following_le s x [] = omega arith
following_le s x (y ∷ ys) = go (eqb y (word 64 (x + s))) (following_le s y ys)
  where
    go : (b : Bool) → following s y ys ≤ length ys → cond b (suc (following s y ys)) 0 ≤ length (y ∷ ys)
    go true h = omega arith
    go false h = omega arith

steps_take : (s x : ℕ) (ys : List ℕ) (m : ℕ) → m ≤ length ys → steps s x (take m ys) ≡ leb m (following s x ys)
steps_take s x ys zero h = sym (leb-zero (following s x ys))
steps_take s x [] (suc m) h = absurd (omega arith)
steps_take s x (y ∷ ys) (suc m) h = go (eqb y (word 64 (x + s))) (steps_take s y ys m (omega arith))
  where
    go : (b : Bool) → steps s y (take m ys) ≡ leb m (following s y ys) → (b && steps s y (take m ys)) ≡ leb (suc m) (cond b (suc (following s y ys)) 0)
    go true e = e ∙ sym (leb-suc-suc m (following s y ys))
    go false e = sym (leb-suc-zero m)

even_cond : (b : Bool) (s : ℕ) → is_even (cond b (even s) scattered) ≡ b
even_cond true s = refl
even_cond false s = refl

exactly_even : (xs : List ℕ) (m : ℕ) → m ≤ length xs → is_even (classify (take m xs)) ≡ leb m (longest xs)
unfolding classify longest
exactly_even xs zero h = sym (leb-zero (longest xs))
exactly_even [] (suc m) h = absurd (omega arith)
exactly_even (x ∷ []) (suc zero) h = refl
exactly_even (x ∷ []) (suc (suc m)) h = absurd (omega arith)
exactly_even (x ∷ y ∷ ys) (suc zero) h = sym (le-leb 1 (longest (x ∷ y ∷ ys)) (omega arith))
exactly_even (x ∷ y ∷ ys) (suc (suc m)) h =
    let s = step_from x y in
    even_cond (steps s x (y ∷ take m ys)) s ∙ steps_take s x (y ∷ ys) (suc m) (omega arith) ∙ sym (leb-suc-suc (suc m) (following s x (y ∷ ys)))

pub longest_le : (xs : List ℕ) → longest xs ≤ length xs
unfolding longest
longest_le [] = omega arith
longest_le (x ∷ []) = omega arith
longest_le (x ∷ y ∷ ys) = omega (arith, following_le (step_from x y) x (y ∷ ys))

pub longest_some : (x : ℕ) (xs : List ℕ) → 0 < longest (x ∷ xs)
unfolding longest
longest_some x [] = omega arith
longest_some x (y ∷ ys) = omega arith

pub longest_even : (xs : List ℕ) → LongestEven xs (longest xs)
longest_even xs = record { inside = longest_le xs; exactly = exactly_even xs }

-- ---- the stretches cover the list

-- n offsets and the one after them
take_next : (n : ℕ) (l : List ℕ) → take n l ++ take 1 (drop n l) ≡ take (suc n) l
take_next zero l = refl
take_next (suc n) [] = refl
take_next (suc n) (x ∷ l) = ap (λ (r : List ℕ). x ∷ r) (take_next n l)

first_of : (n x : ℕ) (xs : List ℕ) → 0 < n → take 1 (take n (x ∷ xs)) ≡ take 1 (x ∷ xs)
first_of zero x xs h = absurd (omega arith)
first_of (suc n) x xs h = refl

-- a stretch with the offset that follows it: what is left begins with the next stretch
no_longer : (l : List ℕ) {n : ℕ} → n ≡ longest l → n < length l → is_even (classify (take n l ++ take 1 (drop n l))) ≡ false
no_longer l {n} e h = ap (λ (p : List ℕ). is_even (classify p)) (take_next n l) ∙ exactly_even l (suc n) (omega arith) ∙ rw (← e) (lt-leb (suc n) n (omega arith))

ends_there : (l : List ℕ) {n : ℕ} (most : ℕ) → n ≡ longest l → Furthest (stretches most (drop n l)) → Furthest (take n l ∷ stretches most (drop n l))
ends_there l {n} most e f = go most (drop n l) refl f
  where
    go : (most : ℕ) (rest : List ℕ) → rest ≡ drop n l → Furthest (stretches most rest) → Furthest (take n l ∷ stretches most rest)
    go zero rest r f = tt
    go (suc most) [] r f = tt
    go (suc most) (x ∷ xs) r f =
        let some : 0 < length (drop n l) = rw (← r) (omega arith) in
        let one : take 1 (take (longest (x ∷ xs)) (x ∷ xs)) ≡ take 1 (drop n l) = first_of (longest (x ∷ xs)) x xs (longest_some x xs) ∙ ap (take 1) r in
        (ap (λ (t : List ℕ). is_even (classify (take n l ++ t))) one ∙ no_longer l e (omega (arith, length-drop n l)), f)

pub covered : (most : ℕ) (xs : List ℕ) → length xs ≤ most → Covered xs (stretches most xs)
covered zero [] h = record { whole = refl; evenly = tt; filled = tt; furthest = tt }
covered zero (x ∷ xs) h = absurd (omega arith)
covered (suc most) [] h = record { whole = refl; evenly = tt; filled = tt; furthest = tt }
covered (suc most) (x ∷ xs) h =
    let l = x ∷ xs in
    let n = longest (x ∷ xs) in
    let some : 0 < n = longest_some x xs in
    let fits : n ≤ length l = longest_le (x ∷ xs) in
    let rest = covered most (drop n l) (omega (arith, length-drop n l)) in
    record {
      whole = ap (λ (r : List ℕ). take n l ++ r) rest.whole ∙ take-append-drop n l;
      evenly = (exactly_even l n fits ∙ le-leb n n (omega arith), rest.evenly);
      filled = (omega (arith, length-take n l), rest.filled);
      furthest = ends_there l most refl rest.furthest;
    }

-- ---- the length by that from the next place on

-- the step takes the one address word to the other
pub step_of : {x y s : ℕ} → x < 2 ^ 64 → y < 2 ^ 64 → s < 2 ^ 64 → word 64 (s + x) ≡ y → StepOf x y s
step_of hx hy hs e = record { is = omega arith; reaches = omega arith }

pub step_is : {x y : ℕ} → x < 2 ^ 64 → y < 2 ^ 64 → StepOf x y (step_from x y)
step_is hx hy = record { is = refl; reaches = omega arith }

pub same_step : {y z s : ℕ} → y < 2 ^ 64 → s < 2 ^ 64 → z ≡ word 64 (y + s) → step_from y z ≡ s
same_step hy hs e = omega arith

module _ {x y s : ℕ} (step : StepOf x y s) where
  second : eqb y (word 64 (x + step_from x y)) ≡ true
  second = eq-eqb y (word 64 (x + step_from x y)) (rw step.is at step.reaches)

  pub two_longest : longest (x ∷ y ∷ []) ≡ 2
  unfolding longest
  two_longest = rw second

  -- the third offset follows by the first step, or does not
  pub one_longer : {z : ℕ} (zs : List ℕ) → z ≡ word 64 (y + s) → longest (y ∷ z ∷ zs) + 1 ≡ longest (x ∷ y ∷ z ∷ zs)
  unfolding longest
  one_longer {z} zs e =
      let same : step_from y z ≡ step_from x y = same_step {y = y} {z = z} {s = s} (rw step.reaches (omega arith)) (rw step.is (omega arith)) e ∙ step.is in
      ap (λ (k : ℕ). suc (following k y (z ∷ zs)) + 1) same ∙ rw second (omega arith)

  pub stops : {z : ℕ} (zs : List ℕ) → (z ≡ word 64 (y + s) → ⊥) → longest (x ∷ y ∷ z ∷ zs) ≡ 2
  unfolding longest
  stops {z} zs e = rw (second, ne_eqb z (word 64 (y + step_from x y)) (rw step.is at e))

-- ---- the step of the whole list

not_even : (t : Step) → is_even t ≡ false → scattered ≡ t
not_even (even s) e = let never : ◌≡◌ {A = Bool} true false = e in let z : ◌≡◌ {A = ℕ} 0 1 = cc in absurd (omega arith)
not_even scattered e = refl

whole_even : (xs : List ℕ) → is_even (classify xs) ≡ leb (length xs) (longest xs)
whole_even xs = ap (λ (l : List ℕ). is_even (classify l)) (sym (take-length xs)) ∙ exactly_even xs (length xs) (omega arith)

pub all_scattered : (xs : List ℕ) → longest xs < length xs → scattered ≡ classify xs
all_scattered xs h = not_even (classify xs) (whole_even xs ∙ lt-leb (length xs) (longest xs) h)

pub all_even : (x y : ℕ) (ys : List ℕ) → length (x ∷ y ∷ ys) ≤ longest (x ∷ y ∷ ys) → even (step_from x y) ≡ classify (x ∷ y ∷ ys)
unfolding classify
all_even x y ys h =
    let s = step_from x y in
    let b = steps s x (y ∷ ys) in
    let t : b ≡ true = sym (even_cond b s) ∙ whole_even (x ∷ y ∷ ys) ∙ le-leb (length (x ∷ y ∷ ys)) (longest (x ∷ y ∷ ys)) h in
    rw t
