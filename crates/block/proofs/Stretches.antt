-- The lengths from each place of a block on, and the places of a stretch: each is a step past the one before.
-- Assumes nothing.
use Rattle.std.proofs.Common.{◌≡◌, ℕ, zero, suc, ◌+◌, ◌*◌, ◌^◌, ◌<◌, ◌≤◌, min, Bool, true, false, cond, eqb, List, [], ◌∷◌, length, get_or, sym, refl, ap, ◌∙◌, add-zero, suc-mul, zero-mul, arith, length-drop, drop_of_length-le, get_or-drop, eqb-true}
use native.Mathlib.Decide.{dec_lt}
use borrow.Author.Tests.{eqb-false}
use Rattle.words.specs.Lists.{first_of}
use Rattle.words.specs.Words.{word}
use Rattle.words.specs.Loops.{Within}
use Rattle.words.proofs.Modular.{word_add_left, word_add_right}
use Rattle.words.proofs.Tabulate.{from, from_end, from_next, length_first_of, get_or_first_of}
use Rattle.limits.specs.Limits.{block_limit}
use Rattle.block.specs.Block.{even, scattered, step_from, classify, block_step}
use Rattle.words.specs.Stepped.{stepped}
use Rattle.block.specs.Stretches.{following, longest, longest_from, Ends}
use Rattle.block.specs.Places.{place_of, StepOf, Measured}
use Rattle.block.proofs.Longest.{longest_le, longest_some, all_scattered, all_even, step_is, same_step, two_longest, one_longer, stops}

-- ---- from a place on

module _ (offsets : List ℕ) (n : ℕ) (few : n ≤ block_limit) where
  -- what is left from place i on
  from_is : (i : ℕ) → longest_from n offsets i ≡ longest (from 0 offsets n i)
  unfolding longest_from
  from_is i = let same : min n block_limit ≡ n = omega arith in rw same

  pub past_end : (i : ℕ) → n ≤ i → longest_from n offsets i ≡ 0
  unfolding longest
  past_end i h = rw (from_is i, drop_of_length-le (first_of n 0 offsets) {i = i} (omega (arith, length_first_of n 0 offsets)))

  pub from_le : (i : ℕ) → i < n → i + longest_from n offsets i ≤ n
  from_le i h = rw (from_is i) (omega (arith, longest_le (from 0 offsets n i), length-drop i (first_of n 0 offsets), length_first_of n 0 offsets))

  pub from_few : (i : ℕ) → longest_from n offsets i ≤ n
  from_few i = rw (from_is i) (omega (arith, longest_le (from 0 offsets n i), length-drop i (first_of n 0 offsets), length_first_of n 0 offsets))

  pub from_some : (i : ℕ) → i < n → 0 < longest_from n offsets i
  from_some i h = rw (from_is i, from_next 0 offsets n i h) (longest_some (get_or offsets i 0) (from 0 offsets n (i + 1)))

  pub last_one : (i : ℕ) → i + 1 ≡ n → longest_from n offsets i ≡ 1
  unfolding longest
  last_one i e = rw (from_is i, from_next 0 offsets n i (omega arith), e, from_end 0 offsets n)

  -- the offsets from place i on, of which there are two, and three and more
  two_left : (i : ℕ) → i + 1 < n → from 0 offsets n i ≡ get_or offsets i 0 ∷ get_or offsets (i + 1) 0 ∷ from 0 offsets n (i + 2)
  two_left i h =
      let e : i + 1 + 1 ≡ i + 2 = omega arith in
      from_next 0 offsets n i (omega arith) ∙ ap (λ (l : List ℕ). get_or offsets i 0 ∷ l) (from_next 0 offsets n (i + 1) h)
      ∙ ap (λ (k : ℕ). get_or offsets i 0 ∷ get_or offsets (i + 1) 0 ∷ from 0 offsets n k) e

  -- the step from place i to the next
  module _ (i : ℕ) {s : ℕ} (step : i + 1 < block_limit → StepOf (get_or offsets i 0) (get_or offsets (i + 1) 0) s) where
    pub last_two : i + 2 ≡ n → longest_from n offsets i ≡ 2
    last_two e = rw (from_is i, two_left i (omega arith), e, from_end 0 offsets n) (two_longest (step (omega arith)))

    -- where three or more are left
    three_left : i + 2 < n → from 0 offsets n (i + 1) ≡ get_or offsets (i + 1) 0 ∷ get_or offsets (i + 2) 0 ∷ from 0 offsets n (i + 3)
    three_left h =
        let e : i + 1 + 1 ≡ i + 2 = omega arith in
        let f : i + 1 + 2 ≡ i + 3 = omega arith in
        rw f at (rw e at (two_left (i + 1) (omega arith)))

    pub goes_on : i + 2 < n → get_or offsets (i + 2) 0 ≡ word 64 (get_or offsets (i + 1) 0 + s) → longest_from n offsets (i + 1) + 1 ≡ longest_from n offsets i
    goes_on h e =
        rw (from_is i, from_is (i + 1), from_next 0 offsets n i (omega arith), three_left h)
        (one_longer (step (omega arith)) (from 0 offsets n (i + 3)) e)

    pub breaks_off : i + 2 < n → (get_or offsets (i + 2) 0 ≡ word 64 (get_or offsets (i + 1) 0 + s) → ⊥) → longest_from n offsets i ≡ 2
    breaks_off h e = rw (from_is i, from_next 0 offsets n i (omega arith), three_left h) (stops (step (omega arith)) (from 0 offsets n (i + 3)) e)

-- the length from place i on, by the two steps after it
pub by_steps : (offsets : List ℕ) (n : ℕ) → n ≤ block_limit → (i : ℕ) {s after next : ℕ} → i + 1 < n → next ≡ longest_from n offsets (i + 1)
    → StepOf (get_or offsets i 0) (get_or offsets (i + 1) 0) s → (i + 2 < n → StepOf (get_or offsets (i + 1) 0) (get_or offsets (i + 2) 0) after)
    → cond (eqb s after) (next + 1) 2 ≡ longest_from n offsets i
by_steps offsets n few i {s} {after} {next} h e step more = go (dec_lt (i + 2) n)
  where
    either : (b : Bool) → ◌≡◌ {A = ℕ} (cond b 2 2) 2
    either true = refl
    either false = refl

    tested : (b : Bool) → eqb s after ≡ b → i + 2 < n → cond b (longest_from n offsets (i + 1) + 1) 2 ≡ longest_from n offsets i
    tested true t k = goes_on offsets n few i (λ z. step) k (rw (eqb-true s after t) (more k).reaches)
    tested false t k =
        sym (breaks_off offsets n few i (λ z. step) k
        (λ z. eqb-false s after t (sym (same_step {z = get_or offsets (i + 2) 0} {s = s} (rw step.reaches (omega arith)) (rw step.is (omega arith)) z) ∙ sym (more k).is)))

    go : Dec (i + 2 < n) → cond (eqb s after) (next + 1) 2 ≡ longest_from n offsets i
    go (yes k) = rw e (tested (eqb s after) refl k)
    go (no k) = rw (e, last_one offsets n few (i + 1) (omega arith), last_two offsets n few i (λ z. step) (omega arith)) (either (eqb s after))

-- a block of address words: from the last place, from the one before it, and past the end
pub ends : (offsets : List ℕ) (n : ℕ) → n ≤ block_limit → ((i : ℕ) → get_or offsets i 0 < 2 ^ 64) → Ends offsets n
ends offsets n few fit =
    record {
      last = last_one offsets n few;
      before_last = λ i. last_two offsets n few i (λ h. step_is (fit i) (fit (i + 1)));
      past = past_end offsets n few;
    }

-- ---- the places of a stretch

-- k steps from x on
following_place : (from s x : ℕ) (ys : List ℕ) (k : ℕ) → k ≤ following s x ys → word 64 (from + get_or (x ∷ ys) k 0) ≡ word 64 (from + x + k * s)
following_place from s x ys zero h = ap (word 64) (omega (arith, zero-mul s))
following_place from s x [] (suc k) h = absurd (omega arith)
following_place from s x (y ∷ ys) (suc k) h = go (eqb y (word 64 (x + s))) refl h (following_place from s y ys k)
  where
    go : (b : Bool) → eqb y (word 64 (x + s)) ≡ b → suc k ≤ cond b (suc (following s y ys)) 0
        → (k ≤ following s y ys → word 64 (from + get_or (y ∷ ys) k 0) ≡ word 64 (from + y + k * s)) → word 64 (from + get_or (y ∷ ys) k 0) ≡ word 64 (from + x + suc k * s)
    go false e z more = absurd (omega arith)
    go true e z more =
        let next : y ≡ word 64 (x + s) = eqb-true y (word 64 (x + s)) e in
        more (omega arith)
        ∙ ap (λ (v : ℕ). word 64 (from + v + k * s)) next
        ∙ ap (word 64) (omega arith)
        ∙ word_add_right 64 (from + k * s) (x + s)
        ∙ ap (word 64) (omega (arith, suc-mul k s))

longest_place : (from : ℕ) (xs : List ℕ) {s : ℕ} → (1 < longest xs → s ≡ step_from (get_or xs 0 0) (get_or xs 1 0)) → (k : ℕ) → k < longest xs
    → word 64 (from + get_or xs k 0) ≡ word 64 (from + get_or xs 0 0 + k * s)
unfolding longest
longest_place from [] e k h = absurd (omega arith)
longest_place from (x ∷ []) {s} e zero h = ap (word 64) (omega (arith, zero-mul s))
longest_place from (x ∷ []) e (suc k) h = absurd (omega arith)
longest_place from (x ∷ y ∷ ys) {s} e zero h = ap (word 64) (omega (arith, zero-mul s))
longest_place from (x ∷ y ∷ ys) e (suc k) h = rw (e (omega arith)) (following_place from (step_from x y) x (y ∷ ys) (suc k) (omega arith))

-- the places of the stretch from place r on
pub stretch_place : (from : ℕ) (offsets : List ℕ) (count r : ℕ) {at s : ℕ} → count ≤ block_limit → r < count → at ≡ place_of from offsets r
    → (r + 1 < block_limit → StepOf (get_or offsets r 0) (get_or offsets (r + 1) 0) s) → (k : ℕ) → k < longest_from count offsets r
    → stepped at s k ≡ place_of from offsets (r + k)
stretch_place begin offsets count r {at} {s} few inside a e k h =
    let xs = from 0 offsets count r in
    let here : (j : ℕ) → r + j < count → get_or xs j 0 ≡ get_or offsets (r + j) 0
    = λ j b. get_or-drop r (first_of count 0 offsets) j 0 ∙ get_or_first_of count 0 offsets (r + j) b in
    let end : r + longest_from count offsets r ≤ count = from_le offsets count few r inside in
    let is : longest_from count offsets r ≡ longest xs = from_is offsets count few r in
    let zero-th : get_or xs 0 0 ≡ get_or offsets r 0 = here 0 (omega arith) ∙ ap (λ (j : ℕ). get_or offsets j 0) (add-zero r) in
    let step : 1 < longest xs → s ≡ step_from (get_or xs 0 0) (get_or xs 1 0)
    = λ more. rw (zero-th, here 1 (omega arith)) (e (omega arith)).is in
    let law : word 64 (begin + get_or xs k 0) ≡ word 64 (begin + get_or xs 0 0 + k * s) = longest_place begin xs step k (omega arith) in
    ap (λ (v : ℕ). word 64 (v + k * s)) a ∙ word_add_left 64 (begin + get_or offsets r 0) (k * s)
    ∙ ap (λ (v : ℕ). word 64 (begin + v + k * s)) (sym zero-th) ∙ sym law ∙ ap (λ (v : ℕ). word 64 (begin + v)) (here k (omega arith))

-- ---- the step of the block

module _ (offsets : List ℕ) (n : ℕ) (few : n ≤ block_limit) where
  step_whole : block_step n offsets ≡ classify (first_of n 0 offsets)
  unfolding block_step
  step_whole = let same : min n block_limit ≡ n = omega arith in rw same

  pub step_few : n < 2 → even 0 ≡ block_step n offsets
  unfolding classify
  step_few h = rw step_whole (go n h)
    where
      go : (m : ℕ) → m < 2 → even 0 ≡ classify (first_of m 0 offsets)
      go zero h = refl
      go (suc zero) h = refl
      go (suc (suc m)) h = absurd (omega arith)

  pub step_scattered : longest_from n offsets 0 < n → scattered ≡ block_step n offsets
  step_scattered h = rw step_whole (all_scattered (first_of n 0 offsets) (omega (arith, length_first_of n 0 offsets, from_is offsets n few 0)))

  pub step_even : 2 ≤ n → n ≤ longest_from n offsets 0 → even (step_from (get_or offsets 0 0) (get_or offsets 1 0)) ≡ block_step n offsets
  step_even h k =
      let two : first_of n 0 offsets ≡ get_or offsets 0 0 ∷ get_or offsets 1 0 ∷ from 0 offsets n 2 = two_left offsets n few 0 (omega arith) in
      let all : length (first_of n 0 offsets) ≤ longest (first_of n 0 offsets) = omega (arith, length_first_of n 0 offsets, from_is offsets n few 0) in
      rw (step_whole, two) (all_even (get_or offsets 0 0) (get_or offsets 1 0) (from 0 offsets n 2) (rw two at all))

-- a count above the limit is read as the limit
module _ (offsets : List ℕ) (count : ℕ) {n : ℕ} (e : n ≡ min count block_limit) where
  clip : min n block_limit ≡ min count block_limit
  clip = omega arith

  pub clipped_step : block_step n offsets ≡ block_step count offsets
  unfolding block_step
  clipped_step = rw clip

  pub clipped_lengths : {lengths : List ℕ} → Measured n offsets lengths → Measured count offsets lengths
  unfolding longest_from
  clipped_lengths m = record { each = λ i. rw clip at (m.each i) }

-- ---- a stretch, as the code finds it

-- n places of a block from place r on, the first of which is the address `at`: each is a step past the one before
pub record Stretch (from : ℕ) (offsets : List ℕ) (count r at s n : ℕ) : Type 0 where
  pub some : 1 ≤ n
  pub fits : r + n ≤ count
  pub place : (k : ℕ) → k < n → stepped at s k ≡ place_of from offsets (r + k)

pub stretch_of : (from : ℕ) (offsets : List ℕ) (count r : ℕ) {at s n : ℕ} {lengths : List ℕ} → count ≤ block_limit → r < count → at ≡ place_of from offsets r
    → (r + 1 < block_limit → StepOf (get_or offsets r 0) (get_or offsets (r + 1) 0) s) → Measured count offsets lengths → n ≡ get_or lengths r 0
    → Stretch from offsets count r at s n
stretch_of from offsets count r {n = n} few h a step m e =
    let is : n ≡ longest_from count offsets r = e ∙ m.each r in
    record {
      some = rw is (from_some offsets count few r h);
      fits = rw is (from_le offsets count few r h);
      place = λ k b. stretch_place from offsets count r few h a step k (rw is at b);
    }

pub within_stretch : {from : ℕ} {offsets : List ℕ} {count r at s n len : ℕ} → Stretch from offsets count r at s n → Within count (place_of from offsets) len → Within n (stepped at s) len
within_stretch {r = r} t w = record { each = λ k b. rw (t.place k b) (w.each (r + k) (omega (arith, t.fits))) }
