-- The address words that are carried from count to count are those of the counts' offsets, in any tensor and for any list of labels.
-- Assumes nothing.
use Rattle.std.proofs.Common.{◌≡◌, ℕ, zero, suc, ◌+◌, ◌-◌, ◌*◌, ◌/◌, ◌%◌, ◌^◌, ◌<◌, ◌≤◌, List, [], ◌∷◌, map, length, get_or, replicate, sym, refl, ◌∙◌, zero-add, zero-mul, add-one, arith}
use native.Mathlib.Nat.{zero-mod, zero-div}
use native.Mathlib.Decide.{dec_lt}
use lib.ListN.{get_or-replicate}
use Rattle.words.specs.Words.{word, word_of}
use Rattle.limits.specs.Limits.{labels_limit}
use Rattle.contraction.specs.declared.contraction.Operand.{Operand}
use Rattle.contraction.specs.TensorPlaces.{operand_number}
use Rattle.groups.specs.Groups.{Label, size}
use Rattle.offsets.specs.Counts.{offset_in}
use Rattle.offsets.specs.declared.offsets.Offsets.{Offsets}
use Rattle.offsets.specs.Offsets.{words_in}
use Rattle.offsets.proofs.Digits.{pos_left}
use Rattle.offsets.proofs.Runs.{offset_none, next_lowest}
use Rattle.odometer.specs.Carried.{digits, rising, before, stride_at, move, carried}
use Rattle.odometer.specs.Odometer.{Stands}
use Rattle.odometer.proofs.NextCount.{up_rest, last_digit, back_digit, back_rest, back_below, rising_here, rising_later}

module _ (o : Operand) where
  -- a label more in front: the move is less by its last value's strides
  move_later : (l : Label) (g : List Label) (i x : ℕ) → word 64 (((l.extent - 1) * word_of 64 (l.stride o) + x) + move o (l ∷ g) (suc i)) ≡ word 64 (x + move o g i)
  move_later l g i x = omega arith

  -- to add the move is to go to the next count
  moved_offset : (g : List Label) (n : ℕ) → n + 1 < size g → word 64 (offset_in (word_of 64) o g n + move o g (rising g n)) ≡ word 64 (offset_in (word_of 64) o g (n + 1))
  moved_offset [] n h = absurd (omega arith)
  moved_offset (l ∷ g) n h = pick (moved_offset g (n / l.extent)) (dec_lt (n % l.extent + 1) l.extent)
    where
      long : 0 < l.extent
      long = pos_left l.extent (size g) (n + 1) h

      pick : (n / l.extent + 1 < size g → word 64 (offset_in (word_of 64) o g (n / l.extent) + move o g (rising g (n / l.extent))) ≡ word 64 (offset_in (word_of 64) o g (n / l.extent + 1)))
          → Dec (n % l.extent + 1 < l.extent) → word 64 (offset_in (word_of 64) o (l ∷ g) n + move o (l ∷ g) (rising (l ∷ g) n)) ≡ word 64 (offset_in (word_of 64) o (l ∷ g) (n + 1))
      pick next (yes u) = rw (rising_here l g n u, next_lowest l.extent n u, up_rest l.extent n u) (omega arith)
      pick next (no u) =
          let w : l.extent ≤ n % l.extent + 1 = omega arith in
          let d : n % l.extent ≡ l.extent - 1 = omega (arith, last_digit l.extent n long w) in
          rw (rising_later l g n w, back_digit l.extent n long w, back_rest l.extent n long w, d, zero-mul, zero-add)
          (move_later l g (rising g (n / l.extent)) (offset_in (word_of 64) o g (n / l.extent)) ∙ next (back_below l.extent n long w (size g) h))

  -- how far the labels before the next place go
  pub before_next : (g : List Label) (i : ℕ) → i < length g → before o g (suc i) ≡ before o g i + (get_or (map (λ l. l.extent) g) i 0 - 1) * stride_at o g i
  before_next [] i h = absurd (omega arith)
  before_next (l ∷ []) zero h = omega arith
  before_next (l ∷ k ∷ g) zero h = omega arith
  before_next (l ∷ g) (suc i) h = rw (before_next g i (omega arith)) (omega arith)

  -- the address word that is carried is that of the count's offset
  pub carried_offset : (x : ℕ) (g : List Label) (n : ℕ) → n < size g → carried o x g n ≡ word 64 (x + offset_in (word_of 64) o g n)
  carried_offset x g zero h = rw (offset_none (λ l. word_of 64 (l.stride o)) g) (omega arith)
  carried_offset x g (suc n) h =
      rw (carried_offset x g n (omega arith), ← add-one n)
      (omega (arith, moved_offset g n (omega arith)))

-- ---- count 0

digits_zero : (g : List Label) (i : ℕ) → get_or (digits g 0) i 0 ≡ 0
digits_zero [] i = refl
digits_zero (l ∷ g) zero = zero-mod l.extent
digits_zero (l ∷ g) (suc i) = rw zero-div (digits_zero g i)

-- digits that are all 0 and any address words stand at count 0
pub stands_first : (g : List Label) (at : Offsets) → length g ≤ labels_limit → ((k : ℕ) → get_or at.words k 0 < 2 ^ 64)
    → Stands g (words_in at) 0 (replicate labels_limit 0) at
stands_first g at few fits =
    record {
      digits = λ i h. get_or-replicate labels_limit i 0 0 (omega arith) ∙ sym (digits_zero g i);
      words = λ o. omega (arith, fits (operand_number o));
    }
