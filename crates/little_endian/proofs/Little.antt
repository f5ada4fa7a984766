-- Little-endian numbers of a file, by their bytes.
-- Assumes nothing.
use mathlib.Core.Path.{◌≡◌, refl, sym, ◌∙◌}
use mathlib.Core.Bool.{Bool, true, false}
use mathlib.Core.List.{List, map}
use Prim.Native.Nat.{ℕ, suc, ◌+◌, ◌*◌, ◌-◌, ◌<◌, ◌≤◌}
use native.Mathlib.Numerals.{add-one}
use native.Mathlib.Omega.{arith}
use lib.Dec.{leb}
use lib.ListN.{length, get_or, take, drop, length-drop}
use lib.Seq.{ext_get_or, get_or-take, get_or-drop, length-take-le}
use borrow.Author.Tests.{leb-true, leb-false, le-leb, lt-leb}
use Rattle.words.specs.Lists.{tabulate}
use Rattle.words.proofs.Tabulate.{length_tabulate, get_or_tabulate, map_tabulate}
use Rattle.little_endian.specs.Bytes.{has, little, numbers}

module _ (file : List ℕ) where
  -- n bytes are there where what is left has them
  pub has_left : (at n : ℕ) → at ≤ length file → leb n (length file - at) ≡ has file at n
  has_left at n h = go (leb n (length file - at)) refl
    where
      go : (b : Bool) → leb n (length file - at) ≡ b → b ≡ leb (at + n) (length file)
      go true e = sym (le-leb (at + n) (length file) (omega (arith, leb-true n (length file - at) e)))
      go false e = sym (lt-leb (at + n) (length file) (omega (arith, leb-false n (length file - at) e)))

  pub little_byte : (at : ℕ) → little file 1 at ≡ get_or file at 0
  unfolding little
  little_byte at = omega arith

  pub little_two : (at : ℕ) → little file 2 at ≡ get_or file at 0 + 256 * get_or file (at + 1) 0
  unfolding little
  little_two at = rw add-one (omega arith)

  pub little_four : (at : ℕ)
      → little file 4 at ≡ get_or file at 0 + 256 * get_or file (at + 1) 0 + 65536 * get_or file (at + 2) 0 + 16777216 * get_or file (at + 3) 0
  unfolding little
  little_four at =
      let e : at + 3 ≡ suc (suc (suc at)) = omega arith in
      let d : at + 2 ≡ suc (suc at) = omega arith in
      rw (e, d, add-one) (omega arith)

  pub length_numbers : (w n at : ℕ) → length (numbers file w n at) ≡ n
  unfolding numbers
  length_numbers w n at = length_tabulate n (λ i. little file w (at + w * i))

  pub get_or_numbers : (w n at i : ℕ) → i < n → get_or (numbers file w n at) i 0 ≡ little file w (at + w * i)
  unfolding numbers
  get_or_numbers w n at i h = get_or_tabulate n (λ i. little file w (at + w * i)) i 0 h

  pub map_numbers : {X : Type 0} (g : ℕ → X) (w n at : ℕ) → map g (numbers file w n at) ≡ tabulate n (λ i. g (little file w (at + w * i)))
  unfolding numbers
  map_numbers g w n at = map_tabulate g n (λ i. little file w (at + w * i))

  -- the i-th byte from `at` on is the i-th number of a byte each
  pub byte_at : (at i : ℕ) → get_or file (at + i) 0 ≡ little file 1 (at + 1 * i)
  byte_at at i = let e : at + 1 * i ≡ at + i = omega arith in rw (e, little_byte)

  -- numbers of a byte each are the bytes
  pub numbers_bytes : (n at : ℕ) → at + n ≤ length file → numbers file 1 n at ≡ take n (drop at file)
  numbers_bytes n at h =
      let l = length_numbers 1 n at in
      let k : n ≤ length (drop at file) = omega (arith, length-drop at file) in
      ext_get_or 0 (numbers file 1 n at) (take n (drop at file)) (l ∙ sym (length-take-le n (drop at file) k))
      (λ i j. let b : i < n = omega arith in get_or_numbers 1 n at i b ∙ sym (byte_at at i) ∙ sym (get_or-take n (drop at file) i 0 b ∙ get_or-drop at file i 0))
