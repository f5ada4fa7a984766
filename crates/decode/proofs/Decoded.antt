-- Laws for the functions that decode a job: the words and the layout of a part of the file, and the layout of C where a job has it.
-- Assumes nothing.
use mathlib.Core.Path.{◌≡◌, sym, ap, ◌∙◌}
use mathlib.Core.Logic.{⊎_elim}
use mathlib.Core.List.{List, ◌++◌, map}
use Prim.Native.Nat.{ℕ, ◌+◌, ◌-◌, ◌*◌, ◌≤◌}
use native.Mathlib.Omega.{arith}
use lib.IntN.{ℤ}
use lib.ListN.{length, take, drop, replicate, length-take}
use Rattle.std.specs.Prelude.{Option, None, Some, is_some, unwrap_or, IsSomeAnd, MatchOption}
use Rattle.words.specs.Words.{signed}
use Rattle.words.proofs.Lent.{CameBack}
use Rattle.layout.specs.declared.layout.Layout.{Layout}
use Rattle.layout.specs.Layout.{layout_of}
use Rattle.contraction.specs.Operands.{contraction_if}
use Rattle.little_endian.specs.Bytes.{little, numbers}
use Rattle.little_endian.proofs.Little.{length_numbers, numbers_bytes}
use Rattle.records.specs.declared.records.LayoutPart.{LayoutPart}
use Rattle.records.specs.declared.records.WordsPart.{WordsPart}
use Rattle.records.specs.declared.records.TensorParts.{TensorParts}
use Rattle.records.specs.Records.{layout_at}
use Rattle.records.specs.RecordParts.{layout_in, words_of, LayoutHeld, WordsHeld}
use Rattle.decode.specs.AtFront.{AtFront}

-- its words have one byte where they do not have four
pub one_byte : {file : List ℕ} {p : WordsPart} → WordsHeld file p → (p.width ≡ 4 → ⊥) → p.width ≡ 1
one_byte held four = ⊎_elim (λ e. absurd (four e)) (λ e. e) held.wide

-- n words, all of it, of w bytes each
module _ (file : List ℕ) (p : WordsPart) (w n : ℕ) (wide : p.width ≡ w) (all : n ≡ p.count) where
  pub words_inside : WordsHeld file p → p.at + w * n ≤ length file
  words_inside held = rw (all, ← wide) held.inside

  pub words_filled : {out : List ℕ} → out ≡ numbers file w n p.at → out ≡ words_of file p
  words_filled e = rw (wide, ← all) e

-- its words, there at the front of an array
pub at_front : (file : List ℕ) (p : WordsPart) (array : List ℕ) → take p.count array ≡ words_of file p → AtFront file p array
at_front file p array words =
    let long : p.count ≡ length (take p.count array) = sym (ap length words ∙ length_numbers file p.width p.count p.at) in
    record { words = words; long = long; room = omega (arith, length-take p.count array) }

-- the layout that is made of its letters, extents, strides and base
pub layout_made : (file : List ℕ) (p : LayoutPart) → LayoutHeld file p → {size : ℕ} {v : ℕ} {w : ℤ} {es : List ℕ} {ss : List ℤ} {base : ℕ} {r : Layout}
    → CameBack p.rank size v es → es ≡ numbers file 4 (length (take p.rank (replicate size v))) (p.at + p.rank)
    → CameBack p.rank size w ss → ss ≡ map (signed 32) (numbers file 4 (length (take p.rank (replicate size w))) (p.at + 5 * p.rank))
    → base ≡ little file 4 (p.at + 9 * p.rank)
    → r ≡ layout_of (take ((p.at + p.rank) - p.at) (drop p.at file)) (take p.rank (es ++ drop p.rank (replicate size v)))
    (take p.rank (ss ++ drop p.rank (replicate size w))) base
    → r ≡ layout_in file p
unfolding layout_at
layout_made file p held x e y s b made =
    let n : (p.at + p.rank) - p.at ≡ p.rank = omega arith in
    rw (made, x.front, e, x.lent, y.front, s, y.lent, b, n, numbers_bytes file p.rank p.at (omega (arith, held.inside)))

-- the contraction with the layout of C where a job has it: without it, nothing is read of what stands for C
pub with_its_c : (file : List ℕ) (c : Option TensorParts) (stand : TensorParts) (a b d : Layout) (alpha beta : ℕ) (m : Option Layout)
    (P : TensorParts → Layout → Type 0) → ((x : TensorParts) (l : Layout) → P x l → l ≡ layout_in file x.layout) → MatchOption c (m ≡ None) (λ x. IsSomeAnd m (P x))
    → contraction_if (is_some m) a b (unwrap_or m d) d alpha beta ≡ contraction_if (is_some c) a b (layout_in file (unwrap_or c stand).layout) d alpha beta
with_its_c file None stand a b d alpha beta m P f e = rw e
with_its_c file (Some x) stand a b d alpha beta (Some l) P f e = rw (f x l e)
with_its_c file (Some x) stand a b d alpha beta None P f e = absurd e
