-- `put_tiles` meets its contract: it puts two words, each with a number's digits, of which there are at most 20, and a byte after them; the first of these
-- bytes is the space before `of`.
-- Assumes nothing.
use mathlib.Core.Path.{◌≡◌}
use mathlib.Core.List.{List, [], ◌∷◌, ◌++◌, append_assoc}
use Prim.Native.Nat.{ℕ, ◌+◌, ◌^◌, ◌≤◌, ◌<◌, zero-le}
use native.Mathlib.Omega.{arith}
use lib.ListN.{length, length-append}
use Rattle.report.specs.Text.{newline, space, decimal, tiles_word, tiles_line}
use Rattle.report.proofs.Written.{put_more, put_whole, put_as}
use Rattle.report.proofs.Decimal.{length_decimal64}
use Rattle.report.proofs.report.put_tiles.Goals as goal

-- what the first call puts, and the second
abbrev first : ℕ → List ℕ
first t = tiles_word ++ decimal t ++ space ∷ []

abbrev second : ℕ → List ℕ
second total = (111 ∷ 102 ∷ space ∷ []) ++ decimal total ++ newline ∷ []

parts : (a b c d e f : List ℕ) → (a ++ b ++ c) ++ (d ++ e ++ f) ≡ a ++ b ++ (c ++ d) ++ e ++ f
parts a b c d e f = simp append_assoc

both : (t total : ℕ) → first t ++ second total ≡ tiles_line t total
unfolding tiles_line
both t total = parts tiles_word (decimal t) (space ∷ []) (111 ∷ 102 ∷ space ∷ []) (decimal total) (newline ∷ [])

-- there is room for the second
room : (t total : ℕ) {at size was : ℕ} → t < 2 ^ 64 → total < 2 ^ 64 → at ≡ 0 + length (first t) → size ≡ was → 64 ≤ was
    → at + (3 + length (decimal total)) < size
room t total h k e kept l = omega (arith, simp length-append at e, length_decimal64 t h, length_decimal64 total k)

pub put_numbered-at-requires : goal.put_numbered-at-requires
put_numbered-at-requires c =
    omega (arith, length_decimal64 c.args.t c.ranges.t.fits)

pub put_numbered-requires : goal.put_numbered-requires
put_numbered-requires c =
    room c.args.t c.args.total c.ranges.t.fits c.ranges.total.fits c.put_numbered-at.ensures.0 c.put_numbered-at.auto.out c.requires

pub returns : goal.returns
returns c =
    let x = c.args in
    let out = x.out.now in
    put_as out (both x.t x.total)
    (put_whole out (first x.t ++ second x.total)
    (put_more out 0 (first x.t) (second x.total) zero-le c.put_numbered-at.ensures c.put_numbered.ensures))
