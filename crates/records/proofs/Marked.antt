-- A question that the code answered by r, and what the code knows of a record once it has found its mark.
-- Assumes nothing.
use Prim.Native.Nat.{ℕ, ◌≤◌}
use mathlib.Core.Path.{◌≡◌, sym, ap, ◌∙◌}
use mathlib.Core.Bool.{Bool, true, false, not}
use mathlib.Core.List.{List}
use borrow.Author.Tests.{not-true, not-false}
use Rattle.little_endian.specs.Bytes.{has, little}
use Rattle.marks.specs.declared.marks.Kind.{Kind}
use Rattle.marks.specs.Marks.{kind_of}
use Rattle.records.specs.Records.{kind_at}

-- a question b that the code answered by r
module _ {r b : Bool} (e : r ≡ b) where
  pub no : not r ≡ true → b ≡ false
  no t = sym e ∙ not-true r t

  pub yes : not r ≡ false → b ≡ true
  yes t = sym e ∙ not-false r t

module _ (file : List ℕ) where
  -- a mark is there, and x is what f says of its kind
  pub record Marked (at : ℕ) {X : Type 0} (f : Kind → X) (x : X) : Type 0 where
    pub there : has file at 2 ≡ true
    pub kind : x ≡ f (kind_at file at)

  -- the code found a mark: what it asked, one answer after another
  pub marked_as : (at : ℕ) {X : Type 0} (f : Kind → X) {two : Bool} {m : ℕ} {k : Kind} {x : X}
      → two ≡ has file at 2 → not two ≡ false → m ≡ little file 2 at → k ≡ kind_of m → x ≡ f k → Marked at f x
  marked_as at f et t em ek ex = record { there = yes et t; kind = ex ∙ ap f (ek ∙ ap kind_of em) }
