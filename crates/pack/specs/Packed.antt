-- The words of a packed block.
-- Assumes nothing.
use Rattle.std.specs.Prelude.{ℕ, ◌/◌, ◌%◌, cond, ◌&&◌, ltb}

-- word x of a packed block. A lane is the `width` words of one depth count, one for each row or column: place n of lane d is word n + width × d.
-- Past the edge, from place `count` or from lane `filled` on, is 0.
unfoldable pub packed_word : ℕ → ℕ → ℕ → (ℕ → ℕ → ℕ) → ℕ → ℕ
packed_word width count filled f x = cond (ltb (x % width) count && ltb (x / width) filled) (f (x % width) (x / width)) 0
