-- The groups of a contraction that has a label of every kind: `p` in A only, `q` in B only, `x` in D only, `k` in A and B, `i` in A and D, `j` in B
-- and D, `h` in all three.
-- Assumes nothing.
use Rattle.std.specs.Prelude.{ℕ, ◌≡◌, List, map}
use Rattle.words.specs.Texts.{codes}
use Rattle.contraction.specs.Operands.{Shape, three}
use Rattle.contraction.specs.OrderCases.{lettered}
use Rattle.groups.specs.Groups.{Group, batch, row, column, depth, group, size}

-- A `pikh`, B `qkhj`, D `jxhi`, all extents 2
abbrev every_kind : Shape
every_kind = three (lettered (codes "pikh")) (lettered (codes "qkhj")) (lettered (codes "jxhi"))

-- the letters of a group, in their order
abbrev pub group_letters : Shape → Group → List ℕ
group_letters s g = map (λ l. l.letter) (group s g)

pub record GroupCases : Type 0 where
  -- "batch (in A, B and D), column (in B and D, not A), row (every other label of D, those in D only included), depth (every label not in D). Batch, row and
  -- column labels stand in order of first appearance in D's labels; depth in order of first appearance in A's, then B's."
  pub in_batch : group_letters every_kind batch ≡ codes "h"
  pub in_row : group_letters every_kind row ≡ codes "xi"
  pub in_column : group_letters every_kind column ≡ codes "j"
  pub in_depth : group_letters every_kind depth ≡ codes "pkq"
  -- "its size, the product of its extents"
  pub row_size : size (group every_kind row) ≡ 4
  pub depth_size : size (group every_kind depth) ≡ 8
