-- `panel_starts` meets its contract: the panel begins and ends inside the group, so that no product wraps and its starts fit their array.
-- Assumes nothing.
use Rattle.std.proofs.Common.{◌≡◌, ℕ, List, length, get_or, ap, ◌∙◌, arith}
use Rattle.words.proofs.Fronts.{get_or_front}
use Rattle.tile_blocks.proofs.TileParts.{part_ends}
use Rattle.tile_blocks.proofs.tile_places.panel_starts.Goals as goal

pub scatter_vector-requires : goal.scatter_vector-requires
scatter_vector-requires c =
    let e = part_ends c.requires c.width_of-filled.ensures in
    let long : length c.args.starts.now ≡ 128 = c.scatter_vector-arg-1.given.0.1 in
    (c.requires.few, e.0, e.1, omega arith)

pub returns : goal.returns
returns c =
    (c.width_of-filled.ensures, record { each = λ k h. ap (λ (l : List ℕ). get_or l k 0) c.scatter_vector.ensures ∙ get_or_front _ _ _ k h })
