-- `grid_of` meets its contract: the counts are the sizes of the plan's groups, so that the grid's cut is the plan's.
-- Assumes nothing.
use Rattle.std.proofs.Common.{◌≡◌, sym, ap, ◌∙◌, arith}
use Rattle.groups.specs.Groups.{batch, row, column, depth, size}
use Rattle.groups.specs.Held.{labels_in}
use Rattle.plan.specs.declared.plan.Plan.{Plan}
use Rattle.plan.specs.Plan.{planned}
use Rattle.tiles.specs.declared.grid.Sizes.{Sizes}
use Rattle.tiles.specs.declared.grid.Counts.{Counts}
use Rattle.tiles.specs.declared.grid.Grid.{Grid}
use Rattle.tiles.specs.Cut.{Cut, cut_by}
use Rattle.tiles.specs.Grid.{cut_in, Fits, Counted}
use Rattle.tile_blocks.specs.Planned.{plan_cut, GridOf, PlanFits}
use Rattle.tile_blocks.proofs.plan_grid.grid_of.Goals as goal

-- the tile's sizes in a cut
abbrev sizes_in : Cut → Sizes
sizes_in G = record { rows = G.rows; cols = G.cols; depth = G.depth }

module _ (p : Plan) (z : Sizes) (f : PlanFits p z) where
  -- counts that are the sizes of the plan's groups
  module _ (n : Counts) (eb : n.batch ≡ size (labels_in (planned p batch))) (er : n.row ≡ size (labels_in (planned p row)))
      (ec : n.column ≡ size (labels_in (planned p column))) (ed : n.depth ≡ size (labels_in (planned p depth))) where
    same_cut : cut_by n z ≡ plan_cut p z
    same_cut = rw (eb, er, ec, ed)

    cut_fits : Fits (cut_by n z)
    cut_fits = rw same_cut f.fits

    grid_of_plan : (g : Grid) → cut_in g ≡ cut_by n z → Counted g → GridOf p g × (g.sizes ≡ z)
    grid_of_plan g e k =
        let sizes : g.sizes ≡ z = ap sizes_in e in
        (record { counted = k; same = e ∙ same_cut ∙ ap (plan_cut p) (sym sizes); few = f.few }, sizes)

pub size_from-requires : goal.size_from-requires
size_from-requires c = let f = c.requires in (f.few batch, omega arith, f.foldable batch)

pub size_from-requires-2 : goal.size_from-requires-2
size_from-requires-2 c = let f = c.requires in (f.few row, omega arith, f.foldable row)

pub size_from-requires-3 : goal.size_from-requires-3
size_from-requires-3 c = let f = c.requires in (f.few column, omega arith, f.foldable column)

pub size_from-requires-4 : goal.size_from-requires-4
size_from-requires-4 c = let f = c.requires in (f.few depth, omega arith, f.foldable depth)
