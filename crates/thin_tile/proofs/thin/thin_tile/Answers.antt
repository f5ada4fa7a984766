-- `thin_tile` meets its contract: the blocks lie where the tile stands, so that each place that the lines read or write is inside, and they leave what the tile does,
-- the few columns one after the other, or else the few rows.
-- Assumes nothing.
use mathlib.Core.Path.{◌≡◌}
use mathlib.Core.Bool.{Bool, true, false, cond}
use mathlib.Core.List.{List}
use Prim.Native.Nat.{ℕ}
use Rattle.tiles.specs.Grid.{cut_in}
use Rattle.thin_tile.proofs.ThinSteps.{rows_clear, columns_clear, rows_added_lem, columns_added}
use Rattle.thin_tile.proofs.thin.thin_tile.Goals as goal

-- what was done, or nothing
either : (r : Bool) (x y e : List ℕ) {d : List ℕ} → d ≡ cond r x e → (d ≡ x → d ≡ y) → d ≡ cond r y e
either true x y e q h = h q
either false x y e q h = q

pub thin_lines-requires : goal.thin_lines-requires
thin_lines-requires c =
    let t = c.args.t in
    rows_clear t.plan.now (cut_in t.grid.now) t.at c.rows-rows.ensures c.columns-cols.ensures c.rows-down.ensures c.columns-across.ensures
    c.start-to.ensures c.starts_in-in_a.ensures c.starts_in-in_b.ensures c.filled-deep.ensures
    c.requires.0.grid.counted.fits c.requires.0.begins c.requires.1

pub thin_lines-requires-else-cols-le4 : goal.thin_lines-requires-else-cols-le4
thin_lines-requires-else-cols-le4 c =
    let t = c.args.t in
    columns_clear t.plan.now (cut_in t.grid.now) t.at c.rows-rows.ensures c.columns-cols.ensures c.rows-down.ensures c.columns-across.ensures
    c.start-to.ensures c.starts_in-in_a.ensures c.starts_in-in_b.ensures c.filled-deep.ensures
    c.requires.0.grid.counted.fits c.requires.0.begins c.requires.1

pub returns-then-cols-le4 : goal.returns-then-cols-le4
returns-then-cols-le4 c =
    let s = c.args in
    either c.thin_lines.result _ _ _ c.thin_lines.ensures
    (rows_added_lem s.t.plan.now (cut_in s.t.grid.now) s.t.at c.rows-rows.ensures c.columns-cols.ensures c.rows-down.ensures c.columns-across.ensures
    c.start-to.ensures c.starts_in-in_a.ensures c.starts_in-in_b.ensures c.filled-deep.ensures
    s.alpha s.beta c.then_some.ensures s.a.now s.b.now s.d.now)

pub returns-else-cols-le4 : goal.returns-else-cols-le4
returns-else-cols-le4 c =
    let s = c.args in
    either c.thin_lines-else-cols-le4.result _ _ _ c.thin_lines-else-cols-le4.ensures
    (columns_added s.t.plan.now (cut_in s.t.grid.now) s.t.at c.rows-rows.ensures c.columns-cols.ensures c.rows-down.ensures c.columns-across.ensures
    c.start-to.ensures c.starts_in-in_a.ensures c.starts_in-in_b.ensures c.filled-deep.ensures
    s.alpha s.beta c.then_some.ensures s.a.now s.b.now s.d.now c.requires.0.begins c.requires.1)
