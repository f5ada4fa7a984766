-- `run_tiles` meets its contract. The invariant: from `done` to t each tile was run, so D's words are those that they leave, one after the other; the work slice is
-- as it was at first, after a tile that was packed it holds that one's blocks, and the words behind them are as they were. A turn runs tile t, and packs it where it
-- is the last. Zeros past the edges then make these the packed blocks of the last tile.
-- Assumes nothing.
use mathlib.Core.Path.{◌≡◌, sym, ◌∙◌, subst}
use Prim.Native.Nat.{◌+◌, ◌-◌}
use native.Mathlib.Omega.{arith}
use Rattle.words.proofs.Tabulate.{length_tabulate}
use Rattle.tiles.specs.Grid.{cut_in, TileOf}
use Rattle.tiles.specs.Setting.{tiles_from}
use Rattle.tiles.proofs.Sizes.{sum_of_small}
use Rattle.tile_blocks.specs.Planned.{Clear}
use Rattle.tile_blocks.specs.Side.{right}
use Rattle.tile_blocks.proofs.TileParts.{tile_begins}
use Rattle.tiling.proofs.TilesRun.{same_d, none, next, ended, never}
use Rattle.tiling.proofs.run_tiles.run_tiles.Goals as goal

pub overflow_add-end : goal.overflow_add-end
overflow_add-end c = let q = c.requires in omega (arith, sum_of_small q.0.counted.fits)

pub loop-t-init : goal.loop-t-init
loop-t-init c = none _ _ _ _ _ _ _ _ _ _ _ _

pub overflow_add-last : goal.overflow_add-last
overflow_add-last c = let q = c.requires in omega (arith, sum_of_small q.0.counted.fits)

pub run_tile-held-requires : goal.run_tile-held-requires
run_tile-held-requires c =
    let q = c.requires in
    let r = c.loop-t.invariant in
    (q.0, omega arith, subst (Clear _ _ _ _ _ _) (sym (same_d _ _ _ _ _ _ _ _ _ _ _ _ r)) q.2, omega (arith, r.size), λ e. r.blocks e right)

pub loop-t-preserved : goal.loop-t-preserved
loop-t-preserved c =
    let r = c.run_tile-held in
    next _ _ _ _ _ _ _ _ _ _ _ _ c.loop-t.invariant r.ensures.0 r.auto.work r.ensures.1

pub tile-requires : goal.tile-requires
tile-requires c = let q = c.requires in (q.0.counted, omega (arith, q.1))

pub pad_blocks-requires : goal.pad_blocks-requires
pad_blocks-requires c =
    let q = c.requires in
    (q.0.counted.fits, tile_begins q.0 (omega (arith, q.1)) c.tile.ensures, omega (arith, q.3, c.loop-t.invariant.size))

pub shape_of-d-then-count-gt0 : goal.shape_of-d-then-count-gt0
shape_of-d-then-count-gt0 c = same_d _ _ _ _ _ _ _ _ _ _ _ _ c.loop-t.invariant

pub shape_of-work-then-count-gt0 : goal.shape_of-work-then-count-gt0
shape_of-work-then-count-gt0 c = c.pad_blocks.auto.work ∙ c.loop-t.invariant.size

pub returns-then-count-gt0 : goal.returns-then-count-gt0
unfolding tiles_from
returns-then-count-gt0 c =
    let s = c.args in
    let l = c.loop-t in
    let e : l.t ≡ s.done + s.count = omega arith in
    let k : l.t - s.done ≡ s.count = omega (arith, e) in
    let x : TileOf (cut_in s.k.grid.now) (l.t - 1) c.tile.result = rw e c.tile.ensures in
    (omega (arith, e, length_tabulate s.count (λ k. s.done + k)), rw k at l.invariant.words, ended _ _ _ _ _ _ _ _ _ _ _ _ l.invariant e e (omega arith) x c.pad_blocks.ensures)

pub shape_of-d-else-count-gt0 : goal.shape_of-d-else-count-gt0
shape_of-d-else-count-gt0 c = same_d _ _ _ _ _ _ _ _ _ _ _ _ c.loop-t.invariant

pub shape_of-work-else-count-gt0 : goal.shape_of-work-else-count-gt0
shape_of-work-else-count-gt0 c = c.loop-t.invariant.size

pub returns-else-count-gt0 : goal.returns-else-count-gt0
unfolding tiles_from
returns-else-count-gt0 c =
    let s = c.args in
    let l = c.loop-t in
    let e : l.t ≡ s.done + s.count = omega arith in
    let k : l.t - s.done ≡ s.count = omega (arith, e) in
    (omega (arith, e, length_tabulate s.count (λ k. s.done + k)), rw k at l.invariant.words, never _ _ _ _ _ _ _ _ _ _ _ _ l.invariant e (omega arith))
