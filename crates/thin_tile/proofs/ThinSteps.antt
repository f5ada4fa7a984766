-- A thin tile by its lines. Where the tile stands gives each place that a line reads or writes, and the sum of a line's place is the panel's. To go along the columns
-- and not along the rows changes nothing: no two outputs have a place in common.
-- Assumes nothing.
use mathlib.Core.Path.{◌≡◌, refl, ap, sym, ◌∙◌}
use mathlib.Core.Bool.{false}
use mathlib.Core.Logic.{◌≢◌}
use mathlib.Core.List.{List, []}
use Prim.Native.Nat.{ℕ, ◌+◌, ◌*◌, ◌<◌, ◌≤◌}
use native.Mathlib.Nat.{le_refl, le_trans, mul_comm}
use native.Mathlib.Omega.{arith}
use lib.Dec.{eqb}
use lib.ListN.{length, get_or}
use Rattle.std.specs.Prelude.{Option}
use Rattle.std.specs.Bool.{then_some}
use Rattle.words.specs.Words.{word}
use Rattle.words.specs.Sums.{sum_to}
use Rattle.words.specs.Loops.{put}
use Rattle.words.proofs.Modular.{word_add_left}
use Rattle.words.proofs.Loops.{each_ext, each_turned}
use Rattle.words.proofs.Store.{put_pass}
use Rattle.words.proofs.Sums.{sum_to_ext}
use Rattle.limits.specs.Limits.{block_limit}
use Rattle.contraction.specs.declared.contraction.Operand.TheVariants.{A, B, D}
use Rattle.groups.specs.Groups.{depth}
use Rattle.groups.specs.Held.{labels_in}
use Rattle.plan.specs.declared.plan.Plan.{Plan}
use Rattle.plan.specs.Plan.{planned}
use Rattle.block.specs.declared.block.Block.{Block}
use Rattle.block.specs.Places.{place_of, PlacesIn}
use Rattle.pack.specs.PackNeeds.{Packable}
use Rattle.accumulate.specs.declared.accumulate.Factors.{Factors}
use Rattle.accumulate.specs.Added.{added_to}
use Rattle.tiles.specs.declared.grid.Tile.{Tile}
use Rattle.tiles.specs.Cut.{Cut, width}
use Rattle.tiles.specs.Grid.{Fits}
use Rattle.tiles.specs.Setting.{panel_sum}
use Rattle.tiles.proofs.Cuts.{panel_width_lem}
use Rattle.tile_blocks.specs.Side.{Side, left, right, both, tensor_on, tile_on}
use Rattle.tile_blocks.specs.Planned.{at_batch, plan_setting}
use Rattle.tile_blocks.specs.PlannedTiles.{SideBlock}
use Rattle.tile_blocks.specs.TilePlaces.{Begins, Starts}
use Rattle.tile_packs.specs.TilePacks.{side_width, panel_width}
use Rattle.tile_packs.proofs.SideBlocks.{in_lane, count_in, place_at, side_packable}
use Rattle.phases.proofs.TileSteps.{place_out, places_in, sums_added}
use Rattle.thin_lines.specs.ThinLines.{cross_sum, lines_added, LinesClear}
use Rattle.thin_tile.specs.ThinTile.{TileClear, tile_added}

-- a place by two offsets, in either order
place_swap : (from : ℕ) (xs ys : List ℕ) (i j : ℕ) → place_of (place_of from xs i) ys j ≡ place_of (place_of from ys j) xs i
place_swap from xs ys i j =
    word_add_left 64 (from + get_or xs i 0) (get_or ys j 0) ∙ ap (word 64) (omega arith) ∙ sym (word_add_left 64 (from + get_or ys j 0) (get_or xs i 0))

-- the product of the two words, in either order
cross_swap : (long starts offsets short begins places : List ℕ) (n r q : ℕ)
    → cross_sum long starts offsets short begins places n r q ≡ cross_sum short begins places long starts offsets n q r
unfolding cross_sum
cross_swap long starts offsets short begins places n r q = sum_to_ext n (λ k h. mul_comm _ _)

-- a block that begins inside has a count
width_some : (n b k : ℕ) → 0 < b → k * b < n → 1 ≤ width n b k
unfolding width
width_some n b k h l = omega arith

some : (s : Side) {G : Cut} {x : Tile} → Fits G → Begins G x → 1 ≤ side_width G x s
some left {G} {x} f b = width_some G.M G.rows x.row f.rows_pos (b.side left)
some right {G} {x} f b = width_some G.N G.cols x.column f.cols_pos (b.side right)

module _ (p : Plan) (G : Cut) (x : Tile) where
  -- where the depth counts of the tile's panel begin in a side's tensor
  abbrev PanelStarts : Side → List ℕ → Type 0
  PanelStarts s = Starts (tensor_on s) (at_batch p x.batch (tensor_on s)) (labels_in (planned p depth)) (x.panel * G.depth) (panel_width G x)

  few : (s : Side) {k : Block} → SideBlock p G x (tensor_on s) s k → Fits G → k.count ≤ block_limit
  few s q fits = le_trans (in_lane p G x s q fits).fits (in_lane p G x s q fits).narrow

  -- a side's block as it would be packed
  packable : (s : Side) {k : Block} {starts : List ℕ} {m n d : ℕ} → SideBlock p G x (tensor_on s) s k → PanelStarts s starts → Fits G → Begins G x → TileClear p G m n d
      → Packable starts (panel_width G x) k (tile_on G s) (both m n s) (tile_on G s * G.depth)
  packable s q z fits begins clear = side_packable p G x s q refl refl z fits begins (record { reads = clear.reads s; room = le_refl _ })

  -- the lines of a short side o along a long side s
  lines_clear : (s o : Side) {l t along across : Block} {starts begins : List ℕ} {deep to m n d : ℕ} → SideBlock p G x (tensor_on s) s l → SideBlock p G x (tensor_on o) o t
      → SideBlock p G x D s along → PanelStarts s starts → PanelStarts o begins → deep ≡ panel_width G x → Fits G → Begins G x → TileClear p G m n d
      → PlacesIn to across.offsets t.count along.offsets l.count d → LinesClear starts begins deep l t to along across (both m n s) (both m n o) d
  lines_clear s o r c u a b f fits begins clear w =
      record {
        lines = few o c fits;
        reads = record {
          some = rw r.used (some s fits begins);
          few = few s r fits;
          shallow = rw f (packable s r a fits begins clear).lanes;
          reads = rw f (packable s r a fits begins clear).reads;
        };
        words = rw f (packable o c b fits begins clear).reads;
        measured = rw r.used u.lengths;
        writes = w;
      }

  module _ {rows cols down across : Block} (r : SideBlock p G x A left rows) (c : SideBlock p G x B right cols) (u : SideBlock p G x D left down)
      (v : SideBlock p G x D right across) {to : ℕ} (e : to ≡ at_batch p x.batch D) {in-a in_b : List ℕ} (ta : PanelStarts left in-a) (tb : PanelStarts right in_b)
      {deep : ℕ} (f : deep ≡ panel_width G x) where
    same_rows : down.count ≡ rows.count
    same_rows = u.used ∙ sym r.used

    same_cols : across.count ≡ cols.count
    same_cols = v.used ∙ sym c.used

    written : {m n d : ℕ} → Begins G x → TileClear p G m n d → PlacesIn to across.offsets cols.count down.offsets rows.count d
    written begins clear = rw (same_rows, same_cols) at (places_in p G x D u v e begins (record { inside = λ h i j k l q. clear.places.inside h i j (k, l, q) }))

    -- ---- what may be assumed of the lines
    pub rows_clear : {m n d : ℕ} → Fits G → Begins G x → TileClear p G m n d → LinesClear in-a in_b deep rows cols to down across m n d
    rows_clear fits begins clear = lines_clear left right r c u ta tb f fits begins clear (written begins clear)

    pub columns_clear : {m n d : ℕ} → Fits G → Begins G x → TileClear p G m n d → LinesClear in_b in-a deep cols rows to across down n m d
    columns_clear fits begins clear =
        lines_clear right left c r v tb ta f fits begins clear
        (record { each = λ i h. record { each = λ j l. rw (place_swap to down.offsets across.offsets i j) (((written begins clear).each j l).each i h) } })

    -- ---- what the lines leave
    module _ (alpha beta : ℕ) {once : Option ℕ} (z : once ≡ then_some (eqb x.panel 0) beta) (a b : List ℕ) where
      abbrev sum : ℕ → ℕ → ℕ
      sum = cross_sum a in-a rows.offsets b in_b cols.offsets deep

      abbrev factors : Factors
      factors = record { alpha = alpha; beta = once }

      cross_sum_lem : (i j : ℕ) → i < side_width G x left → j < side_width G x right
          → sum i j ≡ panel_sum (plan_setting p G false alpha beta a b []) x.batch (x.row * G.rows + i) (x.column * G.cols + j) x.panel
      unfolding cross_sum panel_sum plan_setting
      cross_sum_lem i j h l =
          ap (λ (m : ℕ). sum_to m (λ k. get_or a (place_of (get_or in-a k 0) rows.offsets i) 0 * get_or b (place_of (get_or in_b k 0) cols.offsets j) 0)) (f ∙ sym (panel_width_lem G x.panel))
          ∙ sum_to_ext _ (λ k q. let m : k < panel_width G x = rw (panel_width_lem G x.panel) at q in
          rw (place_at p G x left r refl refl ta i k (rw r.used h) m, place_at p G x right c refl refl tb j k (rw c.used l) m))

      pub rows_added_lem : (d : List ℕ) {after : List ℕ} → after ≡ lines_added factors sum to across.offsets cols.count down.offsets rows.count d → after ≡ tile_added p G x alpha beta a b d
      rows_added_lem d q = sums_added p G x u v e alpha beta z a b sum cross_sum_lem d (rw (← same_rows, ← same_cols) at q)

      -- the store of a row and a column
      abbrev stores : ℕ → ℕ → List ℕ → List ℕ
      stores i j = put (added_to factors (word 32 (sum i j))) (place_of (place_of to across.offsets j) down.offsets i)

      -- those of two rows are apart
      apart : {m n d : ℕ} → Begins G x → TileClear p G m n d → (i k j l : ℕ) → i < k → k < rows.count → j < cols.count → l < cols.count
          → place_of (place_of to across.offsets j) down.offsets i ≢ place_of (place_of to across.offsets l) down.offsets k
      apart begins clear i k j l h hk hj hl w =
          let ri : i < down.count = omega (arith, same_rows) in
          let rk : k < down.count = omega (arith, same_rows) in
          let cj : j < across.count = omega (arith, same_cols) in
          let cl : l < across.count = omega (arith, same_cols) in
          let same = clear.places.apart _ _ _ _ _ _
          (begins.batch, count_in p G x left u ri, count_in p G x right v cj) (begins.batch, count_in p G x left u rk, count_in p G x right v cl)
          (sym (place_out p G x D u v e i j ri cj) ∙ w ∙ place_out p G x D u v e k l rk cl) in
          omega (arith, same.1)

      pub columns_added : {m n : ℕ} (d : List ℕ) {after : List ℕ} → Begins G x → TileClear p G m n (length d)
          → after ≡ lines_added factors (cross_sum b in_b cols.offsets a in-a rows.offsets deep) to down.offsets rows.count across.offsets cols.count d
          → after ≡ tile_added p G x alpha beta a b d
      columns_added d begins clear q =
          rows_added_lem d
          (q
          ∙ each_ext rows.count (λ i h. each_ext cols.count (λ j l ys. rw (place_swap to down.offsets across.offsets i j, cross_swap b in_b cols.offsets a in-a rows.offsets deep j i))) d
          ∙ each_turned stores rows.count cols.count (λ i k j l h hk hj hl. put_pass _ _ _ _ (apart begins clear i k j l h hk hj hl)) d)
