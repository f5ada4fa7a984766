-- One tile by its phases. Where the tile stands gives each place that it reads or writes, and that is the place of an entry or of an output at the
-- tile's counts. So what is packed is the tile's blocks, and the sums that the kernel makes of them are the panel's, which go to the tile's places.
-- Assumes nothing.
use mathlib.Core.Path.{◌≡◌, refl, ap, sym, ◌∙◌}
use mathlib.Core.Bool.{Bool, true, false, cond}
use mathlib.Core.List.{List, []}
use Prim.Native.Nat.{ℕ, ◌+◌, ◌*◌, ◌<◌, ◌≤◌}
use native.Mathlib.Nat.{le_trans}
use native.Mathlib.Omega.{arith}
use lib.Dec.{eqb}
use lib.ListN.{get_or, set}
use Rattle.std.specs.Prelude.{Option}
use Rattle.std.specs.Bool.{then_some}
use Rattle.words.specs.Words.{word}
use Rattle.words.specs.Loops.{each, put}
use Rattle.words.specs.Sums.{sum_to}
use Rattle.words.proofs.Modular.{word_add_right, word_mul_right}
use Rattle.words.proofs.Loops.{each_ext}
use Rattle.words.proofs.Sums.{sum_to_ext}
use Rattle.limits.specs.Limits.{block_limit}
use Rattle.contraction.specs.declared.contraction.Operand.{Operand}
use Rattle.contraction.specs.declared.contraction.Operand.TheVariants.{C, D}
use Rattle.plan.specs.declared.plan.Plan.{Plan}
use Rattle.block.specs.declared.block.Block.{Block}
use Rattle.block.specs.Places.{place_of, as_step, PlacesIn}
use Rattle.kernel.specs.Kernel.{column_sum}
use Rattle.accumulate.specs.declared.accumulate.Factors.{Factors}
use Rattle.accumulate.specs.Added.{times_beta, added_to}
use Rattle.copy.specs.Copied.{column_copied}
use Rattle.copy.specs.CopyNeeds.{Copyable}
use Rattle.columns.specs.declared.column_stores.Packing.{Packing}
use Rattle.columns.specs.ColumnNeeds.{Multipliable}
use Rattle.columns.specs.Stored.{tile_sum, column_stored}
use Rattle.tiles.specs.declared.grid.Tile.{Tile}
use Rattle.tiles.specs.Cut.{Cut}
use Rattle.tiles.specs.Grid.{Fits}
use Rattle.tiles.specs.Setting.{Setting, panel_sum, add_panel, visit}
use Rattle.tiles.specs.TileWalk.{tile_at}
use Rattle.tiles.proofs.Cuts.{width_le, panel_width_lem}
use Rattle.tile_blocks.specs.Side.{Side, left, right}
use Rattle.tile_blocks.specs.Planned.{at_batch, place_of_output, plan_setting}
use Rattle.tile_blocks.specs.PlannedTiles.{SideBlock}
use Rattle.tile_blocks.specs.TilePlaces.{Begins}
use Rattle.tile_packs.specs.TilePacks.{packs, side_width, panel_width}
use Rattle.tile_packs.proofs.SideBlocks.{in_lane, count_in}
use Rattle.phases.specs.Phases.{OutputClear, from_c, PackedIn}

-- the packed tile's sizes, as the kernel gets them
abbrev packing : Cut → ℕ → Packing
packing G filled = record { rows = G.rows; cols = G.cols; depth = G.depth; filled = filled }

-- the old word times a beta that the first panel alone has
first_times : (first : Bool) (beta w : ℕ) → times_beta (then_some first beta) w ≡ cond first (beta * w) w
first_times true beta w = refl
first_times false beta w = refl

module _ (p : Plan) (G : Cut) (x : Tile) where
  -- ---- a tile of an output tensor
  module _ (o : Operand) {rows cols : Block} (r : SideBlock p G x o left rows) (c : SideBlock p G x o right cols) {from : ℕ} (e : from ≡ at_batch p x.batch o) where
    pub place_out : (i j : ℕ) → i < rows.count → j < cols.count
        → place_of (place_of from cols.offsets j) rows.offsets i ≡ place_of_output p o x.batch (x.row * G.rows + i) (x.column * G.cols + j)
    unfolding place_of_output
    place_out i j h l = rw (e, c.offsets j (rw c.used at l), r.offsets i (rw r.used at h))

    pub places_in : {n : ℕ} → Begins G x → OutputClear p G o n → PlacesIn from cols.offsets cols.count rows.offsets rows.count n
    places_in begins clear =
        record {
          each = λ j h. record { each = λ i m. rw (place_out i j m h) (clear.inside _ _ _ begins.batch (count_in p G x left r m) (count_in p G x right c h)) };
        }

  -- ---- C's words are put at D's places
  module _ {rows cols down across : Block} (r : SideBlock p G x C left rows) (c : SideBlock p G x C right cols) {from : ℕ} (e : from ≡ at_batch p x.batch C)
      (u : SideBlock p G x D left down) (v : SideBlock p G x D right across) {to : ℕ} (f : to ≡ at_batch p x.batch D) where
    pub copyable : {m n : ℕ} → Fits G → Begins G x → OutputClear p G C m → OutputClear p G D n → Copyable from rows cols to down across m n
    copyable fits begins reads writes =
        record {
          few_rows = in_block left u fits;
          few_columns = in_block right v fits;
          same_rows = r.used ∙ sym u.used;
          same_columns = c.used ∙ sym v.used;
          reads = places_in C r c e begins reads;
          writes = places_in D u v f begins writes;
        }
      where
        in_block : (s : Side) {b : Block} → SideBlock p G x D s b → Fits G → b.count ≤ block_limit
        in_block s k fits = le_trans (in_lane p G x s k fits).fits (in_lane p G x s k fits).narrow

    pub copied : (words d : List ℕ) {after : List ℕ} → after ≡ each across.count (column_copied words from rows cols to down across) d → after ≡ from_c p G x words d
    unfolding tile_at
    copied words d q =
        q ∙ each_ext across.count (λ j l. each_ext down.count (λ i h. one i j h l)) d ∙ rw (u.used, v.used)
      where
        one : (i j : ℕ) → i < down.count → j < across.count → (xs : List ℕ)
            → put (λ old. get_or words (place_of (place_of from cols.offsets j) rows.offsets i) 0) (place_of (place_of to across.offsets j) down.offsets i) xs
            ≡ put (λ old. get_or words (place_of_output p C x.batch (x.row * G.rows + i) (x.column * G.cols + j)) 0)
            (place_of_output p D x.batch (x.row * G.rows + i) (x.column * G.cols + j)) xs
        one i j h l xs = rw (place_out D u v f i j h l, place_out C r c e i j (rw (r.used, ← u.used) h) (rw (c.used, ← v.used) l))

  -- ---- sums are added to D's words
  module _ {rows cols : Block} (r : SideBlock p G x D left rows) (c : SideBlock p G x D right cols) {from : ℕ} (e : from ≡ at_batch p x.batch D)
      (alpha beta : ℕ) {once : Option ℕ} (z : once ≡ then_some (eqb x.panel 0) beta) (a b : List ℕ) where
    abbrev S : Setting
    S = plan_setting p G false alpha beta a b []

    abbrev factors : Factors
    factors = record { alpha = alpha; beta = once }

    -- the sum of each row and column is their panel sum
    module _ (sum : ℕ → ℕ → ℕ) (is : (i j : ℕ) → i < side_width G x left → j < side_width G x right
        → sum i j ≡ panel_sum S x.batch (x.row * G.rows + i) (x.column * G.cols + j) x.panel) where
      -- what becomes of a word: to reduce the sum first changes nothing
      word_added : (i j : ℕ) → i < side_width G x left → j < side_width G x right → (v : ℕ)
          → added_to factors (word 32 (sum i j)) v ≡ add_panel S x.panel x.batch (x.row * G.rows + i) (x.column * G.cols + j) v
      unfolding add_panel plan_setting
      word_added i j h l v =
          let y = times_beta once v in
          sym (word_add_right 32 y (alpha * word 32 (sum i j)))
          ∙ ap (λ (u : ℕ). word 32 (y + u)) (word_mul_right 32 alpha (sum i j))
          ∙ word_add_right 32 y (alpha * sum i j)
          ∙ rw (z, first_times (eqb x.panel 0) beta v, is i j h l)

      -- the stores, one and all
      abbrev stores : ℕ → ℕ → List ℕ → List ℕ
      stores j i = put (added_to factors (word 32 (sum i j))) (place_of (place_of from cols.offsets j) rows.offsets i)

      store_added : (i j : ℕ) → i < rows.count → j < cols.count → (xs : List ℕ)
          → stores j i xs
          ≡ put (add_panel S x.panel x.batch (x.row * G.rows + i) (x.column * G.cols + j)) (place_of_output p D x.batch (x.row * G.rows + i) (x.column * G.cols + j)) xs
      unfolding put
      store_added i j h l xs = rw (place_out D r c e i j h l) (ap (set xs _) (word_added i j (rw r.used at h) (rw c.used at l) _))

      pub sums_added : (d : List ℕ) {after : List ℕ} → after ≡ each cols.count (λ j. each rows.count (stores j)) d
          → after ≡ tile_at G (visit S) x.batch x.column x.panel x.row d
      unfolding tile_at plan_setting
      sums_added d q =
          q ∙ each_ext cols.count (λ j l. each_ext rows.count (λ i h. store_added i j h l)) d
          ∙ rw (c.used, r.used)

  -- ---- the packed blocks are multiplied
  module _ {rows cols : Block} (r : SideBlock p G x D left rows) (c : SideBlock p G x D right cols) {from : ℕ} (e : from ≡ at_batch p x.batch D)
      {filled : ℕ} (f : filled ≡ panel_width G x) where
    pub multipliable : {d work : ℕ} → Fits G → Begins G x → OutputClear p G D d → packs G ≤ work
        → Multipliable from rows.offsets rows.lengths rows.count cols.offsets cols.count (as_step cols.step) (packing G filled) d work
    multipliable fits begins clear room =
        record {
          row = in_lane p G x left r fits;
          column = in_lane p G x right c fits;
          measured = rw r.used r.lengths;
          stepped = rw c.used c.step;
          lanes = rw f (width_le G.K G.depth x.panel);
          shallow = fits.depth_few;
          writes = places_in D r c e begins clear;
          room = room;
        }

    -- ---- what the stores leave, whichever words of A and B were packed
    module _ (alpha beta : ℕ) {once : Option ℕ} (z : once ≡ then_some (eqb x.panel 0) beta) {work : List ℕ} (a b : List ℕ) (w : PackedIn p G x a b work) where
      -- the sum of a row and a column is their panel sum
      tile_sum_lem : (i j : ℕ) → i < side_width G x left → j < side_width G x right
          → tile_sum work (packing G filled) i j
          ≡ panel_sum (plan_setting p G false alpha beta a b []) x.batch (x.row * G.rows + i) (x.column * G.cols + j) x.panel
      unfolding tile_sum column_sum panel_sum plan_setting
      tile_sum_lem i j h l =
          ap (λ (m : ℕ). sum_to m (λ d. get_or work (G.rows * d + i) 0 * get_or work (G.rows * G.depth + j + G.cols * d) 0)) (f ∙ sym (panel_width_lem G x.panel))
          ∙ sum_to_ext _ (λ d k. let m : d < panel_width G x = rw (panel_width_lem G x.panel) at k in
          let front : G.rows * d + i ≡ 0 + (G.rows * d + i) = omega arith in
          let behind : G.rows * G.depth + j + G.cols * d ≡ G.rows * G.depth + (G.cols * d + j) = omega arith in
          rw (ap (λ (y : ℕ). get_or work y 0) front ∙ w.each left i d h m, ap (λ (y : ℕ). get_or work y 0) behind ∙ w.each right j d l m))

      pub multiplied : (d : List ℕ) {after : List ℕ}
          → after ≡ each cols.count (column_stored work (packing G filled) (record { alpha = alpha; beta = once }) from cols.offsets rows.offsets rows.count) d
          → after ≡ tile_at G (visit (plan_setting p G false alpha beta a b [])) x.batch x.column x.panel x.row d
      multiplied = sums_added r c e alpha beta z a b (tile_sum work (packing G filled)) tile_sum_lem
