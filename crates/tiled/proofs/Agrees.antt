-- What the tile code computes by a plan's address words is what the contraction's setting says: the words that it reads are the entries at the counts.
-- Assumes nothing.
use mathlib.Core.Path.{◌≡◌, refl, ap}
use mathlib.Core.List.{List, [], ◌∷◌}
use Prim.Native.Nat.{ℕ, ◌*◌, ◌<◌}
use lib.ListN.{get_or}
use Rattle.words.specs.Sums.{All}
use Rattle.words.proofs.Tabulate.{tabulate_ext}
use Rattle.contraction.specs.declared.contraction.Contraction.{Contraction}
use Rattle.contraction.specs.Operands.{named, tensors}
use Rattle.contraction.specs.declared.contraction.Operand.TheVariants.{A, B, C}
use Rattle.questions.proofs.Ready.{AllPassed}
use Rattle.meaning.specs.Meaning.{Slices, lengths_in, start_of, entry}
use Rattle.plan.specs.declared.plan.Plan.{Plan}
use Rattle.plan.specs.Plan.{Planned}
use Rattle.pack.proofs.Packing.{packed_ext}
use Rattle.tiles.specs.declared.grid.Sizes.{Sizes}
use Rattle.tiles.specs.Cut.{Cut, width, total, panel_of}
use Rattle.tiles.specs.Setting.{walk}
use Rattle.tiles.proofs.SettingsAgree.{Agree, walk_agrees as walk_same}
use Rattle.tiles.proofs.Cuts.{place_in_lem}
use Rattle.tiles.proofs.Numbering.{tile_of}
use Rattle.tile_blocks.specs.Side.{Side, left, right, size_on, tile_on, block_on}
use Rattle.tile_blocks.specs.ContractionInTiles.{cut_of, start_at, entry_on, setting}
use Rattle.tile_blocks.specs.Planned.{read_in, plan_setting}
use Rattle.tiling.specs.Work.{packed_block, packed, packed_last, work_after}
use Rattle.accept.proofs.Reaches.{side_entry, out_entry, reaches_d}

-- entries that agree at every count in range are packed alike: the words of a block, and of the work slice
module _ (G : Cut) {entry entry' : Side → ℕ → ℕ → ℕ → ℕ}
    (e : (s : Side) (h m k : ℕ) → h < G.H → m < size_on G s → k < G.K → entry s h m k ≡ entry' s h m k) where
  block_agrees : (s : Side) (n : ℕ) → n < total G → (x : ℕ) → packed_block G entry s n x ≡ packed_block G entry' s n x
  unfolding packed_block
  block_agrees s n b =
      packed_ext (tile_on G s) (width (size_on G s) (tile_on G s) (block_on G n s)) (width G.K G.depth (panel_of G n))
      (λ l d i j. e s _ _ _ (tile_of G n b).batch (place_in_lem (size_on G s) (tile_on G s) (block_on G n s) i) (place_in_lem G.K G.depth (panel_of G n) j))

  packed_agrees : (n : ℕ) → n < total G → (work : List ℕ) → packed G entry n work ≡ packed G entry' n work
  unfolding packed
  packed_agrees n b work = rw (tabulate_ext (G.rows * G.depth) (λ x _. block_agrees left n b x), tabulate_ext (G.cols * G.depth) (λ x _. block_agrees right n b x))

  last_agrees : (ns : List ℕ) → All (λ n. n < total G) ns → (work : List ℕ) → packed_last G entry ns work ≡ packed_last G entry' ns work
  unfolding packed_last
  last_agrees [] below work = refl
  last_agrees (n ∷ []) below work = packed_agrees n below.0 work
  last_agrees (l ∷ m ∷ ns) below work = last_agrees (m ∷ ns) below.1 work

module _ (c : Contraction) (z : Sizes) (w : Slices) (ok : AllPassed (tensors c) (lengths_in c w)) (p : Plan) (q : Planned (tensors c) p) where
  -- what is read are the entries
  read_is : (s : Side) (h m k : ℕ) → h < (cut_of c z).H → m < size_on (cut_of c z) s → k < (cut_of c z).K → read_in p (w A) (w B) s h m k ≡ entry_on c w s h m k
  unfolding entry_on entry
  read_is left h m k bh bm bk = ap (λ (x : ℕ). get_or (w A) x 0) (side_entry c (lengths_in c w) ok p q left h m k bh bm bk).is
  read_is right h m k bh bm bk = ap (λ (x : ℕ). get_or (w B) x 0) (side_entry c (lengths_in c w) ok p q right h m k bh bm bk).is

  settings_agree : Agree (plan_setting p (cut_of c z) (named c) c.alpha c.beta (w A) (w B) (w C)) (setting c z w)
  unfolding plan_setting setting start_at entry
  settings_agree =
      record {
        cut = refl;
        alpha = refl;
        start = λ h i j old bh bi bj. ap (λ (x : ℕ). c.beta * start_of (named c) (get_or (w C) x 0) old) (out_entry c (lengths_in c w) ok p q C refl h i j bh bi bj).is;
        addr = λ h i j bh bi bj. reaches_d c (lengths_in c w) ok p q h i j bh bi bj;
        term = λ h i j k bh bi bj bk. rw (read_is left h i k bh bi bk, read_is right h j k bh bj bk);
      }

  module _ (ns : List ℕ) (below : All (λ n. n < total (cut_of c z)) ns) where
    pub walk_agrees : (d : List ℕ) → walk (plan_setting p (cut_of c z) (named c) c.alpha c.beta (w A) (w B) (w C)) ns d ≡ walk (setting c z w) ns d
    unfolding plan_setting
    walk_agrees d = walk_same settings_agree ns below d

    pub work_agrees : (work : List ℕ) → packed_last (cut_of c z) (read_in p (w A) (w B)) ns work ≡ work_after c z w ns work
    unfolding work_after
    work_agrees work = last_agrees (cut_of c z) read_is ns below work
