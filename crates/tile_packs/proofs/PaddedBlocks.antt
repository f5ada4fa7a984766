-- Zeros past the edges of the two packed blocks: the first block is at the front of the work slice, the second at the front of the part right behind it.
-- Assumes nothing.
use mathlib.Core.Path.{◌≡◌, ap, ◌∙◌}
use mathlib.Core.List.{List, [], ◌++◌, append-nil}
use Prim.Native.Nat.{ℕ, ◌+◌, ◌-◌, ◌*◌, ◌≤◌}
use native.Mathlib.Omega.{arith}
use lib.ListN.{length, get_or, take, drop, length-take, length-drop, drop_of_length-le}
use lib.Seq.{take_all, take_at, drop-drop, get_or-drop}
use borrow.Rule.Slice.PartMut.{mid_of, put_mid}
use Rattle.words.specs.Lists.{tabulate}
use Rattle.words.proofs.Tabulate.{length_tabulate, tabulate_ext}
use Rattle.words.specs.Fronts.{front}
use Rattle.words.proofs.Fronts.{length_front, drop_front}
use Rattle.pack.specs.Packed.{packed_word}
use Rattle.pack.proofs.Packing.{packed_ext}
use Rattle.tiles.specs.declared.grid.Tile.{Tile}
use Rattle.tiles.specs.Cut.{Cut}
use Rattle.tile_blocks.specs.Side.{left, right}
use Rattle.tile_packs.specs.TilePacks.{packs, side_width, panel_width, padded_word, padded}

-- the part behind a front is the list's
behind_front : (a : ℕ) (f : ℕ → ℕ) (xs : List ℕ) {ys : List ℕ} → ys ≡ front a f xs → mid_of a (length ys - a) ys ≡ drop a xs
behind_front a f xs {ys} e = take_all (length ys - a) (drop a ys) (omega (arith, length-drop a ys)) ∙ ap (drop a) e ∙ drop_front a f xs

-- a front, and then a front of the part behind it
two_fronts : (a b : ℕ) (f g : ℕ → ℕ) (xs : List ℕ) {ys part : List ℕ} → ys ≡ front a f xs → part ≡ front b g (mid_of a (length ys - a) ys)
    → put_mid a (length ys - a) ys part ≡ tabulate a f ++ (tabulate b g ++ drop (a + b) xs)
unfolding front
two_fronts a b f g xs {ys} {part} e q =
    let none : drop (length ys - a) (drop a ys) ≡ [] = drop_of_length-le (drop a ys) {i = length ys - a} (omega (arith, length-drop a ys)) in
    let first : take a ys ≡ tabulate a f = ap (take a) e ∙ take_at (tabulate a f) (drop a xs) a (length_tabulate a f) in
    let second : part ≡ tabulate b g ++ drop (a + b) xs =
    q ∙ ap (λ (l : List ℕ). tabulate b g ++ drop b l) (behind_front a f xs e) ∙ ap (λ (l : List ℕ). tabulate b g ++ l) (drop-drop b a xs) in
    rw (first, second, none) (ap (λ (l : List ℕ). tabulate a f ++ l) (append-nil (tabulate b g ++ drop (a + b) xs)))

module _ (G : Cut) (x : Tile) (work : List ℕ) {ys : List ℕ}
    (e : ys ≡ front (G.rows * G.depth) (packed_word G.rows (side_width G x left) (panel_width G x) (λ n d. get_or work (G.rows * d + n) 0)) work) where
  abbrev part : List ℕ
  part = mid_of (G.rows * G.depth) (length ys - G.rows * G.depth) ys

  -- it has room for the second block
  pub part_room : packs G ≤ length work → G.cols * G.depth ≤ length part
  part_room h =
      let k : length ys ≡ length work = ap length e ∙ length_front (G.rows * G.depth) _ work (omega arith) in
      simp (length-take, length-drop) (omega arith)

  pub both_padded : {after : List ℕ}
      → after ≡ front (G.cols * G.depth) (packed_word G.cols (side_width G x right) (panel_width G x) (λ n d. get_or part (G.cols * d + n) 0)) part
      → put_mid (G.rows * G.depth) (length ys - G.rows * G.depth) ys after ≡ padded G x work
  unfolding padded
  both_padded q =
      let g = packed_word G.cols (side_width G x right) (panel_width G x) (λ n d. get_or part (G.cols * d + n) 0) in
      two_fronts (G.rows * G.depth) (G.cols * G.depth) _ g work e q
      ∙ ap (λ (l : List ℕ). l ++ (tabulate (G.cols * G.depth) g ++ drop (packs G) work))
      (tabulate_ext (G.rows * G.depth) (λ y h. packed_ext G.rows (side_width G x left) (panel_width G x) (λ n d b c. ap (λ (z : ℕ). get_or work z 0) (omega arith)) y))
      ∙ ap (λ (l : List ℕ). tabulate (G.rows * G.depth) (padded_word G x left work) ++ (l ++ drop (packs G) work))
      (tabulate_ext (G.cols * G.depth) (λ y h. packed_ext G.cols (side_width G x right) (panel_width G x)
      (λ n d b c. ap (λ (l : List ℕ). get_or l (G.cols * d + n) 0) (behind_front (G.rows * G.depth) _ work e) ∙ get_or-drop (G.rows * G.depth) work (G.cols * d + n) 0) y))
