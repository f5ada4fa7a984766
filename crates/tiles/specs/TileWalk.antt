-- Tiles run one after the other on any state, and a law about every list of them: what becomes of the cells, of any type, that the state holds.
-- Assumes nothing.
use Rattle.std.specs.Prelude.{ℕ, ◌+◌, ◌*◌, ◌/◌, ◌<◌, ◌≡◌, ◌≢◌, Bool, ◌&&◌, List, [], ◌∷◌, map, eqb}
use Rattle.words.specs.Sums.{All}
use Rattle.words.specs.Lists.{keep}
use Rattle.words.specs.Loops.{each}
use Rattle.tiles.specs.Cut.{Cut, width, InSizes, total, batch_of, column_of, panel_of, row_of}

-- ---- a walk: tiles one after the other, each of which visits the output indices of its block

-- `visit p h i j` is what panel p does to a state at the output index of batch count h, row count i and column count j
module _ {S : Type 0} (G : Cut) (visit : ℕ → ℕ → ℕ → ℕ → S → S) where
  open G use {M, N, rows, cols}

  -- the tile of h, c, p, r: row a of its block is row r * rows + a, column b is column c * cols + b
  unfoldable pub tile_at : ℕ → ℕ → ℕ → ℕ → S → S
  tile_at h c p r = each (width N cols c) (λ b. each (width M rows r) (λ a. visit p h (r * rows + a) (c * cols + b)))

  -- the tile of number n
  unfoldable pub visit_tile : ℕ → S → S
  visit_tile n = tile_at (batch_of G n) (column_of G n) (panel_of G n) (row_of G n)

  -- the tiles of a list of numbers, in the list's order
  unfoldable pub walk_tiles : List ℕ → S → S
  walk_tiles [] s = s
  walk_tiles (n ∷ ns) s = walk_tiles ns (visit_tile n s)

-- ---- the panels that a list of tiles brings to an output index

module _ (G : Cut) where
  open G use {rows, cols}

  -- does tile n visit the output index h i j?
  unfoldable pub holds : ℕ → ℕ → ℕ → ℕ → Bool
  holds h i j n = eqb (batch_of G n) h && (eqb (column_of G n) (j / cols) && eqb (row_of G n) (i / rows))

  -- the panels of the tiles that do, in the list's order
  unfoldable pub panels_of : List ℕ → ℕ → ℕ → ℕ → List ℕ
  panels_of ns h i j = map (panel_of G) (keep (holds h i j) ns)

-- what panels, one after the other, make of x, where panel p makes f p x of it
unfoldable pub after : {X : Type 0} → (ℕ → X → X) → List ℕ → X → X
after f [] x = x
after f (p ∷ ps) x = after f ps (f p x)

-- ---- cells: what a state holds at its places, each read and written by itself

pub record Cells (S X : Type 0) : Type 0 where
  pub size : S → ℕ  -- how many places there are
  pub read : ℕ → S → X  -- the cell at a place
  pub write : ℕ → X → S → S  -- the state with another cell there
  -- what is written is read again; the other cells and the size stay
  pub same : (y : ℕ) (x : X) (s : S) → y < size s → read y (write y x s) ≡ x
  pub other : (y z : ℕ) (x : X) (s : S) → y ≢ z → read z (write y x s) ≡ read z s
  pub kept : (y : ℕ) (x : X) (s : S) → size (write y x s) ≡ size s

-- each output index h i j has a place of its own, addr h i j
pub record OwnPlaces (G : Cut) (addr : ℕ → ℕ → ℕ → ℕ) (size : ℕ) : Type 0 where
  pub inside : (h i j : ℕ) → InSizes G h i j → addr h i j < size
  pub apart : (h i j h' i' j' : ℕ) → InSizes G h i j → InSizes G h' i' j' → addr h i j ≡ addr h' i' j' → (h ≡ h') × (i ≡ i') × (j ≡ j')

module _ {S X : Type 0} (cells : Cells S X) (addr : ℕ → ℕ → ℕ → ℕ) where
  open cells use {size, read, write}

  -- panel p makes `panel p h i j x` of the cell x of h i j
  abbrev pub visit_cell : (ℕ → ℕ → ℕ → ℕ → X → X) → ℕ → ℕ → ℕ → ℕ → S → S
  visit_cell panel p h i j s = write (addr h i j) (panel p h i j (read (addr h i j) s)) s

  -- s' is s with the cell x of each output index h i j become f h i j x, and every other cell as it was
  pub record Becomes (G : Cut) (f : ℕ → ℕ → ℕ → X → X) (s s' : S) : Type 0 where
    pub same_size : size s' ≡ size s
    pub addressed : (h i j : ℕ) → InSizes G h i j → read (addr h i j) s' ≡ f h i j (read (addr h i j) s)
    pub others : (y : ℕ) → ((h i j : ℕ) → InSizes G h i j → addr h i j ≢ y) → read y s' ≡ read y s

-- for every cut, all cells and panels, and every list of tiles, in any order and with repeats: the cell of an output index is the old one with the panels that
-- the list brings to this index applied to it, in the list's order; every other cell is as it was
abbrev pub EveryWalkAppliesPanels : Type 1
EveryWalkAppliesPanels =
    (S X : Type 0) (cells : Cells S X) (G : Cut) (addr : ℕ → ℕ → ℕ → ℕ) (panel : ℕ → ℕ → ℕ → ℕ → X → X) (s : S) → OwnPlaces G addr (cells.size s)
    → (ns : List ℕ) → All (λ n. n < total G) ns
    → Becomes cells addr G (λ h i j. after (λ p. panel p h i j) (panels_of G ns h i j)) s (walk_tiles G (visit_cell cells addr panel) ns s)
