-- A tile's number, and the tile of a number: each is read off the other, and the panels of one word follow one another.
-- A number's row block, panel, column block and batch count are its digits, lowest first, to the bases MB, KB and NB.
-- Assumes nothing.
use mathlib.Core.Path.{◌≡◌, ap, ◌∙◌}
use Prim.Native.Nat.{ℕ, zero, suc, ◌+◌, ◌*◌, ◌/◌, ◌%◌, ◌<◌, ◌≤◌}
use native.Mathlib.Nat.{mul-zero, not-suc-le-zero, zero-lt-suc, div-lt_iff_lt-mul, mod-lt, div-add-mod', mul-le-mul_right, le-max_left}
use native.Mathlib.Omega.{arith}
use lib.Arith.{digits_lt, digits_div, digits_mod}
use Rattle.tiles.specs.Cut.{Cut, MB, NB, KB, total, tile_number, batch_of, column_of, panel_of, row_of}

-- a number below a * b, by its two digits
digit_ranges : (n a b : ℕ) → n < a * b → (n / b < a) × (n % b < b)
digit_ranges n a zero h = absurd (not-suc-le-zero (rw mul-zero at h))
digit_ranges n a (suc b) h = ((div-lt_iff_lt-mul (zero-lt-suc b)).1 h, mod-lt n (zero-lt-suc b))

module _ (G : Cut) where
  open G use {H}

  -- there is a tile of h, c, p and r
  pub record InTiles (h c p r : ℕ) : Type 0 where
    pub batch : h < H
    pub column : c < NB G
    pub panel : p < KB G
    pub row : r < MB G

  pub KB_pos : 0 < KB G
  unfolding KB
  KB_pos = le-max_left 1 _

  pub number_lt : {h c p r : ℕ} → InTiles h c p r → tile_number G h c p r < total G
  unfolding tile_number total
  number_lt v = digits_lt (digits_lt (digits_lt v.batch v.column) v.panel) v.row

  -- ---- the tile of a tile's number

  pub row_number : (h c p : ℕ) {r : ℕ} → r < MB G → row_of G (tile_number G h c p r) ≡ r
  unfolding tile_number row_of
  row_number h c p b = digits_mod _ b

  pub column_number : (h : ℕ) {c p r : ℕ} → c < NB G → p < KB G → r < MB G → column_of G (tile_number G h c p r) ≡ c
  unfolding tile_number column_of
  column_number h bc bp b = ap (λ (x : ℕ). x / KB G % NB G) (digits_div _ b) ∙ ap (λ (x : ℕ). x % NB G) (digits_div _ bp) ∙ digits_mod _ bc

  pub batch_number : (h : ℕ) {c p r : ℕ} → c < NB G → p < KB G → r < MB G → batch_of G (tile_number G h c p r) ≡ h
  unfolding tile_number batch_of
  batch_number h bc bp b = ap (λ (x : ℕ). x / KB G / NB G) (digits_div _ b) ∙ ap (λ (x : ℕ). x / NB G) (digits_div _ bp) ∙ digits_div _ bc

  -- ---- the number of a number's tile

  pub number_of : (n : ℕ) → tile_number G (batch_of G n) (column_of G n) (panel_of G n) (row_of G n) ≡ n
  unfolding tile_number batch_of column_of panel_of row_of
  number_of n =
      ap (λ (x : ℕ). (x * KB G + n / MB G % KB G) * MB G + n % MB G) (div-add-mod' (n / MB G / KB G) (NB G))
      ∙ ap (λ (x : ℕ). x * MB G + n % MB G) (div-add-mod' (n / MB G) (KB G))
      ∙ div-add-mod' n (MB G)

  pub tile_of : (n : ℕ) → n < total G → InTiles (batch_of G n) (column_of G n) (panel_of G n) (row_of G n)
  unfolding total batch_of column_of panel_of row_of
  tile_of n b =
      let x : (n / MB G < H * NB G * KB G) × (n % MB G < MB G) = digit_ranges n (H * NB G * KB G) (MB G) b in
      let y : (n / MB G / KB G < H * NB G) × (n / MB G % KB G < KB G) = digit_ranges (n / MB G) (H * NB G) (KB G) x.0 in
      let z : (n / MB G / KB G / NB G < H) × (n / MB G / KB G % NB G < NB G) = digit_ranges (n / MB G / KB G) H (NB G) y.0 in
      record { batch = z.0; column = z.1; panel = y.1; row = x.1 }

  -- ---- of one word, the panels follow one another

  pub number_mono : (h c r : ℕ) {p q : ℕ} → p ≤ q → tile_number G h c p r ≤ tile_number G h c q r
  unfolding tile_number
  number_mono h c r b = omega (arith, mul-le-mul_right (MB G) b)

  pub number_strict : (h c : ℕ) {p q r : ℕ} → r < MB G → p < q → tile_number G h c p r < tile_number G h c q r
  unfolding tile_number
  number_strict h c k b = omega (arith, mul-le-mul_right (MB G) b)
