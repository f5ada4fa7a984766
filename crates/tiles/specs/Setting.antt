-- A contraction as its tiles see it, and D's slice after t tiles: in closed form, and by running tiles one after the other.
-- Assumes nothing.
use Rattle.std.specs.Prelude.{ℕ, ◌+◌, ◌-◌, ◌*◌, min, cond, List, eqb}
use Rattle.words.specs.Sums.{sum_to}
use Rattle.words.specs.Lists.{tabulate}
use Rattle.words.specs.Words.{word}
use Rattle.words.specs.Loops.{each, put}
use Rattle.tiles.specs.Cut.{Cut, KB}
use Rattle.tiles.specs.Progress.{done}
use Rattle.tiles.specs.TileWalk.{visit_tile, walk_tiles}

pub record Setting : Type 0 where
  pub cut : Cut
  pub addr : ℕ → ℕ → ℕ → ℕ  -- where in D's slice the output index of batch h, row i, column j lies
  pub term : ℕ → ℕ → ℕ → ℕ → ℕ  -- A's entry times B's entry at h, i, j and depth k
  pub alpha : ℕ
  pub start : ℕ → ℕ → ℕ → ℕ → ℕ  -- what panel 0 starts from at h, i, j, given the old word

-- a cut, where each output index lies, A's entry at a batch, a row and a depth count, B's at a batch, a column and a depth count, what the sum of an output
-- index starts from, given the old word, and the factors: a term is the product of the two entries, and panel 0 starts from beta × what the sum starts from
abbrev pub setting_by : Cut → (ℕ → ℕ → ℕ → ℕ) → (ℕ → ℕ → ℕ → ℕ) → (ℕ → ℕ → ℕ → ℕ) → (ℕ → ℕ → ℕ → ℕ → ℕ) → ℕ → ℕ → Setting
setting_by G addr a b from alpha beta =
    record { cut = G; addr = addr; term = λ h i j k. a h i k * b h j k; alpha = alpha; start = λ h i j old. beta * from h i j old }

module _ (S : Setting) where
  open S use {cut, addr, term, alpha, start}
  open S.cut use {H, M, N, K, depth}

  -- ---- in closed form

  -- panel p holds the depth counts from p * depth up to, but without, the smaller of (p + 1) * depth and K
  unfoldable pub panel_sum : ℕ → ℕ → ℕ → ℕ → ℕ
  panel_sum h i j p = sum_to (min ((p + 1) * depth) K - p * depth) (λ k. term h i j (p * depth + k))

  -- the sum over the depth counts of the panels done
  unfoldable pub done_sum : ℕ → ℕ → ℕ → ℕ → ℕ
  done_sum t h i j = sum_to (KB cut) (λ p. cond (done cut t h i j p) (panel_sum h i j p) 0)

  -- while panel 0 isn't done, the old word w; after that its start + alpha × that sum
  unfoldable pub word_at : ℕ → ℕ → ℕ → ℕ → ℕ → ℕ
  word_at t h i j w = cond (done cut t h i j 0) (word 32 (start h i j w + alpha * done_sum t h i j)) w

  -- each addressed word w of the list becomes f h i j w
  unfoldable pub render : (ℕ → ℕ → ℕ → ℕ → ℕ) → List ℕ → List ℕ
  render f = each H (λ h. each N (λ j. each M (λ i. put (f h i j) (addr h i j))))

  -- D's slice after t tiles, when it was D before the first
  unfoldable pub closed : ℕ → List ℕ → List ℕ
  closed t D = render (word_at t) D

  -- ---- by running tiles

  -- what panel p makes of the word w: panel 0 begins with the start, later panels only add
  unfoldable pub add_panel : ℕ → ℕ → ℕ → ℕ → ℕ → ℕ
  add_panel p h i j w = word 32 (cond (eqb p 0) (start h i j w) w + alpha * panel_sum h i j p)

  -- and it takes the word's place
  abbrev pub visit : ℕ → ℕ → ℕ → ℕ → List ℕ → List ℕ
  visit p h i j = put (add_panel p h i j) (addr h i j)

  -- tile n
  abbrev pub tile_step : ℕ → List ℕ → List ℕ
  tile_step = visit_tile cut visit

  -- the tiles of a list of numbers, one after the other
  abbrev pub walk : List ℕ → List ℕ → List ℕ
  walk = walk_tiles cut visit

-- the tile numbers t, t + 1, .., n of them
unfoldable pub tiles_from : ℕ → ℕ → List ℕ
tiles_from t n = tabulate n (λ k. t + k)
