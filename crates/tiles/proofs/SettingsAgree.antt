-- Settings that agree at every count in range make the same words: a tile reads and writes only at such counts.
-- Assumes nothing.
use mathlib.Core.Path.{◌≡◌, refl, ap, ◌∙◌}
use mathlib.Core.List.{List}
use Prim.Native.Nat.{ℕ, ◌+◌, ◌-◌, ◌*◌, ◌<◌, min}
use native.Mathlib.Omega.{arith}
use lib.ListN.{get_or}
use Rattle.words.specs.Sums.{All}
use Rattle.words.specs.Loops.{put}
use Rattle.words.proofs.Sums.{sum_to_ext}
use Rattle.tiles.specs.Cut.{Cut, total}
use Rattle.tiles.specs.TileWalk.{walk_tiles}
use Rattle.tiles.specs.Setting.{Setting, panel_sum, add_panel, visit, walk}
use Rattle.tiles.proofs.Visits.{tiles_relate}

-- one cut and the same factors; the same places and terms at counts in range
pub record Agree (S S' : Setting) : Type 0 where
  pub cut : S.cut ≡ S'.cut
  pub alpha : S.alpha ≡ S'.alpha
  pub start : (h i j w : ℕ) → h < S.cut.H → i < S.cut.M → j < S.cut.N → S.start h i j w ≡ S'.start h i j w
  pub addr : (h i j : ℕ) → h < S.cut.H → i < S.cut.M → j < S.cut.N → S.addr h i j ≡ S'.addr h i j
  pub term : (h i j k : ℕ) → h < S.cut.H → i < S.cut.M → j < S.cut.N → k < S.cut.K → S.term h i j k ≡ S'.term h i j k

put_ext : {f g : ℕ → ℕ} {x y : ℕ} → ((w : ℕ) → f w ≡ g w) → x ≡ y → (D : List ℕ) → put f x D ≡ put g y D
unfolding put
put_ext {y = y} e p D = rw (p, e (get_or D y 0))

module _ {S S' : Setting} (same : Agree S S') where
  panel_agrees : (p h i j w : ℕ) → h < S.cut.H → i < S.cut.M → j < S.cut.N → add_panel S p h i j w ≡ add_panel S' p h i j w
  unfolding add_panel panel_sum
  panel_agrees p h i j w bh bi bj =
      rw (
        ← same.cut,
        same.alpha,
        same.start h i j w bh bi bj,
        sum_to_ext (min ((p + 1) * S.cut.depth) S.cut.K - p * S.cut.depth) (λ k b. same.term h i j (p * S.cut.depth + k) bh bi bj (omega arith)),
      )

  pub walk_agrees : (ns : List ℕ) → All (λ n. n < total S.cut) ns → (D : List ℕ) → walk S ns D ≡ walk S' ns D
  walk_agrees ns below D =
      tiles_relate ◌≡◌ S.cut (visit S) (visit S')
      (λ p h i j b E E' e. put_ext (λ w. panel_agrees p h i j w b.0 b.1 b.2) (same.addr h i j b.0 b.1 b.2) E ∙ ap (visit S' p h i j) e) ns below D D refl
      ∙ ap (λ (G : Cut). walk_tiles G (visit S') ns D) same.cut
