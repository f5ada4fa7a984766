-- The word of an output index, by how many panels have reached it: none leave the old word, and the first q make the start and alpha times their sums.
-- One more panel adds alpha times its own sum, modulo 2 ^ 32. All panels together hold each depth count once, so their sums make the direct sum.
-- Assumes nothing.
use mathlib.Core.Path.{◌≡◌, refl, sym, ap, ◌∙◌}
use mathlib.Core.Bool.{Bool, true, false, cond}
use mathlib.Core.List.{List, [], ◌∷◌, ◌++◌}
use Prim.Native.Nat.{ℕ, zero, suc, ◌+◌, ◌-◌, ◌*◌, ◌<◌, ◌≤◌, min}
use native.Mathlib.Nat.{not-suc-le-zero, zero-lt-suc, le_trans, le-max_right, mul-le-mul_right, min-eq_right, mul-add, add_assoc, zero-add, suc-ne-zero}
use native.Mathlib.Omega.{arith}
use borrow.Author.Tests.{lt-ltb, ne_eqb}
use Rattle.words.specs.Sums.{sum_to}
use Rattle.words.specs.Lists.{tabulate}
use Rattle.words.specs.Words.{word}
use Rattle.words.proofs.Sums.{sum_to_ext, sum_to_zero}
use Rattle.words.proofs.Tabulate.{tabulate_suc}
use Rattle.words.proofs.Modular.{word_add_left}
use Rattle.tiles.specs.Cut.{blocks, KB}
use Rattle.tiles.specs.Progress.{final, done, state_at}
use Rattle.tiles.specs.TileWalk.{after}
use Rattle.tiles.specs.Setting.{Setting, panel_sum, done_sum, word_at, add_panel}
use Rattle.tiles.proofs.Cuts.{blocks_cover, sum_to_below, sum_to_panels}
use Rattle.tiles.proofs.Numbering.{KB_pos}
use Rattle.tiles.proofs.Progress.{Reached}
use Rattle.tiles.proofs.States.{final_reached, final_stays}

after_append : {X : Type 0} (f : ℕ → X → X) (ps qs : List ℕ) (x : X) → after f (ps ++ qs) x ≡ after f qs (after f ps x)
unfolding after
after_append f [] qs x = refl
after_append f (p ∷ ps) qs x = after_append f ps qs (f p x)

module _ (S : Setting) (h i j : ℕ) where
  open S use {cut, term, alpha, start}

  -- the word where the first q panels are done
  unfoldable pub word_by : ℕ → ℕ → ℕ
  word_by zero w = w
  word_by (suc q) w = word 32 (start h i j w + alpha * sum_to (suc q) (panel_sum S h i j))

  pub reached_sum : {t q : ℕ} → Reached cut h i j t q → done_sum S t h i j ≡ sum_to q (panel_sum S h i j)
  unfolding done_sum
  reached_sum r = sum_to_ext (KB cut) (λ p b. ap (λ (c : Bool). cond c (panel_sum S h i j p) 0) (r.which p b)) ∙ sum_to_below (panel_sum S h i j) r.up_to

  pub reached_word : {t : ℕ} (q : ℕ) → Reached cut h i j t q → (w : ℕ) → word_at S t h i j w ≡ word_by q w
  unfolding word_at word_by
  reached_word zero r w = rw (r.which 0 (KB_pos cut))
  reached_word (suc q) r w = rw (r.which 0 (KB_pos cut), lt-ltb 0 (suc q) (zero-lt-suc q), reached_sum r)

  -- panel q takes the word from q panels to q + 1
  word_add : (q w : ℕ) → add_panel S q h i j (word_by q w) ≡ word_by (suc q) w
  unfolding add_panel word_by sum_to
  word_add zero w = ap (λ (s : ℕ). word 32 (start h i j w + alpha * s)) (sym (zero-add (panel_sum S h i j 0)))
  word_add (suc q) w =
      let s : ℕ = sum_to (suc q) (panel_sum S h i j) in
      let x : ℕ = panel_sum S h i j (suc q) in
      ap (λ (c : Bool). word 32 (cond c (start h i j (word_by (suc q) w)) (word_by (suc q) w) + alpha * x)) (ne_eqb (suc q) 0 (suc-ne-zero q))
      ∙ word_add_left 32 (start h i j w + alpha * s) (alpha * x)
      ∙ ap (word 32) (add_assoc (start h i j w) (alpha * s) (alpha * x) ∙ ap (λ (y : ℕ). start h i j w + y) (sym (mul-add alpha s x)))

  -- the first q panels, one after the other
  pub first_words : (q w : ℕ) → after (λ p. add_panel S p h i j) (tabulate q (λ k. k)) w ≡ word_by q w
  unfolding after word_by
  first_words zero w = refl
  first_words (suc q) w =
      ap (λ (ps : List ℕ). after (λ p. add_panel S p h i j) ps w) (tabulate_suc q (λ k. k))
      ∙ after_append (λ p. add_panel S p h i j) (tabulate q (λ k. k)) (q ∷ []) w
      ∙ ap (add_panel S q h i j) (first_words q w)
      ∙ word_add q w

  -- with depth size 0 no panel has a term
  pub none_summed : cut.K ≡ 0 → (t : ℕ) → done_sum S t h i j ≡ 0
  unfolding done_sum panel_sum sum_to
  none_summed e t = sum_to_ext (KB cut) (λ p b. go p (done cut t h i j p)) ∙ sum_to_zero (KB cut)
    where
      go : (p : ℕ) (b : Bool) → cond b (panel_sum S h i j p) 0 ≡ 0
      go p true = let z : min ((p + 1) * cut.depth) cut.K - p * cut.depth ≡ 0 = omega (arith, e) in ap (λ (n : ℕ). sum_to n (λ k. term h i j (p * cut.depth + k))) z
      go p false = refl

  -- after all panels, the sum over the whole depth
  sum_all : 0 < cut.depth → sum_to (KB cut) (panel_sum S h i j) ≡ sum_to cut.K (term h i j)
  unfolding panel_sum KB
  sum_all pos =
      sum_to_panels (KB cut) cut.depth cut.K (term h i j)
      ∙ ap (λ (n : ℕ). sum_to n (term h i j))
      (min-eq_right (le_trans (blocks_cover cut.K pos) (mul-le-mul_right cut.depth (le-max_right 1 (blocks cut.K cut.depth)))))

  word_some : (q : ℕ) → 0 < q → (w : ℕ) → word_by q w ≡ word 32 (start h i j w + alpha * sum_to q (panel_sum S h i j))
  unfolding word_by
  word_some zero b w = absurd (not-suc-le-zero b)
  word_some (suc q) b w = refl

  pub word_all : 0 < cut.depth → (w : ℕ) → word_by (KB cut) w ≡ word 32 (start h i j w + alpha * sum_to cut.K (term h i j))
  word_all pos w = word_some (KB cut) (KB_pos cut) w ∙ ap (λ (s : ℕ). word 32 (start h i j w + alpha * s)) (sum_all pos)

  -- the word of a final index changes no more
  pub final_word : {t u : ℕ} → state_at cut t h i j ≡ final → t ≤ u → (w : ℕ) → word_at S u h i j w ≡ word_at S t h i j w
  final_word e b w =
      reached_word (KB cut) (final_reached cut h i j (final_stays cut h i j b e)) w ∙ sym (reached_word (KB cut) (final_reached cut h i j e) w)
