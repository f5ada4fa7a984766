-- D's slice after t tiles: running the first t makes the closed form at t.
-- The output indices lie at different addresses of D, so a list is told by its length, by its word at each address, and by its words elsewhere.
-- A walk applies to each word its index's panels, and the first t tiles bring the panels done at t, in order: that is the word of the closed form.
-- For the same reason a tile visited twice leaves what one visit with both changes does.
-- At the start no panel is done, which is D itself, and at the end all are, which is the direct sum.
-- Assumes nothing.
use mathlib.Core.Path.{◌≡◌, refl, sym, ap, ◌∙◌, subst}
use mathlib.Core.Bool.{Bool, true, false, cond}
use mathlib.Core.List.{List, [], ◌∷◌, map}
use Prim.Native.Nat.{ℕ, zero, suc, ◌+◌, ◌*◌, ◌<◌, ◌≤◌, zero-le}
use native.Mathlib.Nat.{not-suc-le-zero}
use native.Mathlib.Decide.{dec_lt, ℕ_discrete, map_dec}
use native.Mathlib.Omega.{arith}
use lib.ListN.{length, get_or, set, length-set}
use lib.Seq.{get_or-set_same, get_or-set_other}
use Rattle.words.specs.Sums.{sum_to, All}
use Rattle.words.specs.Lists.{tabulate, cons_if}
use Rattle.words.specs.Words.{word}
use Rattle.words.specs.Loops.{each, put}
use Rattle.words.proofs.Store.{length_put, length_each, Changes, changes_iff, changes_same, changes_again, changes_unique, put_changes, each_changes}
use Rattle.tiles.specs.Cut.{Cut, InSizes, KB, total, panel_of}
use Rattle.tiles.specs.TileWalk.{visit_tile, walk_tiles, holds, panels_of, after, Cells, OwnPlaces}
use Rattle.tiles.specs.Setting.{Setting, word_at, render, closed, add_panel, visit, walk, tiles_from}
use Rattle.tiles.proofs.Visits.{numbers_keep, walk_on, tiles_below}
use Rattle.tiles.proofs.Walked.{walk_becomes}
use Rattle.tiles.proofs.Ascending.{panels_ascending, all_done}
use Rattle.tiles.proofs.Progress.{Reached, reached, reached_count}
use Rattle.tiles.proofs.PanelWords.{first_words, reached_word, word_all}

-- ---- what is asked of a setting, and what the whole contraction makes of a word

-- what the questions before any work ensure, for a D of `size` words
pub record Sound (S : Setting) (size : ℕ) : Type 0 where
  pub rows_pos : 0 < S.cut.rows
  pub cols_pos : 0 < S.cut.cols
  pub depth_pos : 0 < S.cut.depth
  pub places : OwnPlaces S.cut S.addr size

-- the start + alpha × the sum over the whole depth
unfoldable pub direct : Setting → ℕ → ℕ → ℕ → ℕ → ℕ
direct S h i j w = word 32 (S.start h i j w + S.alpha * sum_to S.cut.K (S.term h i j))

-- ---- output indices

-- a search below n
dec_below : (n : ℕ) (P : ℕ → Type 0) → ((k : ℕ) → Dec (P k)) → Dec ((k : ℕ) × (k < n) × P k)
dec_below zero P dec = no (λ w. not-suc-le-zero w.1)
dec_below (suc n) P dec = go (dec_below n P dec) (dec n)
  where
    go : Dec ((k : ℕ) × (k < n) × P k) → Dec (P n) → Dec ((k : ℕ) × (k < suc n) × P k)
    go (yes w) d = yes (w.0, omega (arith, w.1), w.2)
    go (no f) (yes p) = yes (n, omega arith, p)
    go (no f) (no g) = no (λ w. last w (dec_lt w.0 n))
      where
        last : (w : (k : ℕ) × (k < suc n) × P k) → Dec (w.0 < n) → ⊥
        last w (yes b) = f (w.0, b, w.2)
        last w (no b) = let e : w.0 ≡ n = omega (arith, w.1) in g (subst P e w.2)

-- batch, row and column count
abbrev pub Index : Type 0
Index = ℕ × ℕ × ℕ

abbrev pub at : {X : Type 0} → (ℕ → ℕ → ℕ → X) → Index → X
at f q = f q.0 q.1 q.2

abbrev pub In : Cut → Index → Type 0
In G q = InSizes G q.0 q.1 q.2

abbrev pub Every : Index → Type 0
Every q = Unit {0}

module _ (G : Cut) (addr : ℕ → ℕ → ℕ → ℕ) where
  open G use {H, M, N}

  -- E is D with each word w at h, i, j become f h i j w
  abbrev pub Shows : (ℕ → ℕ → ℕ → ℕ → ℕ) → List ℕ → List ℕ → Type 0
  Shows f = Changes (at addr) (In G) Every (at f)

  -- is x the address of an output index?
  pub find : (x : ℕ) → Dec ((q : Index) × In G q × Every q × (at addr q ≡ x))
  find x =
      map_dec
      (λ w. ((w.0, w.2.0, w.2.2.0), (w.1, w.2.1, w.2.2.1), tt, w.2.2.2))
      (λ w. (w.0.0, w.1.0, (w.0.1, w.1.1, (w.0.2, w.1.2, w.3))))
      (dec_below H (λ h. (i : ℕ) × (i < M) × ((j : ℕ) × (j < N) × (addr h i j ≡ x)))
      (λ h. dec_below M (λ i. (j : ℕ) × (j < N) × (addr h i j ≡ x))
      (λ i. dec_below N (λ j. addr h i j ≡ x) (λ j. ℕ_discrete (addr h i j) x))))

-- ---- the length stays

module _ (S : Setting) where
  open S use {cut, addr}

  pub length_closed : (t : ℕ) (D : List ℕ) → length (closed S t D) ≡ length D
  unfolding closed render
  length_closed t =
      length_each cut.H (λ h. each cut.N (λ j. each cut.M (λ i. put (word_at S t h i j) (addr h i j))))
      (λ h. length_each cut.N (λ j. each cut.M (λ i. put (word_at S t h i j) (addr h i j)))
      (λ j. length_each cut.M (λ i. put (word_at S t h i j) (addr h i j)) (λ i. length_put (word_at S t h i j) (addr h i j))))

  pub length_walk : (ns : List ℕ) (D : List ℕ) → length (walk S ns D) ≡ length D
  length_walk ns D = numbers_keep (λ E. length E ≡ length D) cut (visit S) (λ p h i j E e. length_put (add_panel S p h i j) (addr h i j) E ∙ e) ns D refl

-- a list's words as cells
abbrev words : Cells (List ℕ) ℕ
words =
    record {
      size = length;
      read = λ y D. get_or D y 0;
      write = λ y x D. set D y x;
      same = λ y x D h. get_or-set_same D y x 0 h;
      other = λ y z x D ne. get_or-set_other D y z x 0 (λ e. ne (sym e));
      kept = λ y x D. length-set D y x;
    }

-- ---- tiles that make `panel p h i j w` of the word w of h i j

abbrev puts : (ℕ → ℕ → ℕ → ℕ) → (ℕ → ℕ → ℕ → ℕ → ℕ → ℕ) → ℕ → ℕ → ℕ → ℕ → List ℕ → List ℕ
puts addr panel p h i j = put (panel p h i j) (addr h i j)

module _ (G : Cut) (addr : ℕ → ℕ → ℕ → ℕ) (panel : ℕ → ℕ → ℕ → ℕ → ℕ → ℕ) (D : List ℕ) (own : OwnPlaces G addr (length D)) where
  -- any tiles, in any order: of each word, its index's panels one after the other
  walk_shows : (ns : List ℕ) → All (λ n. n < total G) ns
      → Shows G addr (λ h i j. after (λ p. panel p h i j) (panels_of G ns h i j)) D (walk_tiles G (puts addr panel) ns D)
  unfolding put
  walk_shows ns below =
      let c = walk_becomes (List ℕ) ℕ words G addr panel D own ns below in
      record {
        len = c.same_size;
        hit = λ q i p. c.addressed q.0 q.1 q.2 i;
        miss = λ x off. c.others x (λ h i j k. off (h, i, j) k tt);
      }

  -- one tile
  tile_shows : (n : ℕ) → n < total G
      → Shows G addr (λ h i j w. cond (holds G h i j n) (panel (panel_of G n) h i j w) w) D (visit_tile G (puts addr panel) n D)
  unfolding walk_tiles panels_of after
  tile_shows n below =
      changes_same (at addr) (In G) (λ q i p w. go q.0 q.1 q.2 w (holds G q.0 q.1 q.2 n)) (walk_shows (n ∷ []) (below, tt))
    where
      go : (h i j w : ℕ) (b : Bool) → after (λ p. panel p h i j) (map (panel_of G) (cons_if b n [])) w ≡ cond b (panel (panel_of G n) h i j w) w
      go h i j w true = refl
      go h i j w false = refl

-- a tile visited twice is visited once with both changes
pub twice : (G : Cut) (addr : ℕ → ℕ → ℕ → ℕ) (f g : ℕ → ℕ → ℕ → ℕ → ℕ → ℕ) (xs : List ℕ) → OwnPlaces G addr (length xs) → (n : ℕ) → n < total G
    → visit_tile G (λ p h i j. put (g p h i j) (addr h i j)) n (visit_tile G (λ p h i j. put (f p h i j) (addr h i j)) n xs)
    ≡ visit_tile G (λ p h i j. put (λ w. g p h i j (f p h i j w)) (addr h i j)) n xs
twice G addr f g xs own n below =
    let c = tile_shows G addr f xs own n below in
    let d = tile_shows G addr g (visit_tile G (puts addr f) n xs) (rw c.len own) n below in
    changes_unique (at addr) (In G) (find G addr)
    (changes_same (at addr) (In G) (λ q i p w. both (holds G q.0 q.1 q.2 n) (f (panel_of G n) q.0 q.1 q.2) (g (panel_of G n) q.0 q.1 q.2) w)
    (changes_again (at addr) (In G) c d))
    (tile_shows G addr (λ p h i j w. g p h i j (f p h i j w)) xs own n below)
  where
    both : (b : Bool) (f g : ℕ → ℕ) (w : ℕ) → cond b (g (cond b (f w) w)) (cond b (f w) w) ≡ cond b (g (f w)) w
    both true f g w = refl
    both false f g w = refl

module _ (S : Setting) (D : List ℕ) (ok : Sound S (length D)) where
  open S use {cut, addr}
  open S.cut use {H, M, N}

  inj : (q r : Index) → In cut q → In cut r → at addr q ≡ at addr r → q ≡ r
  inj q r iq ir e = let w = ok.places.apart q.0 q.1 q.2 r.0 r.1 r.2 iq ir e in λ k. (w.0 k, w.1 k, w.2 k)

  -- a loop over indices that differ
  line : (g : Index → ℕ → ℕ) (n : ℕ) (f : ℕ → Index) (E : List ℕ) → length E ≡ length D
      → ((k : ℕ) → k < n → In cut (f k)) → ((k l : ℕ) → f k ≡ f l → k ≡ l)
      → Changes (at addr) (In cut) (λ q. (k : ℕ) × (k < n) × (q ≡ f k)) g E (each n (λ k. put (g (f k)) (at addr (f k))) E)
  line g n f E len inside differ =
      each_changes (at addr) (In cut) inj g n (λ k. put (g (f k)) (at addr (f k))) (λ k q. q ≡ f k) E
      (λ k b F l. put_changes (at addr) (In cut) inj g (f k) (inside k b) F (bound k (inside k b) F l))
      (λ k l q e e'. differ k l (sym e ∙ e'))
    where
      bound : (k : ℕ) → In cut (f k) → (F : List ℕ) → length F ≡ length E → at addr (f k) < length F
      bound k i F l = omega (arith, ok.places.inside (f k).0 (f k).1 (f k).2 i)

  -- ---- render is what it should be, and the only list that is

  pub render_shows : (f : ℕ → ℕ → ℕ → ℕ → ℕ) → Shows cut addr f D (render S f D)
  unfolding render
  render_shows f =
      changes_iff (at addr) (In cut) (λ q i w. tt) (λ q i w. (q.0, i.0, (q.2, i.2, (q.1, i.1, refl))))
      (each_changes (at addr) (In cut) inj (at f) H (λ h. each N (λ j. each M (λ i. put (f h i j) (addr h i j))))
      (λ h q. (j : ℕ) × (j < N) × ((i : ℕ) × (i < M) × (q ≡ (h, i, j)))) D
      (λ h bh E l.
      each_changes (at addr) (In cut) inj (at f) N (λ j. each M (λ i. put (f h i j) (addr h i j)))
      (λ j q. (i : ℕ) × (i < M) × (q ≡ (h, i, j))) E
      (λ j bj F m. line (at f) M (λ i. (h, i, j)) F (m ∙ l) (λ i bi. (bh, bi, bj)) (λ i i' e. ap (λ (q : Index). q.1) e))
      (λ j j' q w w'. ap (λ (q : Index). q.2) (sym w.2 ∙ w'.2)))
      (λ h h' q w w'. ap (λ (q : Index). q.0) (sym w.2.2 ∙ w'.2.2)))

  pub shows_render : (f : ℕ → ℕ → ℕ → ℕ → ℕ) {E : List ℕ} → Shows cut addr f D E → E ≡ render S f D
  shows_render f c = changes_unique (at addr) (In cut) (find cut addr) c (render_shows f)

  pub closed_shows : (t : ℕ) → Shows cut addr (word_at S t) D (closed S t D)
  unfolding closed
  closed_shows t = render_shows (word_at S t)

  shows_closed : (t : ℕ) {E : List ℕ} → Shows cut addr (word_at S t) D E → E ≡ closed S t D
  unfolding closed
  shows_closed t c = shows_render (word_at S t) c

  -- ---- tiles

  -- the first t make the closed form
  first_closed : (t : ℕ) → t ≤ total cut → walk S (tiles_from 0 t) D ≡ closed S t D
  first_closed t b =
      shows_closed t (changes_same (at addr) (In cut)
      (λ q i p w.
      let r = reached cut q.0 q.1 q.2 t in
      ap (λ (ps : List ℕ). after (λ p. add_panel S p q.0 q.1 q.2) ps w)
      (panels_ascending cut ok.rows_pos ok.cols_pos q.0 q.1 q.2 i t b
      ∙ ap (λ (n : ℕ). tabulate n (λ k. k)) (reached_count cut q.0 q.1 q.2 r.1))
      ∙ first_words S q.0 q.1 q.2 r.0 w
      ∙ sym (reached_word S q.0 q.1 q.2 r.0 r.1 w))
      (walk_shows cut addr (add_panel S) D ok.places (tiles_from 0 t) (tiles_below cut 0 t (omega arith))))

  pub walk_closed : (n t : ℕ) → t + n ≤ total cut → walk S (tiles_from t n) (closed S t D) ≡ closed S (t + n) D
  walk_closed n t b = ap (walk S (tiles_from t n)) (sym (first_closed t (omega arith))) ∙ walk_on cut (visit S) t n D ∙ first_closed (t + n) b

  -- ---- at the start and at the end

  pub closed_zero : closed S 0 D ≡ D
  unfolding walk_tiles tiles_from
  closed_zero = sym (first_closed 0 zero-le)

  all_reached : (h i j : ℕ) → h < H → i < M → j < N → Reached cut h i j (total cut) (KB cut)
  all_reached h i j bh bi bj = all_done cut ok.rows_pos ok.cols_pos h i j (bh, bi, bj)

  pub word_end : (h i j : ℕ) → h < H → i < M → j < N → (w : ℕ) → word_at S (total cut) h i j w ≡ direct S h i j w
  unfolding direct
  word_end h i j bh bi bj w = reached_word S h i j (KB cut) (all_reached h i j bh bi bj) w ∙ word_all S h i j ok.depth_pos w

  -- all tiles together are the direct sum
  pub closed_total : closed S (total cut) D ≡ render S (direct S) D
  closed_total =
      shows_render (direct S) (changes_same (at addr) (In cut) (λ q i p w. word_end q.0 q.1 q.2 i.0 i.1 i.2 w) (closed_shows (total cut)))
