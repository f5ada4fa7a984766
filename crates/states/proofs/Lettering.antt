-- The letters of D's words: what they are word by word, and that the code's loops put them. The addresses of an accepted contraction differ, so each
-- keeps the letter that its output index put there; a plan's places are these addresses. Of D's slice only the length is read.
-- Assumes nothing.
use mathlib.Core.Path.{◌≡◌, refl, sym, ap, ◌∙◌}
use mathlib.Core.Bool.{true}
use mathlib.Core.List.{List, ◌++◌}
use Prim.Native.Nat.{ℕ}
use lib.ListN.{length}
use Rattle.words.specs.Lists.{tabulate}
use Rattle.words.specs.Loops.{each, put}
use Rattle.words.proofs.Loops.{each_ext}
use Rattle.words.proofs.Tabulate.{length_tabulate, get_or_tabulate}
use Rattle.contraction.specs.declared.contraction.Contraction.{Contraction}
use Rattle.contraction.specs.Operands.{four, tensors}
use Rattle.contraction.specs.declared.contraction.Operand.TheVariants.{D}
use Rattle.tensor_answers.specs.Asking.{refusal}
use Rattle.questions.specs.Questions.{layout_questions}
use Rattle.questions.proofs.Ready.{AllPassed}
use Rattle.meaning.specs.Meaning.{Slices, lengths_in}
use Rattle.plan.specs.declared.plan.Plan.{Plan}
use Rattle.plan.specs.Plan.{Planned}
use Rattle.tiles.specs.declared.grid.Sizes.{Sizes}
use Rattle.tiles.specs.declared.grid.Grid.{Grid}
use Rattle.tiles.specs.Cut.{total}
use Rattle.tiles.specs.Grid.{cut_in}
use Rattle.tiles.specs.Progress.{state_at}
use Rattle.tiles.specs.Setting.{render}
use Rattle.tiles.proofs.Closed.{Sound, render_shows}
use Rattle.tile_blocks.specs.ContractionInTiles.{cut_of, setting}
use Rattle.tile_blocks.specs.Planned.{GridOf}
use Rattle.tile_questions.specs.TileQuestions.{sizes_fit, size_question, accept_questions, Accepted}
use Rattle.accept.proofs.AcceptQuestions.{same_questions, accepted}
use Rattle.accept.proofs.Accepted.{grid_cut}
use Rattle.accept.proofs.Reaches.{reaches_d}
use Rattle.accept.proofs.Soundness.{setting_same, clear, sound}
use Rattle.letters.specs.PrintedLetters.{letter_of, outside}
use Rattle.letters.specs.Placed.{Placed, column_letters}
use Rattle.states.specs.StateLetters.{state_letters, EveryLetterRight}

-- ---- what the letters are

pub letters_right : EveryLetterRight
unfolding state_letters setting
letters_right c z w t ok =
    let blank : List ℕ = tabulate (length (w D)) (λ k. outside) in
    let yes = accepted c z w ok.passed in
    let safe : Sound (setting c z w) (length blank) = rw (length_tabulate (length (w D)) (λ k. outside)) (sound c z w yes.0 yes.1) in
    let s = render_shows (setting c z w) blank safe (λ h i j was. letter_of (state_at (cut_of c z) t h i j)) in
    record {
      one_each = s.len ∙ length_tabulate (length (w D)) (λ k. outside);
      addressed = λ h i j b. s.hit (h, i, j) b tt;
      others = λ x b off. s.miss x (λ q k p. off q.0 q.1 q.2 k) ∙ get_or_tabulate (length (w D)) (λ k. outside) x 0 b;
    }

-- ---- of D's slice only the length is read

module _ (c : Contraction) (z : Sizes) (a b cw d e : List ℕ) where
  pub letters_same_lem : (t : ℕ) → length d ≡ length e → state_letters c z (four a b cw d) t ≡ state_letters c z (four a b cw e) t
  unfolding state_letters
  letters_same_lem t same = λ x.
      render (setting_same c z (four a b cw d) (four a b cw e) refl refl refl x) (λ h i j was. letter_of (state_at (cut_of c z) t h i j)) (tabulate (same x) (λ k. outside))

  pub accepted_same : length d ≡ length e → Accepted c z (four a b cw d) → Accepted c z (four a b cw e)
  accepted_same same ok = record { passed = same_questions c z a b cw d e (sym same) ∙ ok.passed }

-- ---- all of them, of an accepted contraction

module _ (c : Contraction) (z : Sizes) (w : Slices) (ok : Accepted c z w) where
  ten : refusal (layout_questions (tensors c) (lengths_in c w) ++ size_question z) ≡ 0
  unfolding accept_questions
  ten = ok.passed

  passes : AllPassed (tensors c) (lengths_in c w) × (sizes_fit z ≡ true)
  passes = accepted c z w ok.passed

  -- the number that `Accept::of` answers is 0
  pub none_refused : {k : ℕ} → k ≡ refusal (layout_questions (tensors c) (lengths_in c w) ++ size_question z) → k ≡ 0
  none_refused e = e ∙ ten

  module _ (p : Plan) (q : Planned (tensors c) p) where
    module _ (g : Grid) (o : GridOf p g × (g.sizes ≡ z)) where
      cut : cut_in g ≡ cut_of c z
      cut = grid_cut c z w refl ten p q g o

      pub all_tiles : g.total ≡ total (cut_of c z)
      all_tiles = o.0.counted.total ∙ ap total cut

      pub all_placed : (n : ℕ) → n ≡ length (w D) → Placed p (cut_in g) n
      all_placed n e = rw (e, cut) (record { inside = λ h i j x y v. (clear c z w passes.0 passes.1 p q).places.inside h i j (x, y, v) })

      pub all_lettered : (t n : ℕ) {blank out : List ℕ} → n ≡ length (w D) → blank ≡ tabulate n (λ k. outside)
          → out ≡ each (cut_in g).H (column_letters p (cut_in g) t) blank → out ≡ state_letters c z w t
      unfolding state_letters render setting
      all_lettered t n e f l =
          l ∙ ap (each (cut_in g).H (column_letters p (cut_in g) t)) f
          ∙ (λ k. each (cut k).H (column_letters p (cut k) t) (tabulate (e k) (λ k. outside)))
          ∙ each_ext (cut_of c z).H (λ h bh. each_ext (cut_of c z).N (λ j bj. each_ext (cut_of c z).M (λ i bi out.
          ap (λ (x : ℕ). put (λ was. letter_of (state_at (cut_of c z) t h i j)) x out) (reaches_d c (lengths_in c w) passes.0 p q h i j bh bi bj)))) (tabulate (length (w D)) (λ k. outside))
