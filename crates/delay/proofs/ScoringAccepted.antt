-- Where so many lags and samples fit the slices, questions 1 to 9 accept the scoring contraction, and its result has at each lag the sum of products, as a
-- word.
-- Assumes nothing.
use mathlib.Core.Path.{◌≡◌, refl, ap, sym, ◌∙◌}
use mathlib.Core.Bool.{true, not, or-true}
use mathlib.Core.List.{List}
use Prim.Native.Nat.{ℕ, suc, ◌+◌, ◌*◌, ◌≤◌, ◌<◌, max}
use native.Mathlib.Nat.{mul-le-mul_left, mul-le-mul_right}
use native.Mathlib.Omega.{arith}
use lib.Dec.{leb}
use lib.ListN.{length, get_or}
use borrow.Author.Tests.{le-leb, lt-ltb, eq-eqb}
use Rattle.words.specs.Sums.{sum_to}
use Rattle.words.specs.Words.{word, up, down}
use Rattle.words.proofs.Sums.{sum_to_ext}
use Rattle.limits.specs.Limits.{extent_limit, product_limit, slice_limit, used_limit, lag_room}
use Rattle.layout.specs.declared.layout.Axis.{Axis}
use Rattle.layout.specs.Layout.{axes, axes_of, layout_of, address}
use Rattle.labels.specs.Labels.{labels}
use Rattle.validity.specs.TensorQuestions.{rank_fits, counts_match, letters_valid, extents_valid, strides_valid, sizes_valid}
use Rattle.points.specs.LabelQuestions.{extents_agree, letters_same, points, points_fit}
use Rattle.entries.specs.EntryQuestions.{has_entries, span, inside, below, strides_apart, apart}
use Rattle.entries.specs.Bounds.{InRange}
use Rattle.contraction.specs.Operands.{four, three, tensors, together}
use Rattle.contraction.specs.declared.contraction.Operand.{Operand}
use Rattle.contraction.specs.declared.contraction.Operand.TheVariants.{A, B, C, D}
use Rattle.tensor_answers.specs.OwnQuestions.{tensor_questions}
use Rattle.questions.specs.Questions.{label_questions, entry_questions, layout_questions}
use Rattle.groups.specs.Groups.{group_of, in_group, group}
use Rattle.meaning.specs.Index.{assign}
use Rattle.meaning.specs.Meaning.{shape_in, combined, first_no, entry, value}
use Rattle.answers.specs.PlainAnswer.{plain_done, PlainCall}
use Rattle.plain.specs.PlainCall.{plain_call}
use Rattle.plain.proofs.PlainAnswered.{call_done}
use Rattle.plain.proofs.PlainDemand.{demand2}
use Rattle.plain.proofs.PlainWithoutC.{plain_without_c}
use Rattle.delay.specs.Scoring.{lag_letter, sample_letter, one_label, two_labels, scoring}

-- C is not named, so that any words may stand in its place
pub in_place_of_c : (lags used : ℕ) (xs ys c d : List ℕ)
    → plain_call (scoring lags used) (four xs ys c d) ≡ plain_call (scoring lags used) (three xs ys d)
unfolding scoring
in_place_of_c lags used xs ys c d =
    plain_without_c (two_labels lags used) (one_label sample_letter used) (one_label lag_letter lags) (one_label lag_letter lags) 1 0 xs ys c d

inside_yes : (l : List Axis) (n : ℕ) → span down l ≤ 0 → 0 + span up l < n → inside l 0 n ≡ true
unfolding inside
inside_yes l n h k = rw (le-leb (span down l) 0 h, lt-ltb (0 + span up l) n k) (or-true (not (has_entries l)))

apart_yes : (l : List Axis) → strides_apart l ≡ true → apart l ≡ true
unfolding apart
apart_yes l h = rw h (or-true (not (has_entries l)))

-- so many lags and samples of Y fit the recordings, and the lags fit D
pub record Sized (lags used : ℕ) (xs ys d : List ℕ) : Type 0 where
  pub some_lag : 1 ≤ lags
  pub few_lags : lags ≤ lag_room
  pub some_used : 1 ≤ used
  pub few_used : used ≤ used_limit
  pub long_x : lags + used ≡ suc (length xs)
  pub long_y : length ys ≡ length xs
  pub long_d : lags ≤ length d
  pub short_d : length d ≤ slice_limit

module _ (lags used : ℕ) (xs ys d : List ℕ) (q : Sized lags used xs ys d) where
  product_small : max 1 lags * (max 1 used * 1) ≤ product_limit
  product_small =
      let l : max 1 lags ≡ lags = omega (arith, q.some_lag) in
      let u : max 1 used ≡ used = omega (arith, q.some_used) in
      rw (l, u) (omega (arith, mul-le-mul_left lags q.few_used, mul-le-mul_right used_limit q.few_lags))

  -- question 8
  within : (o : Operand) → inside (axes (tensors (scoring lags used) o)) 0 (length (three xs ys d o)) ≡ true
  unfolding scoring axes axes_of layout_of labels span
  within A = inside_yes (axes (tensors (scoring lags used) A)) (length xs) (omega arith) (omega arith)
  within B = inside_yes (axes (tensors (scoring lags used) B)) (length ys) (omega arith) (omega arith)
  within C = inside_yes (axes (tensors (scoring lags used) C)) (length d) (omega arith) (omega arith)
  within D = inside_yes (axes (tensors (scoring lags used) D)) (length d) (omega arith) (omega arith)

  -- question 9
  spread : apart (axes (tensors (scoring lags used) D)) ≡ true
  unfolding scoring axes axes_of layout_of labels below strides_apart
  spread = apart_yes (axes (tensors (scoring lags used) D)) (simp (or-true (leb lags 1)) refl)

  -- question 7
  few_points : points_fit (together (shape_in (scoring lags used))) ≡ true
  unfolding scoring axes axes_of layout_of together labels points points_fit
  few_points = le-leb _ _ product_small

  pub accepted : first_no (scoring lags used) (three xs ys d) ≡ 0
  unfolding scoring axes axes_of layout_of together labels tensor_questions label_questions entry_questions layout_questions rank_fits counts_match letters_valid extents_valid strides_valid sizes_valid extents_agree letters_same
  accepted =
      simp (
        le-leb lags extent_limit (omega arith),
        le-leb used extent_limit (omega arith),
        le-leb (length xs) slice_limit (omega arith),
        le-leb (length ys) slice_limit (omega arith),
        le-leb (length d) slice_limit (omega arith),
        eq-eqb lags lags refl,
        eq-eqb used used refl,
        few_points,
        within A,
        within B,
        within D,
        spread,
      ) refl

  -- the entries of X and Y at a lag and a sample
  module _ (lag : ℕ) where
    abbrev at_sample : ℕ → ℕ → ℕ
    at_sample = assign (λ c. lag) sample_letter

    entry_x : (t : ℕ) → entry (scoring lags used) (three xs ys d) A (at_sample t) ≡ get_or xs (t + lag) 0
    unfolding scoring axes axes_of layout_of address entry
    entry_x t = ap (λ (i : ℕ). get_or xs i 0) (omega arith)

    entry_y : (t : ℕ) → entry (scoring lags used) (three xs ys d) B (at_sample t) ≡ get_or ys t 0
    unfolding scoring axes axes_of layout_of address entry
    entry_y t = ap (λ (i : ℕ). get_or ys i 0) (omega arith)

    -- alpha is 1 and beta 0
    plain_sum : (sum old : ℕ) → combined 1 0 sum old ≡ word 32 sum
    plain_sum sum old = ap (word 32) (omega arith)

    value_sum : value (scoring lags used) (three xs ys d) (λ c. lag) ≡ word 32 (sum_to used (λ t. get_or xs (t + lag) 0 * get_or ys t 0))
    unfolding scoring axes axes_of layout_of together labels group_of in_group group value
    value_sum =
        plain_sum
        (sum_to used (λ t. entry (scoring lags used) (three xs ys d) A (at_sample t) * entry (scoring lags used) (three xs ys d) B (at_sample t)))
        (entry (scoring lags used) (three xs ys d) D (λ c. lag))
        ∙ ap (word 32) (sum_to_ext used (λ t h. rw (entry_x t, entry_y t)))

    place : address (tensors (scoring lags used) D) (λ c. lag) ≡ lag
    unfolding scoring axes axes_of layout_of address
    place = omega arith

    in_range : lag < lags → InRange (axes (tensors (scoring lags used) D)) (λ c. lag)
    unfolding scoring axes axes_of layout_of labels
    in_range h = (h, tt)

    -- D's word at a lag is the sum of products, modulo 2 ^ 32
    pub score_word : lag < lags
        → get_or (plain_call (scoring lags used) (three xs ys d)).words lag 0 ≡ word 32 (sum_to used (λ t. get_or xs (t + lag) 0 * get_or ys t 0))
    score_word h =
        ap (λ (i : ℕ). get_or (plain_call (scoring lags used) (three xs ys d)).words i 0) (sym place)
        ∙ (demand2 (scoring lags used) (three xs ys d) accepted).addressed (λ c. lag) (in_range h)
        ∙ value_sum

  pub call_is_done : (plain_call (scoring lags used) (three xs ys d)).answer ≡ plain_done
  call_is_done = ap (λ (k : PlainCall). k.answer) (sym (call_done (scoring lags used) (three xs ys d) accepted))
