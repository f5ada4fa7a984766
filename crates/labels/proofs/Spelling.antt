-- Letters one by one: a letter's bit tells it from all others, and adding the letters of a list in turn gives its different ones in order
-- of first appearance.
-- Assumes nothing.
use Rattle.std.proofs.Common.{◌≡◌, ℕ, ◌+◌, ◌%◌, ◌<◌, ◌≤◌, Bool, true, false, cond, not, ◌&&◌, ◌||◌, T, eqb, leb, List, [], ◌∷◌, ◌++◌, length, get_or, take, sym, refl, ap, ◌∙◌, subst, true≢false, append_assoc, append-nil, arith, leb-true}
use mathlib.Core.List.{map-append}
use Rattle.std.proofs.lemmas.List.{take_more}
use Rattle.words.specs.Lists.{member, keep, cons_if, distinct}
use Rattle.words.proofs.Lists.{T_true, eqb-true, eqb_ne, eqb_self, eqb_flip, keep_append}
use Rattle.words.proofs.Sums.{every_at}
use Rattle.words.proofs.Tabulate.{length_first_of}
use Rattle.layout.specs.declared.layout.Axis.{Axis}
use Rattle.layout.specs.Layout.{no_axis, letters_of}
use Rattle.validity.specs.Letters.{is_letter}
use Rattle.validity.specs.TensorQuestions.{letters_valid}
use Rattle.labels.specs.declared.letter_sets.Letters.{Letters}
use Rattle.labels.specs.Labels.{labels}
use Rattle.labels.specs.LetterSets.{spelled, Spells, added}

-- a letter's code is from 65 to 122, so its bit tells it from all other letters
pub letter_code : (c : ℕ) → is_letter c ≡ true → (65 ≤ c) × (c ≤ 122)
letter_code c = go (leb 65 c) (leb c 90) (leb 97 c) (leb c 122) (leb-true 65 c) (leb-true c 90) (leb-true 97 c) (leb-true c 122)
  where
    go : (p q r s : Bool) → (p ≡ true → 65 ≤ c) → (q ≡ true → c ≤ 90) → (r ≡ true → 97 ≤ c) → (s ≡ true → c ≤ 122)
        → (p && q || r && s) ≡ true → (65 ≤ c) × (c ≤ 122)
    go true true r s f g h k e = let l = f refl in let u = g refl in omega arith
    go true false true true f g h k e = let l = h refl in let u = k refl in omega arith
    go true false true false f g h k e = absurd (true≢false (sym e))
    go true false false s f g h k e = absurd (true≢false (sym e))
    go false q true true f g h k e = let l = h refl in let u = k refl in omega arith
    go false q true false f g h k e = absurd (true≢false (sym e))
    go false q false s f g h k e = absurd (true≢false (sym e))

pub same_letter : (c d : ℕ) → is_letter c ≡ true → is_letter d ≡ true → eqb (c % 64) (d % 64) ≡ eqb c d
same_letter c d f g = go (eqb c d) refl
  where
    go : (b : Bool) → eqb c d ≡ b → eqb (c % 64) (d % 64) ≡ b
    go true e = rw (eqb-true c d e) (eqb_self (d % 64))
    go false e = eqb_ne (c % 64) (d % 64) (λ q. let p : c ≡ d = omega (arith, letter_code c f, letter_code d g) in true≢false (sym (eqb_self c) ∙ ap (eqb c) p ∙ e))

-- a number that passes is kept just where it stands
member_kept : (p : ℕ → Bool) (c : ℕ) → p c ≡ true → (xs : List ℕ) → member c (keep p xs) ≡ member c xs
member_kept p c h [] = refl
member_kept p c h (x ∷ xs) = go (p x) refl (eqb c x) refl (member_kept p c h xs)
  where
    go : (b : Bool) → p x ≡ b → (q : Bool) → eqb c x ≡ q → member c (keep p xs) ≡ member c xs
        → member c (cons_if b x (keep p xs)) ≡ (q || member c xs)
    go true e q f r = rw (f, r)
    go false e true f r = absurd (true≢false (sym h ∙ ap p (eqb-true c x f) ∙ e))
    go false e false f r = r

-- what is kept when a number is added: it is added to what is kept if it passes
keep_added : (p : ℕ → Bool) (c : ℕ) (xs : List ℕ) → keep p (added c xs) ≡ cond (p c) (added c (keep p xs)) (keep p xs)
keep_added p c xs = go (p c) refl (member c xs) refl
  where
    go : (b : Bool) → p c ≡ b → (m : Bool) → member c xs ≡ m → keep p (cond m xs (xs ++ c ∷ [])) ≡ cond b (added c (keep p xs)) (keep p xs)
    go true e true f = rw (member_kept p c e xs, f)
    go true e false f = rw (keep_append p xs (c ∷ []), e, member_kept p c e xs, f)
    go false e true f = refl
    go false e false f = rw (keep_append p xs (c ∷ []), e) (append-nil (keep p xs))

-- the different numbers of a list with one more behind it
pub distinct_next : (xs : List ℕ) (c : ℕ) → distinct (xs ++ c ∷ []) ≡ added c (distinct xs)
distinct_next [] c = refl
distinct_next (x ∷ xs) c = rw (distinct_next xs c, keep_added (λ d. not (eqb x d)) c (distinct xs)) (go (eqb c x) refl)
  where
    others : List ℕ
    others = keep (λ d. not (eqb x d)) (distinct xs)

    go : (b : Bool) → eqb c x ≡ b
        → x ∷ cond (not (eqb x c)) (added c others) others ≡ cond (b || member c others) (x ∷ others) (x ∷ others ++ c ∷ [])
    go true e = rw (eqb-true c x e, eqb_self x)
    go false e = rw (eqb_flip c x e) (inner (member c others))
      where
        inner : (m : Bool) → x ∷ cond m others (others ++ c ∷ []) ≡ cond m (x ∷ others) (x ∷ others ++ c ∷ [])
        inner true = refl
        inner false = refl

-- axes that passed question 3 have letters
pub letter_at : (xs : List Axis) (i : ℕ) → T (letters_valid xs) → i < length xs → is_letter (get_or xs i no_axis).letter ≡ true
unfolding letters_valid
letter_at xs i t h = T_true _ (every_at (λ a. is_letter a.letter) xs i no_axis t h)

-- the labels of axes, with one axis more behind them
labels_behind : (xs : List Axis) (a : Axis) → labels (xs ++ a ∷ []) ≡ added a.letter (labels xs)
unfolding labels
labels_behind xs a = ap distinct (map-append (λ a. a.letter) xs (a ∷ [])) ∙ distinct_next (letters_of xs) a.letter

-- and of the first of other axes behind them, with the next one
pub labels_next : (xs ys : List Axis) (i : ℕ) → i < length ys → labels (xs ++ take (i + 1) ys) ≡ added (get_or ys i no_axis).letter (labels (xs ++ take i ys))
labels_next xs ys i h =
    ap (λ zs. labels (xs ++ zs)) (take_more ys i no_axis h) ∙ ap labels (sym (append_assoc xs (take i ys) (get_or ys i no_axis ∷ [])))
    ∙ labels_behind (xs ++ take i ys) (get_or ys i no_axis)

-- the code's list spells what it holds, as many letters as it counts
pub spells_itself : (x : Letters) (cs : List ℕ) → Spells x cs → Spells x (spelled x)
spells_itself x cs s = subst (Spells x) (sym s.spells) s

pub length_spelled : (x : Letters) → length (spelled x) ≡ x.count
unfolding spelled
length_spelled x = length_first_of x.count 0 x.letters

pub spells_count : (x : Letters) (cs : List ℕ) → Spells x cs → x.count ≡ length cs
spells_count x cs s = sym (length_spelled x) ∙ ap length s.spells
