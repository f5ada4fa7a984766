-- A list whose first words were stored one after the other: a store behind the front makes it one word longer, and so do words stored in a row.
-- Rows of words that are apart may be stored in either order.
-- Assumes nothing.
use Rattle.std.proofs.Common.{◌≡◌, ℕ, zero, suc, ◌+◌, ◌<◌, ◌≤◌, List, ◌∷◌, ◌++◌, length, get_or, drop, set, sym, refl, ap, ◌∙◌, append-nil, add-zero, add_assoc, add-one, arith, length-append, length-drop, drop-cons, drop_at}
use lib.ListN.{get_or-append}
use lib.Seq.{append_snoc, drop-length, set_at, set_comm}
use Rattle.words.specs.Lists.{tabulate}
use Rattle.words.specs.Loops.{each, put}
use Rattle.words.specs.Fronts.{stored, front}
use Rattle.words.proofs.Loops.{each_ext, each_more, each_swap}
use Rattle.words.proofs.Tabulate.{length_tabulate, get_or_tabulate, tabulate_ext, tabulate_suc}

pub length_front : (n : ℕ) (f : ℕ → ℕ) (xs : List ℕ) → n ≤ length xs → length (front n f xs) ≡ length xs
unfolding front
length_front n f xs h = simp (length-append, length_tabulate, length-drop) (omega arith)

pub get_or_front : (n : ℕ) (f : ℕ → ℕ) (xs : List ℕ) (i : ℕ) → i < n → get_or (front n f xs) i 0 ≡ f i
unfolding front
get_or_front n f xs i h = get_or-append (tabulate n f) (drop n xs) 0 i (rw (length_tabulate n f) h) ∙ get_or_tabulate n f i 0 h

pub drop_front : (n : ℕ) (f : ℕ → ℕ) (xs : List ℕ) → drop n (front n f xs) ≡ drop n xs
unfolding front
drop_front n f xs = drop_at (tabulate n f) (drop n xs) n (length_tabulate n f)

module _ {X : Type 0} (f : ℕ → X) (xs : List X) where
  pub front_none : front 0 f xs ≡ xs
  unfolding front
  front_none = refl

  -- one more word
  pub front_set : (n : ℕ) (v : X) → n < length xs → v ≡ f n → set (front n f xs) n v ≡ front (n + 1) f xs
  unfolding front
  front_set n v h e =
      ap (λ (l : List X). set (tabulate n f ++ l) n v) (drop-cons xs n v h)
      ∙ set_at (tabulate n f) (get_or xs n v) (drop (suc n) xs) v n (length_tabulate n f)
      ∙ ap (λ (w : X). tabulate n f ++ w ∷ drop (suc n) xs) e
      ∙ sym (append_snoc (tabulate n f) (f n) (drop (suc n) xs))
      ∙ ap (λ (l : List X). l ++ drop (suc n) xs) (sym (tabulate_suc n f))
      ∙ ap (λ (k : ℕ). tabulate k f ++ drop k xs) (sym (add-one n))

  -- all of them
  pub front_all : front (length xs) f xs ≡ tabulate (length xs) f
  unfolding front
  front_all = rw (drop-length xs) (append-nil (tabulate (length xs) f))

-- the same words, said another way
pub front_ext : (n : ℕ) {f g : ℕ → ℕ} (xs : List ℕ) → ((i : ℕ) → i < n → f i ≡ g i) → front n f xs ≡ front n g xs
unfolding front
front_ext n {f} {g} xs e = ap (λ (l : List ℕ). l ++ drop n xs) (tabulate_ext n {f = f} {g = g} e)

-- words stored behind the front
pub stored_front : (m n : ℕ) (v f : ℕ → ℕ) (xs : List ℕ) → n + m ≤ length xs → ((i : ℕ) → i < m → v i ≡ f (n + i)) → stored m v n (front n f xs) ≡ front (n + m) f xs
unfolding stored each put
stored_front zero n v f xs h e = ap (λ (k : ℕ). front k f xs) (sym (add-zero n))
stored_front (suc m) n v f xs h e =
    ap (λ (l : List ℕ). set l (n + m) (v m)) (stored_front m n v f xs (omega arith) (λ i k. e i (omega arith)))
    ∙ front_set f xs (n + m) (v m) (omega arith) (e m (omega arith))
    ∙ ap (λ (k : ℕ). front k f xs) (omega arith)

-- no word stored, and one word more
pub stored_none : (v : ℕ → ℕ) (to : ℕ) (xs : List ℕ) → stored 0 v to xs ≡ xs
unfolding stored each
stored_none v to xs = refl

pub stored_set : (n : ℕ) (v : ℕ → ℕ) (to : ℕ) (xs : List ℕ) {ys : List ℕ} {w : ℕ} → ys ≡ stored n v to xs → w ≡ v n → set ys (to + n) w ≡ stored (n + 1) v to xs
unfolding stored each put
stored_set n v to xs e f = rw (add-one, e, f)

-- words stored behind those that are, and the same words said another way
pub stored_more : (r n : ℕ) (v w : ℕ → ℕ) (to : ℕ) (xs : List ℕ) → ((k : ℕ) → k < n → w k ≡ v (r + k)) → stored n w (to + r) (stored r v to xs) ≡ stored (r + n) v to xs
unfolding stored
stored_more r n v w to xs e =
    each_more r n (λ k. put (λ was. v k) (to + k)) (λ k. put (λ was. w k) (to + r + k)) xs (λ k h s. rw (e k h, add_assoc to r k))

pub stored_ext : (n : ℕ) (v w : ℕ → ℕ) (to : ℕ) (xs : List ℕ) → ((k : ℕ) → k < n → v k ≡ w k) → stored n v to xs ≡ stored n w to xs
unfolding stored
stored_ext n v w to xs e = each_ext {f = λ k. put (λ was. v k) (to + k)} {g = λ k. put (λ was. w k) (to + k)} n (λ k h s. rw (e k h)) xs

-- m words from x on, and n words from y on, behind them
pub stored_apart : (m n : ℕ) (v w : ℕ → ℕ) (x y : ℕ) (xs : List ℕ) → x + m ≤ y → stored m v x (stored n w y xs) ≡ stored n w y (stored m v x xs)
unfolding stored put
stored_apart m n v w x y xs h =
    each_swap (λ i s. set s (x + i) (v i)) (each n (λ j s. set s (y + j) (w j))) m
    (λ i a s. sym (each_swap (λ j s. set s (y + j) (w j)) (λ s. set s (x + i) (v i)) n (λ j b s. set_comm s (x + i) (y + j) (v i) (w j) (λ e. omega arith)) s))
    xs

-- one word, and two
pub stored_one : (v : ℕ → ℕ) (to : ℕ) (xs : List ℕ) {w : ℕ} → w ≡ v 0 → set xs to w ≡ stored 1 v to xs
unfolding stored each put
stored_one v to xs e = rw (add-zero to, e)

pub stored_two : (v : ℕ → ℕ) (to : ℕ) (xs : List ℕ) {w u : ℕ} → w ≡ v 0 → u ≡ v 1 → set (set xs to w) (to + 1) u ≡ stored 2 v to xs
unfolding stored each put
stored_two v to xs e f = rw (add-zero to, e, f)
