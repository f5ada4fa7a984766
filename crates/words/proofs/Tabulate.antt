-- Lists made of counts: their lengths and members, one member more at the end, and what is left from a place on.
-- Assumes nothing.
use Rattle.std.proofs.Common.{◌≡◌, ℕ, zero, suc, ◌+◌, ◌-◌, ◌<◌, ◌≤◌, List, [], ◌∷◌, ◌++◌, map, length, get_or, take, drop, set, sym, refl, ap, ◌∙◌, append_assoc, append-nil, add-zero, add-suc, add-one, arith, get_or-set_other, get_or-set_same, ext_get_or, length-take-le}
use Rattle.std.proofs.lemmas.List.{get_or-take}
use Rattle.words.specs.Sums.{All}
use Rattle.words.specs.Lists.{tabulate, first_of}

module _ {X : Type 0} where
  pub length_tabulate : (n : ℕ) (f : ℕ → X) → length (tabulate n f) ≡ n
  length_tabulate zero f = refl
  length_tabulate (suc n) f = ap suc (length_tabulate n (λ i. f (suc i)))

  pub get_or_tabulate : (n : ℕ) (f : ℕ → X) (i : ℕ) (d : X) → i < n → get_or (tabulate n f) i d ≡ f i
  get_or_tabulate zero f i d h = absurd (omega arith)
  get_or_tabulate (suc n) f zero d h = refl
  get_or_tabulate (suc n) f (suc i) d h = get_or_tabulate n (λ i. f (suc i)) i d (omega arith)

  pub tabulate_ext : (n : ℕ) {f g : ℕ → X} → ((i : ℕ) → i < n → f i ≡ g i) → tabulate n f ≡ tabulate n g
  tabulate_ext zero e = refl
  tabulate_ext (suc n) e = rw (e 0 (omega arith), tabulate_ext n (λ i h. e (suc i) (omega arith)))

  -- one more at the end
  pub tabulate_suc : (n : ℕ) (f : ℕ → X) → tabulate (suc n) f ≡ tabulate n f ++ f n ∷ []
  tabulate_suc zero f = refl
  tabulate_suc (suc n) f = ap (λ (l : List X). f 0 ∷ l) (tabulate_suc n (λ i. f (suc i)))

  -- in two parts
  pub tabulate_add : (m n : ℕ) (f : ℕ → X) → tabulate (m + n) f ≡ tabulate m f ++ tabulate n (λ i. f (m + i))
  tabulate_add m zero f = rw (add-zero m, append-nil)
  tabulate_add m (suc n) f =
      rw (add-suc m n, tabulate_suc (m + n) f, tabulate_add m n f, append_assoc) (ap (λ (l : List X). tabulate m f ++ l) (sym (tabulate_suc n (λ i. f (m + i)))))

  pub all_tabulate : (P : X → Type 0) (n : ℕ) (f : ℕ → X) → ((i : ℕ) → i < n → P (f i)) → All P (tabulate n f)
  all_tabulate P zero f h = tt
  all_tabulate P (suc n) f h = (h 0 (omega arith), all_tabulate P n (λ i. f (suc i)) (λ i k. h (suc i) (omega arith)))

  -- what is left from a place on: nothing at the end, and one member more at the place before
  left_none : (n : ℕ) (f : ℕ → X) → drop n (tabulate n f) ≡ []
  left_none zero f = refl
  left_none (suc n) f = left_none n (λ i. f (suc i))

  left_cons : (n : ℕ) (f : ℕ → X) (i : ℕ) → i < n → drop i (tabulate n f) ≡ f i ∷ drop (suc i) (tabulate n f)
  left_cons zero f i h = absurd (omega arith)
  left_cons (suc n) f zero h = refl
  left_cons (suc n) f (suc i) h = left_cons n (λ i. f (suc i)) i (omega arith)

  -- ---- the first n items of an array xs, d where it has fewer

  pub length_first_of : (n : ℕ) (d : X) (xs : List X) → length (first_of n d xs) ≡ n
  length_first_of n d xs = length_tabulate n (λ i. get_or xs i d)

  pub get_or_first_of : (n : ℕ) (d : X) (xs : List X) (i : ℕ) → i < n → get_or (first_of n d xs) i d ≡ get_or xs i d
  get_or_first_of n d xs i h = get_or_tabulate n (λ i. get_or xs i d) i d h

  pub first_of_suc : (n : ℕ) (d : X) (xs : List X) → first_of (n + 1) d xs ≡ first_of n d xs ++ get_or xs n d ∷ []
  first_of_suc n d xs = rw add-one (tabulate_suc n (λ i. get_or xs i d))

  -- all items of a list
  pub first_of_all : (d : X) (xs : List X) (n : ℕ) → length xs ≡ n → first_of n d xs ≡ xs
  first_of_all d xs n e = ext_get_or d _ xs (length_first_of n d xs ∙ sym e) (λ i h. get_or_first_of n d xs i (omega (arith, length_first_of n d xs)))

  -- those of an array that is longer
  pub first_of_take : (d : X) (xs : List X) (n : ℕ) → n ≤ length xs → take n xs ≡ first_of n d xs
  first_of_take d xs n h =
      ext_get_or d _ _ (length-take-le n xs h ∙ sym (length_first_of n d xs))
      (λ i k. let l : i < n = omega (arith, length-take-le n xs h) in get_or-take n xs i d l ∙ sym (get_or_first_of n d xs i l))

  -- one more, stored behind them
  pub first_of_push : (d : X) (xs : List X) (n : ℕ) (v : X) → n < length xs → first_of (n + 1) d (set xs n v) ≡ first_of n d xs ++ v ∷ []
  first_of_push d xs n v h =
      rw (
        first_of_suc n d (set xs n v),
        get_or-set_same xs n v d h,
        tabulate_ext n {f = λ i. get_or (set xs n v) i d} {g = λ i. get_or xs i d} (λ i k. get_or-set_other xs n i v d (λ e. omega arith)),
      )

  -- those from place i on
  abbrev pub from : X → List X → ℕ → ℕ → List X
  from d xs n i = drop i (first_of n d xs)

  pub from_end : (d : X) (xs : List X) (n : ℕ) → from d xs n n ≡ []
  from_end d xs n = left_none n (λ k. get_or xs k d)

  -- for a loop that goes up
  pub from_next : (d : X) (xs : List X) (n i : ℕ) → i < n → from d xs n i ≡ get_or xs i d ∷ from d xs n (i + 1)
  from_next d xs n i h = rw add-one (left_cons n (λ k. get_or xs k d) i h)

  -- for a loop that goes down
  pub from_before : (d : X) (xs : List X) (n i : ℕ) → 0 < i → i ≤ n → from d xs n (i - 1) ≡ get_or xs (i - 1) d ∷ from d xs n i
  from_before d xs n i h k = let e : (i - 1) + 1 ≡ i = omega arith in from_next d xs n (i - 1) (omega arith) ∙ ap (λ (j : ℕ). get_or xs (i - 1) d ∷ from d xs n j) e

-- f of each member
pub map_tabulate : {X Y : Type 0} (g : X → Y) (n : ℕ) (f : ℕ → X) → map g (tabulate n f) ≡ tabulate n (λ i. g (f i))
map_tabulate g zero f = refl
map_tabulate g (suc n) f = rw (map_tabulate g n (λ i. f (suc i)))
