-- Laws of sums, products and tests over a list, and of sums over the counts below a bound.
-- Assumes nothing.
use Rattle.std.proofs.Common.{◌≡◌, ℕ, zero, suc, ◌+◌, ◌*◌, ◌<◌, ◌≤◌, Bool, true, false, not, ◌&&◌, ◌||◌, T, List, [], ◌∷◌, ◌++◌, map, length, get_or, take, drop, sym, refl, true≢false, add-zero, add_assoc, add-suc, mul_assoc, mul-le-mul_right, mul-le-mul, mul-le-mul_left, mul-pos, mul-zero, mul-suc, arith}
use Rattle.words.specs.Sums.{sum_of, product, sum_to, every, All}
use Rattle.words.specs.Lists.{keep, cons_if}

module _ {X : Type 0} where
  pub sum_of_ext : {f g : X → ℕ} → ((x : X) → f x ≡ g x) → (xs : List X) → sum_of f xs ≡ sum_of g xs
  sum_of_ext e [] = refl
  sum_of_ext e (x ∷ xs) = rw (e x, sum_of_ext e xs)

  pub sum_of_add : (f g : X → ℕ) (xs : List X) → sum_of (λ x. f x + g x) xs ≡ sum_of f xs + sum_of g xs
  sum_of_add f g [] = refl
  sum_of_add f g (x ∷ xs) = omega (arith, sum_of_add f g xs)

  -- one member more behind them
  pub sum_of_behind : (f : X → ℕ) (xs : List X) (x : X) → sum_of f (xs ++ x ∷ []) ≡ sum_of f xs + f x
  sum_of_behind f [] x = omega arith
  sum_of_behind f (y ∷ xs) x = omega (arith, sum_of_behind f xs x)

  pub sum_of_zero : (xs : List X) → sum_of (λ x. 0) xs ≡ 0
  sum_of_zero [] = refl
  sum_of_zero (x ∷ xs) = omega (arith, sum_of_zero xs)

pub sum_to_ext : {f g : ℕ → ℕ} (n : ℕ) → ((i : ℕ) → i < n → f i ≡ g i) → sum_to n f ≡ sum_to n g
unfolding sum_to
sum_to_ext zero e = refl
sum_to_ext (suc n) e = rw (e n (omega arith), sum_to_ext n (λ i h. e i (omega arith)))

pub sum_to_add : (n m : ℕ) (f : ℕ → ℕ) → sum_to (n + m) f ≡ sum_to n f + sum_to m (λ i. f (n + i))
unfolding sum_to
sum_to_add n zero f = simp add-zero
sum_to_add n (suc m) f = simp (add-suc, sum_to_add n m f, add_assoc)

-- a sum over e × s counts, the first of the two counts running fastest
pub sum_to_mul : (e s : ℕ) (f : ℕ → ℕ) → sum_to (e * s) f ≡ sum_to s (λ m. sum_to e (λ v. f (e * m + v)))
unfolding sum_to
sum_to_mul e zero f = simp mul-zero
sum_to_mul e (suc s) f = simp (mul-suc, sum_to_add, sum_to_mul e s f)

pub sum_to_zero : (n : ℕ) → sum_to n (λ i. 0) ≡ 0
unfolding sum_to
sum_to_zero zero = refl
sum_to_zero (suc n) = omega (arith, sum_to_zero n)

sum_to_plus : (n : ℕ) (f g : ℕ → ℕ) → sum_to n (λ i. f i + g i) ≡ sum_to n f + sum_to n g
unfolding sum_to
sum_to_plus zero f g = refl
sum_to_plus (suc n) f g = omega (arith, sum_to_plus n f g)

-- two sums may change places
pub sum_to_swap : (n m : ℕ) (f : ℕ → ℕ → ℕ) → sum_to n (λ i. sum_to m (λ j. f i j)) ≡ sum_to m (λ j. sum_to n (λ i. f i j))
unfolding sum_to
sum_to_swap zero m f = sym (sum_to_zero m)
sum_to_swap (suc n) m f = rw (sum_to_swap n m f) (sym (sum_to_plus m (λ j. sum_to n (λ i. f i j)) (f n)))

pub and_split : (a b : Bool) → T (a && b) → T a × T b
and_split true b t = (tt, t)
and_split false b t = absurd t

pub and_join : (a b : Bool) → T a → T b → T (a && b)
and_join true b t u = u
and_join false b t u = t

-- two tests that are true together are true each
pub both_true : (a b : Bool) → (a && b) ≡ true → (a ≡ true) × (b ≡ true)
both_true true b e = (refl, e)
both_true false b e = absurd (true≢false (sym e))

-- a test that is asked where another passes
pub where_split : (a b : Bool) → T (not a || b) → T a → T b
where_split true b t u = t
where_split false b t u = absurd u

pub where_join : (a b : Bool) → (T a → T b) → T (not a || b)
where_join true b f = f tt
where_join false b f = tt

-- a test that passes at every member passes at each
pub every_all : {X : Type 0} (p : X → Bool) (xs : List X) → T (every p xs) → All (λ x. T (p x)) xs
every_all p [] t = tt
every_all p (x ∷ xs) t = let h = and_split (p x) (every p xs) t in (h.0, every_all p xs h.1)

pub all_every : {X : Type 0} (p : X → Bool) (xs : List X) → All (λ x. T (p x)) xs → T (every p xs)
all_every p [] h = tt
all_every p (x ∷ xs) h = and_join (p x) (every p xs) h.0 (all_every p xs h.1)

-- tests that agree at every element agree
pub every_same : {X : Type 0} (p q : X → Bool) (xs : List X) → All (λ x. p x ≡ q x) xs → every p xs ≡ every q xs
every_same p q [] h = refl
every_same p q (x ∷ xs) h = rw (h.0, every_same p q xs h.1)

-- a test that passes at every member passes at one, at every member from a place on, and at every member before a place
pub every_at : {X : Type 0} (p : X → Bool) (xs : List X) (i : ℕ) (d : X) → T (every p xs) → i < length xs → T (p (get_or xs i d))
every_at p [] i d t h = absurd (omega arith)
every_at p (x ∷ xs) zero d t h = (and_split (p x) (every p xs) t).0
every_at p (x ∷ xs) (suc i) d t h = every_at p xs i d (and_split (p x) (every p xs) t).1 (omega arith)

pub every_take : {X : Type 0} (p : X → Bool) (i : ℕ) (xs : List X) → T (every p xs) → T (every p (take i xs))
every_take p zero xs t = tt
every_take p (suc i) [] t = tt
every_take p (suc i) (x ∷ xs) t = let h = and_split (p x) (every p xs) t in and_join (p x) (every p (take i xs)) h.0 (every_take p i xs h.1)

pub every_drop : {X : Type 0} (p : X → Bool) (i : ℕ) (xs : List X) → T (every p xs) → T (every p (drop i xs))
every_drop p zero xs t = t
every_drop p (suc i) [] t = t
every_drop p (suc i) (x ∷ xs) t = every_drop p i xs (and_split (p x) (every p xs) t).1

-- a test at every member of one list behind the other
pub every_and : {X : Type 0} (p : X → Bool) (xs ys : List X) → every p (xs ++ ys) ≡ (every p xs && every p ys)
every_and p [] ys = refl
every_and p (x ∷ xs) ys = go (p x) (every_and p xs ys)
  where
    go : (b : Bool) → every p (xs ++ ys) ≡ (every p xs && every p ys) → (b && every p (xs ++ ys)) ≡ ((b && every p xs) && every p ys)
    go true e = e
    go false e = refl

-- a test that passes at every member of two lists passes at every member of one behind the other
pub every_append : {X : Type 0} (p : X → Bool) (xs ys : List X) → T (every p xs) → T (every p ys) → T (every p (xs ++ ys))
every_append p [] ys t u = u
every_append p (x ∷ xs) ys t u = let h = and_split (p x) (every p xs) t in and_join (p x) (every p (xs ++ ys)) h.0 (every_append p xs ys h.1 u)

module _ {X : Type 0} (f : X → ℕ) where
  -- where every factor is 1 or more, a part of the product is no more than the whole
  pub product_keep : ((x : X) → 0 < f x) → (p : X → Bool) (xs : List X) → product f (keep p xs) ≤ product f xs
  product_keep h p [] = omega arith
  product_keep h p (x ∷ xs) = go (p x) (product_keep h p xs)
    where
      go : (b : Bool) → product f (keep p xs) ≤ product f xs → product f (cons_if b x (keep p xs)) ≤ f x * product f xs
      go true r = mul-le-mul_left (f x) r
      go false r = omega (arith, r, mul-le-mul_right (product f xs) (h x))

  -- one factor more behind them
  pub product_behind : (xs : List X) (x : X) → product f (xs ++ x ∷ []) ≡ product f xs * f x
  product_behind [] x = omega arith
  product_behind (y ∷ xs) x = rw (product_behind xs x) (sym (mul_assoc (f y) (product f xs) (f x)))

  pub product_pos : ((x : X) → 0 < f x) → (xs : List X) → 0 < product f xs
  product_pos h [] = omega arith
  product_pos h (x ∷ xs) = mul-pos (h x) (product_pos h xs)

  pub product_le : (h : X → ℕ) → ((x : X) → f x ≤ h x) → (xs : List X) → product f xs ≤ product h xs
  product_le h e [] = omega arith
  product_le h e (x ∷ xs) = mul-le-mul (e x) (product_le h e xs)

  pub product_map : {Y : Type 0} (h : Y → X) (ys : List Y) → product f (map h ys) ≡ product (λ y. f (h y)) ys
  product_map h [] = refl
  product_map h (y ∷ ys) = rw (product_map h ys)
