-- Where question 9 passes, two indices in range with one address are the same: each stride size leaves room for all that are no greater.
-- Taking at each label the index that counts upwards, both addresses become sums of indices × stride sizes.
-- Assumes nothing.
use mathlib.Core.Path.{◌≡◌, refl, ap, sym}
use mathlib.Core.Bool.{Bool, true, false, not, cond, ◌&&◌, ◌||◌}
use mathlib.Core.List.{List, [], ◌∷◌}
use Prim.Native.Nat.{ℕ, ◌+◌, ◌*◌, ◌-◌, ◌≤◌, ◌<◌}
use native.Mathlib.Omega.{arith}
use lib.IntN.{ℤ, pos, negsuc, nat_abs}
use lib.Dec.{T, eqb, leb, ltb, leb→le, ltb→lt}
use Rattle.words.specs.Sums.{sum_of, All}
use Rattle.words.specs.Lists.{member}
use Rattle.words.specs.Words.{up, down}
use Rattle.words.proofs.Lists.{all_imp, all_of, all_both, eqb-true, sum_of_single, members}
use Rattle.words.proofs.Sums.{sum_of_add, every_all, where_split}
use Rattle.layout.specs.declared.layout.Axis.{Axis}
use Rattle.layout.specs.declared.layout.Layout.{Layout}
use Rattle.layout.specs.Layout.{axes, address}
use Rattle.labels.specs.Labels.{stride_of, extent_of, labels}
use Rattle.entries.specs.EntryQuestions.{has_entries, stride_size, below, strides_apart, apart}
use Rattle.entries.specs.Bounds.{InRange, Inside}
use Rattle.entries.proofs.Bounds.{in_range_some}
use Rattle.entries.proofs.ByLabel.{labels_unique, axes_labels}
use Rattle.entries.proofs.Injective.{sum_of_le, reach, equal_sums}

-- of two indices the one that counts upwards at a stride
abbrev pick : ℤ → ℕ → ℕ → ℕ
pick (pos n) a b = a
pick (negsuc n) a b = b

pick_mul : (s : ℤ) (a b : ℕ) → pick s a b * nat_abs s ≡ a * up s + b * down s
pick_mul (pos n) a b = omega arith
pick_mul (negsuc n) a b = omega arith

pick_lt : (s : ℤ) (a b e : ℕ) → a < e → b < e → pick s a b < e
pick_lt (pos n) a b e h k = h
pick_lt (negsuc n) a b e h k = k

pick_eq : (s : ℤ) (a b : ℕ) → pick s a b ≡ pick s b a → a ≡ b
pick_eq (pos n) a b p = p
pick_eq (negsuc n) a b p = sym p

or_elim : (a b : Bool) → T (a || b) → (T a → ⊥) → T b
or_elim true b t f = absurd (f tt)
or_elim false b t f = t

module _ (xs : List Axis) where
  ext : ℕ → ℕ
  ext c = extent_of c xs

  step : ℕ → ℕ
  step c = stride_size xs c

  -- what the labels up to a label's stride size reach is what the others do and what it does itself
  reach_below : (d : ℕ) → member d (labels xs) ≡ true → reach ext step (labels xs) (step d) ≤ below xs d + (ext d - 1) * step d
  unfolding ext step below
  reach_below d m =
      omega (
        arith,
        sum_of_single d ((ext d - 1) * step d) (λ c. 1) (labels xs) (labels_unique xs) m,
        sum_of_add other own (labels xs),
        sum_of_le (λ c. cond (leb (step c) (step d)) ((ext c - 1) * step c) 0) (λ c. other c + own c) (labels xs)
            (all_of (λ c. each c (eqb d c) (eqb-true d c) (leb (step c) (step d))) (labels xs)),
      )
    where
      other : ℕ → ℕ
      other c = cond (not (eqb d c) && leb (step c) (step d)) ((ext c - 1) * step c) 0

      own : ℕ → ℕ
      own c = 1 * cond (eqb d c) ((ext d - 1) * step d) 0

      each : (c : ℕ) (b : Bool) → (b ≡ true → d ≡ c) → (k : Bool)
          → cond k ((ext c - 1) * step c) 0 ≤ cond (not b && k) ((ext c - 1) * step c) 0 + 1 * cond b ((ext d - 1) * step d) 0
      each c true p true = rw (p refl) (omega arith)
      each c true p false = omega arith
      each c false p true = omega arith
      each c false p false = omega arith

  -- question 9 leaves room at every label
  roomy : T (strides_apart xs) → All (λ c. 1 < ext c → reach ext step (labels xs) (step c) < ext c * step c) (labels xs)
  unfolding ext step strides_apart
  roomy q = all_imp room (labels xs) (all_both _ _ (labels xs) (members (labels xs)) (every_all _ (labels xs) q))
    where
      room : (c : ℕ) → (member c (labels xs) ≡ true) × T (leb (ext c) 1 || ltb (below xs c) (step c)) → 1 < ext c → reach ext step (labels xs) (step c) < ext c * step c
      room c h k =
          let b = ltb→lt (below xs c) (step c) (or_elim (leb (ext c) 1) _ h.1 (λ w. not_both (leb→le _ _ w))) in
          let e : ext c ≡ (ext c - 1) + 1 = omega arith in
          omega (arith, reach_below c h.0, ap (λ (z : ℕ). z * step c) e)
        where
          not_both : ext c ≤ 1 → ⊥
          not_both w = omega arith

  -- of two indices, at each letter the one that counts upwards
  upper : (ℕ → ℕ) → (ℕ → ℕ) → ℕ → ℕ
  upper ρ σ c = pick (stride_of c xs) (ρ c) (σ c)

  upper_sum : (ρ σ : ℕ → ℕ) (cs : List ℕ)
      → sum_of (λ c. upper ρ σ c * step c) cs ≡ sum_of (λ c. ρ c * up (stride_of c xs)) cs + sum_of (λ c. σ c * down (stride_of c xs)) cs
  unfolding upper step
  upper_sum ρ σ [] = refl
  upper_sum ρ σ (c ∷ cs) = omega (arith, upper_sum ρ σ cs, pick_mul (stride_of c xs) (ρ c) (σ c))

  upper_in : (ρ σ : ℕ → ℕ) → InRange xs ρ → InRange xs σ → All (λ c. upper ρ σ c < ext c) (labels xs)
  unfolding upper ext
  upper_in ρ σ h k = all_imp (λ c b. pick_lt (stride_of c xs) (ρ c) (σ c) _ b.0 b.1) (labels xs) (all_both _ _ (labels xs) h k)

-- two indices in range with one address agree at every label
pub apart_injective : (l : Layout) → T (apart (axes l)) → (n : ℕ) (ρ σ : ℕ → ℕ) → InRange (axes l) ρ → InRange (axes l) σ → Inside l n ρ → Inside l n σ
    → address l ρ ≡ address l σ → All (λ c. ρ c ≡ σ c) (labels (axes l))
unfolding address upper apart
apart_injective l q n ρ σ hρ hσ iρ iσ e =
    let xs : List Axis = axes l in
    let room = where_split (has_entries xs) (strides_apart xs) q (in_range_some xs ρ hρ) in
    all_imp (λ c. pick_eq (stride_of c xs) (ρ c) (σ c)) (labels xs)
    (equal_sums (ext xs) (step xs) (upper xs ρ σ) (upper xs σ ρ) (labels xs) (upper_in xs ρ σ hρ hσ) (upper_in xs σ ρ hσ hρ) (roomy xs room)
    (omega (arith, upper_sum xs ρ σ (labels xs), upper_sum xs σ ρ (labels xs), axes_labels xs ρ, axes_labels xs σ)))
