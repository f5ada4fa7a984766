-- A sum over all values of the labels of a group is a sum over the counts of the group.
-- Assumes nothing.
use mathlib.Core.Path.{◌≡◌, refl, ap, sym, ◌∙◌, fun_ext}
use mathlib.Core.Bool.{Bool, true, false, cond, true≢false}
use mathlib.Core.List.{List, [], ◌∷◌}
use Prim.Native.Nat.{ℕ, ◌+◌, ◌*◌, ◌/◌, ◌%◌, ◌<◌}
use native.Mathlib.Omega.{arith}
use lib.Dec.{eqb}
use Rattle.words.specs.Sums.{sum_to}
use Rattle.words.proofs.Lists.{eqb-true, eqb_self}
use Rattle.words.proofs.Sums.{sum_to_ext, sum_to_mul, sum_to_swap}
use Rattle.groups.specs.Groups.{Label, size}
use Rattle.offsets.proofs.Digits.{lowest, rest}
use Rattle.meaning.specs.Index.{assign, at, sum_over}
use Rattle.meaning.proofs.CountAddress.{Fresh, Distinct}

at_cons : (l : Label) (g : List Label) (ρ : ℕ → ℕ) (m v : ℕ) → v < l.extent → at (l ∷ g) (l.extent * m + v) ρ ≡ assign (at g m ρ) l.letter v
at_cons l g ρ m v h = rw (lowest l.extent m h, rest l.extent m h)

-- values for two letters may be assigned in either order
assign_comm : (ρ : ℕ → ℕ) (c v d u : ℕ) → eqb c d ≡ false → assign (assign ρ c v) d u ≡ assign (assign ρ d u) c v
assign_comm ρ c v d u e = fun_ext (λ x. go x (eqb x c) (eqb-true x c) (eqb x d) (eqb-true x d))
  where
    go : (x : ℕ) (b : Bool) → (b ≡ true → x ≡ c) → (k : Bool) → (k ≡ true → x ≡ d) → cond k u (cond b v (ρ x)) ≡ cond b v (cond k u (ρ x))
    go x true p true q = absurd (true≢false (sym (eqb_self c) ∙ ap (eqb c) (sym (p refl) ∙ q refl) ∙ e))
    go x true p false q = refl
    go x false p true q = refl
    go x false p false q = refl

at_assign : (g : List Label) (m : ℕ) (ρ : ℕ → ℕ) (c v : ℕ) → Fresh c g → at g m (assign ρ c v) ≡ assign (at g m ρ) c v
at_assign [] m ρ c v h = refl
at_assign (l ∷ g) m ρ c v h =
    rw (at_assign g (m / l.extent) ρ c v h.1) (assign_comm (at g (m / l.extent) ρ) c v l.letter (m % l.extent) h.0)

pub sum_over_is_sum_to : (g : List Label) (f : (ℕ → ℕ) → ℕ) (ρ : ℕ → ℕ) → Distinct g → sum_over g f ρ ≡ sum_to (size g) (λ n. f (at g n ρ))
unfolding sum_to
sum_over_is_sum_to [] f ρ d = omega arith
sum_over_is_sum_to (l ∷ g) f ρ d =
    sum_to_ext l.extent (λ v _. sum_over_is_sum_to g f (assign ρ l.letter v) d.1)
    ∙ sum_to_swap l.extent (size g) (λ v m. f (at g m (assign ρ l.letter v)))
    ∙ sum_to_ext (size g) (λ m _. sum_to_ext l.extent (λ v h. ap f (at_assign g m ρ l.letter v d.0 ∙ sym (at_cons l g ρ m v h))))
    ∙ sym (sum_to_mul l.extent (size g) (λ n. f (at (l ∷ g) n ρ)))
