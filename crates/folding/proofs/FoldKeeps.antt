-- Folding keeps a group's size and the offset of every count, in every tensor.
-- Assumes nothing.
use mathlib.Core.Path.{◌≡◌, refl, ap, ◌∙◌}
use mathlib.Core.Bool.{Bool, true, false, not}
use mathlib.Core.List.{List, [], ◌∷◌}
use Prim.Native.Nat.{ℕ, ◌+◌, ◌*◌, ◌/◌, ◌%◌}
use native.Mathlib.Nat.{div-add-mod, div-div-eq-div-mul, mul_assoc, mod-one, div-one}
use native.Mathlib.Omega.{arith}
use lib.IntN.{ℤ, pos, negsuc, ◌*ℤ◌}
use lib.Dec.{T, eqb, eqb→eq}
use Rattle.words.specs.Sums.{All}
use Rattle.words.specs.Lists.{keep, cons_if}
use Rattle.words.specs.Words.{up, down}
use Rattle.words.proofs.Whole.{up_mul, down_mul}
use Rattle.words.proofs.Sums.{every_all}
use Rattle.contraction.specs.Operands.{operands}
use Rattle.contraction.specs.declared.contraction.Operand.{Operand}
use Rattle.contraction.specs.declared.contraction.Operand.TheVariants.{A, B, C, D}
use Rattle.groups.specs.Groups.{Label, size}
use Rattle.offsets.specs.Counts.{offset}
use Rattle.folding.specs.Fold.{eq_ℤ, follows, joins, join, join_from, join_all, not_one, fold}

-- two digits of a count, read as one
pub mod_mul : (n c m : ℕ) → n % (c * m) ≡ n % c + c * (n / c % m)
mod_mul n c m =
    omega (arith, div-add-mod n (c * m), div-add-mod n c, ap (λ (x : ℕ). c * x) (div-add-mod (n / c) m), ap (λ (x : ℕ). c * m * x) (div-div-eq-div-mul n c m))

-- a weight that goes with the extents where labels join, as each part of a stride does
abbrev pub Scales : (Label → ℕ) → Type 0
Scales w = ((p l : Label) → T (joins p l) → w l ≡ p.extent * w p) × ((p l : Label) → w (join p l) ≡ w p)

-- two groups with one size and, at every count, one offset
pub record Alike (w : Label → ℕ) (g h : List Label) : Type 0 where
  pub sizes : size g ≡ size h
  pub offsets : (n : ℕ) → offset w g n ≡ offset w h n

module _ (w : Label → ℕ) (scales : Scales w) where
  alike_refl : {g : List Label} → Alike w g g
  alike_refl = record { sizes = refl; offsets = λ n. refl }

  alike_trans : {f g h : List Label} → Alike w f g → Alike w g h → Alike w f h
  alike_trans p q = record { sizes = p.sizes ∙ q.sizes; offsets = λ n. p.offsets n ∙ q.offsets n }

  alike_cons : (l : Label) {g h : List Label} → Alike w g h → Alike w (l ∷ g) (l ∷ h)
  alike_cons l e = record { sizes = rw e.sizes; offsets = λ n. rw (e.offsets (n / l.extent)) }

  alike_join : (p l : Label) (g : List Label) → T (joins p l) → Alike w (join p l ∷ g) (p ∷ l ∷ g)
  alike_join p l g t =
      record {
        sizes = mul_assoc _ _ _;
        offsets = λ n. rw (mod_mul n p.extent l.extent, scales.1 p l, scales.0 p l t, ← div-div-eq-div-mul n p.extent l.extent) (omega arith);
      }

  alike_join_from : (g : List Label) (p : Label) → Alike w (join_from p g) (p ∷ g)
  alike_join_from [] p = alike_refl
  alike_join_from (l ∷ g) p = go (joins p l) (λ t. t) (alike_join_from g (join p l)) (alike_join_from g l)
    where
      go : (b : Bool) → (T b → T (joins p l)) → Alike w (join_from (join p l) g) (join p l ∷ g) → Alike w (join_from l g) (l ∷ g)
          → Alike w (elim b [ true ↦ join_from (join p l) g | false ↦ p ∷ join_from l g ]) (p ∷ l ∷ g)
      go true t e f = alike_trans e (alike_join p l g (t tt))
      go false t e f = alike_cons p f

  alike_join_all : (g : List Label) → Alike w (join_all g) g
  alike_join_all [] = alike_refl
  alike_join_all (l ∷ g) = alike_join_from g l

  alike_one : (l : Label) (g : List Label) → l.extent ≡ 1 → Alike w g (l ∷ g)
  alike_one l g e = record { sizes = rw e (omega arith); offsets = λ n. rw (e, mod-one, div-one) (omega arith) }

  alike_keep : (g : List Label) → Alike w (keep not_one g) g
  alike_keep [] = alike_refl
  alike_keep (l ∷ g) = go (eqb l.extent 1) (eqb→eq l.extent 1) (alike_keep g)
    where
      go : (b : Bool) → (T b → l.extent ≡ 1) → Alike w (keep not_one g) g → Alike w (cons_if (not b) l (keep not_one g)) (l ∷ g)
      go true t e = alike_trans e (alike_one l g (t tt))
      go false t e = alike_cons l e

  pub fold_alike : (g : List Label) → Alike w (fold g) g
  fold_alike g = alike_trans (alike_join_all _) (alike_keep g)

eq_ℤ→eq : (a b : ℤ) → T (eq_ℤ a b) → a ≡ b
eq_ℤ→eq (pos m) (pos n) t = ap pos (eqb→eq m n t)
eq_ℤ→eq (pos m) (negsuc n) t = absurd t
eq_ℤ→eq (negsuc m) (pos n) t = absurd t
eq_ℤ→eq (negsuc m) (negsuc n) t = ap negsuc (eqb→eq m n t)

pub joins_stride : (p l : Label) → T (joins p l) → (o : Operand) → l.stride o ≡ pos p.extent *ℤ p.stride o
joins_stride p l t o = eq_ℤ→eq _ _ (each o (every_all (follows p l) operands t))
  where
    each : (o : Operand) → All (λ o. T (follows p l o)) operands → T (follows p l o)
    each A h = h.0
    each B h = h.1.0
    each C h = h.1.1.0
    each D h = h.1.1.1.0

-- a part of a stride goes with the extents, where it is proportional
scales : (part : ℤ → ℕ) → ((e : ℕ) (s : ℤ) → part (pos e *ℤ s) ≡ e * part s) → (o : Operand) → Scales (λ l. part (l.stride o))
scales part mul o = ((λ p l t. rw (joins_stride p l t o) (mul p.extent (p.stride o))), λ p l. refl)

pub fold_up : (o : Operand) (g : List Label) → Alike (λ l. up (l.stride o)) (fold g) g
fold_up o = fold_alike _ (scales up up_mul o)

pub fold_down : (o : Operand) (g : List Label) → Alike (λ l. down (l.stride o)) (fold g) g
fold_down o = fold_alike _ (scales down down_mul o)

pub fold_size : (g : List Label) → size (fold g) ≡ size g
fold_size g = (fold_up A g).sizes
