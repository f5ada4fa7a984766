-- The index at a count of labels: the values of other letters stay, and the offset of the count is what an address gains.
-- Assumes nothing.
use mathlib.Core.Path.{◌≡◌, refl, ap, sym, ◌∙◌}
use mathlib.Core.Bool.{Bool, true, false, cond, true≢false}
use mathlib.Core.List.{List, [], ◌∷◌, map}
use Prim.Native.Nat.{ℕ, ◌+◌, ◌*◌, ◌/◌, ◌%◌}
use native.Mathlib.Omega.{arith}
use lib.IntN.{ℤ}
use lib.Dec.{T, eqb, eqb→eq}
use Rattle.words.specs.Sums.{All}
use Rattle.words.specs.Lists.{keep}
use Rattle.words.specs.Words.{up, down}
use Rattle.words.proofs.Lists.{all_map, all_imp, keep_passes, Unique, keep_unique, eqb_ne}
use Rattle.layout.specs.declared.layout.Axis.{Axis}
use Rattle.layout.specs.Layout.{along}
use Rattle.labels.specs.Labels.{labels}
use Rattle.entries.proofs.Stride.{part_of, stride_of_parts}
use Rattle.entries.proofs.ByLabel.{labels_unique}
use Rattle.contraction.specs.Operands.{Shape, together}
use Rattle.contraction.specs.declared.contraction.Operand.{Operand}
use Rattle.groups.specs.Groups.{Label, label, Group, in_group, labels_where, group}
use Rattle.offsets.specs.Counts.{offset, offset_in}
use Rattle.meaning.specs.Index.{assign, at}

-- the letter is none of the group's
abbrev pub Fresh : ℕ → List Label → Type 0
Fresh c g = All (λ l. eqb c l.letter ≡ false) g

-- no letter stands twice
abbrev pub Distinct : List Label → Type 0
Distinct [] = Unit {0}
Distinct (l ∷ g) = Fresh l.letter g × Distinct g

pub at_fresh : (g : List Label) (n : ℕ) (ρ : ℕ → ℕ) (c : ℕ) → Fresh c g → at g n ρ c ≡ ρ c
at_fresh [] n ρ c h = refl
at_fresh (l ∷ g) n ρ c h = rw h.0 (at_fresh g (n / l.extent) ρ c h.1)

-- where two indices agree at a letter, they do at a count too
pub at_agrees : (g : List Label) (n : ℕ) (ρ σ : ℕ → ℕ) (c : ℕ) → ρ c ≡ σ c → at g n ρ c ≡ at g n σ c
at_agrees [] n ρ σ c e = e
at_agrees (l ∷ g) n ρ σ c e = ap (cond (eqb c l.letter) (n % l.extent)) (at_agrees g (n / l.extent) ρ σ c e)

module _ (part : ℤ → ℕ) where
  along_assign : (xs : List Axis) (ρ : ℕ → ℕ) (c v : ℕ) → ρ c ≡ 0 → along part xs (assign ρ c v) ≡ along part xs ρ + v * part_of part xs c
  along_assign [] ρ c v z = omega arith
  along_assign (a ∷ xs) ρ c v z = go (eqb a.letter c) (λ t. ap ρ (eqb→eq a.letter c t) ∙ z) (along_assign xs ρ c v z)
    where
      go : (b : Bool) → (T b → ρ a.letter ≡ 0) → along part xs (assign ρ c v) ≡ along part xs ρ + v * part_of part xs c
          → cond b v (ρ a.letter) * part a.stride + along part xs (assign ρ c v)
          ≡ (ρ a.letter * part a.stride + along part xs ρ) + v * (cond b (part a.stride) 0 + part_of part xs c)
      go true z e = rw (z tt) (omega arith)
      go false z e = omega arith

  along_at : (xs : List Axis) (g : List Label) (n : ℕ) (ρ : ℕ → ℕ) → Distinct g → All (λ l. ρ l.letter ≡ 0) g
      → along part xs (at g n ρ) ≡ along part xs ρ + offset (λ l. part_of part xs l.letter) g n
  along_at xs [] n ρ d z = omega arith
  along_at xs (l ∷ g) n ρ d z =
      along_assign xs (at g (n / l.extent) ρ) l.letter (n % l.extent) (at_fresh g (n / l.extent) ρ l.letter d.0 ∙ z.0)
      ∙ rw (along_at xs g (n / l.extent) ρ d.1 z.1) (omega arith)

-- ---- the groups of a contraction
module _ (s : Shape) where
  map_distinct : (cs : List ℕ) → Unique cs → Distinct (map (label s) cs)
  map_distinct [] u = tt
  map_distinct (c ∷ cs) u = (all_map _ (label s) cs u.0, map_distinct cs u.1)

  -- ---- the labels whose letters pass any test
  module _ (p : ℕ → Bool) where
    pub where_distinct : Distinct (labels_where s p)
    where_distinct = map_distinct (keep p (labels (together s))) (keep_unique p (labels (together s)) (labels_unique (together s)))

    -- what holds of each letter that passes holds of the labels
    pub where_all : (P : Label → Type 0) → ((c : ℕ) → p c ≡ true → P (label s c)) → All P (labels_where s p)
    where_all P f = all_map P (label s) (keep p (labels (together s))) (all_imp f (keep p (labels (together s))) (keep_passes p (labels (together s))))

    pub where_own : All (λ l. p l.letter ≡ true) (labels_where s p)
    where_own = where_all (λ l. p l.letter ≡ true) (λ c e. e)

  -- a letter that fails the test keeps its value
  pub where_clear : (p : ℕ → Bool) (n : ℕ) (ρ : ℕ → ℕ) (c : ℕ) → p c ≡ false → at (labels_where s p) n ρ c ≡ ρ c
  where_clear p n ρ c h =
      at_fresh (labels_where s p) n ρ c
      (all_imp (λ l e. eqb_ne c l.letter (λ q. true≢false (sym e ∙ ap p (sym q) ∙ h))) (labels_where s p) (where_own p))

  pub group_distinct : (g : Group) → Distinct (group s g)
  unfolding group
  group_distinct g = where_distinct (in_group s g)

  -- a count of one group leaves the letters of the others as they are
  pub clear : (g : Group) (n : ℕ) (ρ : ℕ → ℕ) (c : ℕ) → in_group s g c ≡ false → at (group s g) n ρ c ≡ ρ c
  unfolding group
  clear g = where_clear (in_group s g)

  module _ (part : ℤ → ℕ) (o : Operand) where
    -- the part of a label's strides in a tensor
    pub share : Label → ℕ
    share l = part_of part (s o) l.letter

    pub along_where : (p : ℕ → Bool) (n : ℕ) (ρ : ℕ → ℕ) → ((c : ℕ) → p c ≡ true → ρ c ≡ 0)
        → along part (s o) (at (labels_where s p) n ρ) ≡ along part (s o) ρ + offset share (labels_where s p) n
    unfolding share
    along_where p n ρ z = along_at part (s o) (labels_where s p) n ρ (where_distinct p) (all_imp (λ l. z l.letter) (labels_where s p) (where_own p))

  balanced : (o : Operand) (cs : List ℕ) (n : ℕ)
      → offset_in up o (map (label s) cs) n + offset (share down o) (map (label s) cs) n ≡ offset_in down o (map (label s) cs) n + offset (share up o) (map (label s) cs) n
  unfolding share
  balanced o [] n = refl
  balanced o (c ∷ cs) n =
      omega (arith, balanced o cs (n / (label s c).extent), ap (λ (x : ℕ). n % (label s c).extent * x) (stride_of_parts c (s o)))

  -- the parts of the labels' strides and the parts that their axes have differ by as much
  pub where_balanced : (o : Operand) (p : ℕ → Bool) (n : ℕ)
      → offset_in up o (labels_where s p) n + offset (share down o) (labels_where s p) n ≡ offset_in down o (labels_where s p) n + offset (share up o) (labels_where s p) n
  where_balanced o p n = balanced o (keep p (labels (together s))) n
