-- The index of a count: in range, and different for different counts.
-- Assumes nothing.
use mathlib.Core.Path.{◌≡◌, refl, sym, ◌∙◌}
use mathlib.Core.Bool.{Bool, true, false, cond, ◌||◌, true≢false}
use mathlib.Core.List.{List, [], ◌∷◌, map}
use Prim.Native.Nat.{ℕ, ◌/◌, ◌%◌, ◌<◌}
use native.Mathlib.Nat.{mod-lt, div-add-mod}
use native.Mathlib.Omega.{arith}
use lib.Dec.{T, eqb}
use Rattle.words.specs.Sums.{All}
use Rattle.words.specs.Lists.{keep, member}
use Rattle.words.proofs.Lists.{all_imp, all_map, all_unmap, all_both, all_member, distinct_members, member_keep, eqb-true, eqb_self, eqb_flip}
use Rattle.labels.specs.Labels.{extent_of, labels}
use Rattle.points.specs.LabelQuestions.{extents_agree}
use Rattle.entries.specs.Bounds.{InRange}
use Rattle.entries.proofs.ByLabel.{labels_cover}
use Rattle.contraction.specs.Operands.{Shape, together}
use Rattle.contraction.specs.declared.contraction.Operand.{Operand}
use Rattle.groups.specs.Groups.{Label, label, letters, Group, group_of, group_number, in_group, labels_where, group, size}
use Rattle.offsets.proofs.Digits.{pos_left, pos_right, div_below}
use Rattle.meaning.specs.Index.{at}
use Rattle.meaning.proofs.CountAddress.{Distinct}
use Rattle.meaning.proofs.ExtentsAgree.{together_all, agree}

-- different counts have different indices
pub at_injective : (g : List Label) (m n : ℕ) (ρ σ : ℕ → ℕ) → Distinct g → m < size g → n < size g
    → All (λ l. at g m ρ l.letter ≡ at g n σ l.letter) g → m ≡ n
at_injective [] m n ρ σ d h k a = omega arith
at_injective (l ∷ g) m n ρ σ d h k a =
    let q : m / l.extent ≡ n / l.extent = at_injective g (m / l.extent) (n / l.extent) ρ σ d.1 (div_below m l.extent (size g) h) (div_below n l.extent (size g) k)
    (all_imp (λ l' p. rw (eqb_flip l.letter l'.letter p.0) at p.1) g (all_both _ _ g d.0 a.1)) in
    let r : m % l.extent ≡ n % l.extent = rw (eqb_self l.letter) at a.0 in
    sym (div-add-mod m l.extent) ∙ rw (q, r) (div-add-mod n l.extent)

module _ (s : Shape) where
  -- a label of the group gets a value below its extent
  at_lt : (cs : List ℕ) (n : ℕ) (ρ : ℕ → ℕ) (c : ℕ) → 0 < size (map (label s) cs) → member c cs ≡ true → at (map (label s) cs) n ρ c < (label s c).extent
  at_lt [] n ρ c h m = absurd (true≢false (sym m))
  at_lt (d ∷ cs) n ρ c h m = go (eqb c d) (eqb-true c d) m (at_lt cs (n / (label s d).extent) ρ c (pos_right (label s d).extent _ h))
    where
      go : (b : Bool) → (b ≡ true → c ≡ d) → (b || member c cs) ≡ true
          → (member c cs ≡ true → at (map (label s) cs) (n / (label s d).extent) ρ c < (label s c).extent)
          → cond b (n % (label s d).extent) (at (map (label s) cs) (n / (label s d).extent) ρ c) < (label s c).extent
      go true e m r = rw (e refl) (mod-lt n (pos_left (label s d).extent _ 0 h))
      go false e m r = r m

  -- and that is the same whatever the other letters have
  at_same : (cs : List ℕ) (n : ℕ) (ρ σ : ℕ → ℕ) (c : ℕ) → member c cs ≡ true → at (map (label s) cs) n ρ c ≡ at (map (label s) cs) n σ c
  at_same [] n ρ σ c m = absurd (true≢false (sym m))
  at_same (d ∷ cs) n ρ σ c m = go (eqb c d) m (at_same cs (n / (label s d).extent) ρ σ c)
    where
      go : (b : Bool) → (b || member c cs) ≡ true
          → (member c cs ≡ true → at (map (label s) cs) (n / (label s d).extent) ρ c ≡ at (map (label s) cs) (n / (label s d).extent) σ c)
          → cond b (n % (label s d).extent) (at (map (label s) cs) (n / (label s d).extent) ρ c)
          ≡ cond b (n % (label s d).extent) (at (map (label s) cs) (n / (label s d).extent) σ c)
      go true m r = refl
      go false m r = r m

  -- a letter of a tensor is one of all labels, and stands in the group that is its own
  pub letter_in_lem : (o : Operand) (c : ℕ) → member c (letters s o) ≡ true → member c (labels (together s)) ≡ true
  letter_in_lem o c =
      all_member (λ c. member c (labels (together s)) ≡ true) c (letters s o)
      (all_map (λ c. member c (labels (together s)) ≡ true) (λ a. a.letter) (s o) (together_all _ s (labels_cover (together s)) o))

  pub where_lt : (p : ℕ → Bool) (n : ℕ) (ρ : ℕ → ℕ) (c : ℕ) → 0 < size (labels_where s p) → member c (labels (together s)) ≡ true → p c ≡ true
      → at (labels_where s p) n ρ c < (label s c).extent
  where_lt p n ρ c h m e = at_lt (keep p (labels (together s))) n ρ c h (member_keep p c (labels (together s)) e m)

  -- what holds of all labels that pass holds of each
  pub where_at : (p : ℕ → Bool) (P : Label → Type 0) → All P (labels_where s p) → (c : ℕ) → member c (labels (together s)) ≡ true → p c ≡ true → P (label s c)
  where_at p P a c m e =
      all_member (λ c. P (label s c)) c (keep p (labels (together s))) (all_unmap P (label s) (keep p (labels (together s))) a)
      (member_keep p c (labels (together s)) e m)

  pub group_same : (g : Group) (n : ℕ) (ρ σ : ℕ → ℕ) (c : ℕ) → member c (labels (together s)) ≡ true → group_of s c ≡ g → at (group s g) n ρ c ≡ at (group s g) n σ c
  unfolding group in_group
  group_same g n ρ σ c m e =
      at_same (keep (in_group s g) (labels (together s))) n ρ σ c (member_keep (in_group s g) c (labels (together s)) (rw (e, eqb_self (group_number g))) m)

  module _ (same : T (extents_agree (together s))) where
    pub in_range : (o : Operand) (ρ : ℕ → ℕ) → ((c : ℕ) → member c (letters s o) ≡ true → ρ c < (label s c).extent) → InRange (s o) ρ
    unfolding labels
    in_range o ρ h = all_imp {Q = λ c. ρ c < extent_of c (s o)} (λ c m. rw (agree s same o c m) (h c m)) (labels (s o)) (distinct_members (letters s o))
