-- The forms that code computes: offsets of folded labels, added as wrapping 64-bit words.
-- Assumes nothing.
use mathlib.Core.Path.{◌≡◌, refl, ap, ◌∙◌}
use mathlib.Core.List.{List, [], ◌∷◌}
use Prim.Native.Nat.{ℕ, ◌+◌, ◌*◌, ◌-◌, ◌/◌, ◌%◌, ◌^◌, ◌≤◌, ◌<◌}
use native.Mathlib.Nat.{add-mul-mod_self_right, mod-eq_of_lt}
use native.Mathlib.Omega.{arith}
use Rattle.words.specs.Sums.{All}
use Rattle.words.specs.Words.{word, up, down, word_of}
use Rattle.words.proofs.Lists.{all_imp}
use Rattle.words.proofs.Whole.{sign, size_parts, word_is}
use Rattle.contraction.specs.declared.contraction.Operand.{Operand}
use Rattle.groups.specs.Groups.{Label}
use Rattle.groups.specs.Foldable.{Foldable}
use Rattle.offsets.specs.Counts.{offset_in}
use Rattle.folding.specs.Fold.{fold}
use Rattle.folding.proofs.FoldKeeps.{fold_up, fold_down}
use Rattle.plan.proofs.GroupsFoldable.{fold_foldable}

-- sums of words that wrap give the address: the words differ from the ups less the downs by whole rounds
pub wraps : (base ups downs words rounds : ℕ) → words + downs ≡ ups + rounds * 2 ^ 64 → downs ≤ base + ups → (base + ups) - downs < 2 ^ 64
    → word 64 (base + words) ≡ (base + ups) - downs
wraps base ups downs words rounds e low high =
    ap (λ (x : ℕ). x % 2 ^ 64) (omega (arith, e)) ∙ add-mul-mod_self_right ((base + ups) - downs) rounds (2 ^ 64) ∙ mod-eq_of_lt high

offset_word : (o : Operand) (g : List Label) (n : ℕ) → All (λ l. down (l.stride o) ≤ 2 ^ 64) g
    → offset_in (word_of 64) o g n + offset_in down o g n ≡ offset_in up o g n + offset_in sign o g n * 2 ^ 64
offset_word o [] n h = refl
offset_word o (l ∷ g) n h =
    omega (arith, offset_word o g (n / l.extent) h.1, ap (λ (x : ℕ). n % l.extent * x) (word_is (l.stride o) h.0))

-- the words of the offsets of folded labels, and how far the offsets of the unfolded ones go up and down
pub folded_word : (o : Operand) (g : List Label) (k : ℕ) → Foldable g
    → offset_in (word_of 64) o (fold g) k + offset_in down o g k ≡ offset_in up o g k + offset_in sign o (fold g) k * 2 ^ 64
folded_word o g k f =
    rw (← (fold_up o g).offsets k, ← (fold_down o g).offsets k)
    (offset_word o (fold g) k (all_imp (λ l s. let z = s.strides o in omega (arith, z, size_parts (l.stride o))) (fold g) (fold_foldable g f).strides))
