-- Address words at the front of a list: written in its first words alone, with the others after them; the counts of a single label lie a step apart.
-- Assumes nothing.
use Rattle.std.proofs.Common.{◌≡◌, ℕ, ◌+◌, ◌*◌, ◌<◌, ◌≤◌, List, ◌++◌, length, take, drop, sym, ap, ◌∙◌, add_assoc, add-mul, arith, length-take}
use Rattle.words.specs.Words.{word, word_of}
use Rattle.words.specs.Fronts.{front}
use Rattle.words.specs.Lists.{tabulate}
use Rattle.words.specs.Stepped.{stepped}
use Rattle.words.proofs.Modular.{word_add_left, word_add_right}
use Rattle.words.proofs.Fronts.{front_ext, front_all}
use Rattle.contraction.specs.declared.contraction.Operand.{Operand}
use Rattle.groups.specs.declared.groups.Group.{Group}
use Rattle.groups.specs.Groups.{size}
use Rattle.groups.specs.Held.{labels_in}
use Rattle.offsets.specs.FirstLabel.{first_label}
use Rattle.offsets.proofs.Runs.{lone_offset}
use Rattle.scatter.specs.ScatterVectors.{word_at, scatter_vector}

-- the first n words of a list, all of which are written, before the others
pub front_whole : (n : ℕ) (f : ℕ → ℕ) (xs : List ℕ) {part : List ℕ} {i : ℕ} → n ≤ length xs → i ≡ n → part ≡ front i f (take n xs) → part ++ drop n xs ≡ front n f xs
unfolding front
front_whole n f xs {i = i} h e p =
    let long : i ≡ length (take n xs) = simp length-take (omega arith) in
    ap (λ (l : List ℕ). l ++ drop n xs) (p ∙ ap (λ (k : ℕ). front k f (take n xs)) long ∙ front_all f (take n xs) ∙ ap (λ (k : ℕ). tabulate k f) (sym long ∙ e))

-- of a group of at most one label, by its step
module _ (o : Operand) (g : Group) (few : g.count < 2) {step : ℕ} (e : step ≡ word_of 64 ((first_label (labels_in g)).stride o)) where
  count_word : (from first k : ℕ) {start by : ℕ} → by ≡ word 64 (first * step) → start ≡ word 64 (from + by) → first + k < size (labels_in g)
      → stepped start step k ≡ word_at o from (labels_in g) (first + k)
  count_word from first k d s h =
      ap (λ (x : ℕ). word 64 (x + k * step)) (s ∙ ap (λ (x : ℕ). word 64 (from + x)) d ∙ word_add_right 64 from (first * step))
      ∙ word_add_left 64 (from + first * step) (k * step)
      ∙ ap (word 64) (add_assoc from (first * step) (k * step) ∙ ap (λ (x : ℕ). from + x) (sym (add-mul first k step)))
      ∙ ap (λ (x : ℕ). word 64 (from + (first + k) * x)) e
      ∙ sym (ap (λ (x : ℕ). word 64 (from + x)) (lone_offset o g few h))

  pub stepped_vector : (from first count : ℕ) {start by : ℕ} (xs : List ℕ) → by ≡ word 64 (first * step) → start ≡ word 64 (from + by)
      → first + count ≤ size (labels_in g) → front count (stepped start step) xs ≡ scatter_vector o from (labels_in g) first count xs
  stepped_vector from first count xs d s h = front_ext count xs (λ k l. count_word from first k d s (omega arith))
