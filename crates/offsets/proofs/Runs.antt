-- Runs of a group's first label: along a run a count's offset grows by the label's weight.
-- Assumes nothing.
use Rattle.std.proofs.Common.{◌≡◌, ℕ, ◌+◌, ◌*◌, ◌/◌, ◌%◌, ◌<◌, List, [], ◌∷◌, length, drop, sym, refl, ap, ◌∙◌, mul-zero, zero-add, zero-mul, arith}
use native.Mathlib.Nat.{div-add-mod, mul-mod_right, mul-div_right, zero-mod, zero-div}
use Rattle.words.specs.Words.{word_of}
use Rattle.contraction.specs.declared.contraction.Operand.{Operand}
use Rattle.groups.specs.declared.groups.Group.{Group}
use Rattle.groups.specs.Groups.{Label, size}
use Rattle.groups.specs.Held.{labels_in}
use Rattle.groups.proofs.LabelLists.{labels_count}
use Rattle.offsets.specs.Counts.{offset, offset_in}
use Rattle.offsets.specs.FirstLabel.{first_label}
use Rattle.offsets.proofs.Digits.{lowest, rest, pos_left}

-- in a group that has a count
pub first_counts : (g : List Label) {n : ℕ} → n < size g → 0 < (first_label g).extent
first_counts [] h = omega arith
first_counts (l ∷ g) {n} h = pos_left l.extent (size g) n h

-- in a group of at most one label a count is that label's value
pub lone_value : (g : List Label) {n : ℕ} → length g < 2 → n < size g → n < (first_label g).extent
lone_value [] h i = omega arith
lone_value (l ∷ []) h i = omega arith
lone_value (l ∷ m ∷ g) h i = absurd (omega arith)

-- the offset of a count is that of its run's first count and v times the first label's weight
pub offset_run : (f : Label → ℕ) (g : List Label) (e m v : ℕ) → f (first_label []) ≡ 0 → e ≡ (first_label g).extent → v < e → offset f g (e * m + v) ≡ offset f g (e * m) + v * f (first_label g)
offset_run f [] e m v z q h = rw z (omega arith)
offset_run f (l ∷ g) e m v z q h =
    let p : 0 < e = omega arith in
    rw (← q, lowest e m h, rest e m h, mul-mod_right e m, mul-div_right m p) (omega arith)

-- the count 0 goes nowhere, and along the first run each count is a step
pub offset_none : (f : Label → ℕ) (g : List Label) → offset f g 0 ≡ 0
offset_none f [] = refl
offset_none f (l ∷ g) = rw (zero-mod, zero-div, offset_none f g) (omega arith)

pub offset_first : (f : Label → ℕ) (g : List Label) (e v : ℕ) → f (first_label []) ≡ 0 → e ≡ (first_label g).extent → v < e → offset f g v ≡ v * f (first_label g)
offset_first f g e v z q h =
    let r = offset_run f g e 0 v z q h in
    rw (mul-zero, zero-add, offset_none f g, zero-add) at r

-- in a group of at most one label each count is a step
pub lone_offset : (o : Operand) (g : Group) {n : ℕ} → g.count < 2 → n < size (labels_in g) → offset_in (word_of 64) o (labels_in g) n ≡ n * word_of 64 ((first_label (labels_in g)).stride o)
lone_offset o g {n} h i =
    offset_first (λ l. word_of 64 (l.stride o)) (labels_in g) (first_label (labels_in g)).extent n refl refl (lone_value (labels_in g) (omega (arith, labels_count g)) i)

-- the next count of a run: its lowest digit is one more, and its offset grows by the first label's weight
module _ (e n : ℕ) (h : n % e + 1 < e) where
  pub next_count : n + 1 ≡ e * (n / e) + (n % e + 1)
  next_count = omega (arith, div-add-mod n e)

  pub next_lowest : (n + 1) % e ≡ n % e + 1
  next_lowest = ap (λ (x : ℕ). x % e) next_count ∙ lowest e (n / e) h

  pub offset_next : (f : Label → ℕ) (g : List Label) → f (first_label []) ≡ 0 → e ≡ (first_label g).extent → offset f g (n + 1) ≡ offset f g n + f (first_label g)
  offset_next f g z q =
      let here = ap (offset f g) (sym (div-add-mod n e)) ∙ offset_run f g e (n / e) (n % e) z q (omega arith) in
      let there = ap (offset f g) next_count ∙ offset_run f g e (n / e) (n % e + 1) z q h in
      omega (arith, here, there)

-- the first count of run m has the offset that the labels behind the first one have at count m
pub offset_behind : (f : Label → ℕ) (g : List Label) (e m : ℕ) → 0 < e → e ≡ (first_label g).extent → offset f g (e * m) ≡ offset f (drop 1 g) m
offset_behind f [] e m p q = refl
offset_behind f (l ∷ g) e m p q = rw (← q, mul-mod_right e m, mul-div_right m p, zero-mul, zero-add)

-- the counts of a group: those of its first label for each of the labels behind it
pub size_behind : (g : List Label) → size g ≡ (first_label g).extent * size (drop 1 g)
size_behind [] = refl
size_behind (l ∷ g) = refl
