-- Walks of a group in runs, and the sums along them, by address words. Inside contracts only.
-- Assumes nothing.
use Rattle.std.specs.Prelude.{◌≡◌, ℕ, ◌+◌, ◌*◌, ◌<◌, ◌≤◌, List, length}
use Rattle.words.specs.Words.{word, word_of}
use Rattle.words.specs.Loops.{Within}
use Rattle.words.specs.Stepped.{stepped}
use Rattle.dots.specs.Dot.{dot}
use Rattle.limits.specs.Limits.{labels_limit, product_limit}
use Rattle.contraction.specs.declared.contraction.Operand.{Operand}
use Rattle.contraction.specs.declared.contraction.Operand.TheVariants.{A, B}
use Rattle.groups.specs.Groups.{Label, size}
use Rattle.groups.specs.Held.{labels_in}
use Rattle.offsets.specs.Counts.{offset_in}
use Rattle.offsets.specs.declared.offsets.Offsets.{Offsets}
use Rattle.offsets.specs.Offsets.{words_in}
use Rattle.offsets.specs.FirstLabel.{first_label}
use Rattle.sums.specs.declared.walk.Walk.{Walk}

-- the address word in a tensor at a count of a group, from x
abbrev pub reached : Operand → ℕ → List Label → ℕ → ℕ
reached o x g n = word 64 (x + offset_in (word_of 64) o g n)

-- the address word in each tensor, v steps from where it stands
abbrev pub steps : Offsets → Offsets → ℕ → Operand → ℕ
steps from step v o = stepped (words_in from o) (words_in step o) v

-- the address word in each tensor at a count of a group
abbrev pub places : Offsets → List Label → ℕ → Operand → ℕ
places base g n o = reached o (words_in base o) g n

-- the sum over the counts of the depth group g, from an address word of each tensor
unfoldable pub sum_from : List Label → List ℕ → List ℕ → (Operand → ℕ) → ℕ
sum_from g a b at = dot (size g) (reached A (at A) g) a (reached B (at B) g) b

-- ---- what the loops may assume

-- from an address word of each tensor, all that the sum over the depth group g reads is inside
pub record Readable (g : List Label) (a b : List ℕ) (at : Operand → ℕ) : Type 0 where
  pub in_a : Within (size g) (reached A (at A) g) (length a)
  pub in_b : Within (size g) (reached B (at B) g) (length b)

-- the labels that a walk goes over
abbrev pub over : Walk → List Label
over w = labels_in w.group.now

-- the code's walk goes over the group in runs of its first label
pub record Walks (g : List Label) (w : Walk) : Type 0 where
  pub labels : over w ≡ g
  pub few : w.group.now.count ≤ labels_limit
  pub small : size g ≤ product_limit
  pub len : w.len ≡ (first_label g).extent
  pub step : (o : Operand) → words_in w.step o ≡ word_of 64 ((first_label g).stride o)
  pub counts : size g ≡ w.len * w.runs
  pub long : 0 < w.runs → 0 < w.len  -- no run is without a count
