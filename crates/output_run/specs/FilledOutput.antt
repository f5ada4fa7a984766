-- What the loop over outputs leaves, by address words. Inside contracts only.
-- Assumes nothing.
use Rattle.std.specs.Prelude.{ℕ, ◌<◌, ◌≡◌, Bool, true, List, length, get_or, is_some}
use Rattle.words.specs.Loops.{each, put, Within}
use Rattle.contraction.specs.declared.contraction.Operand.{Operand}
use Rattle.contraction.specs.declared.contraction.Operand.TheVariants.{C, D}
use Rattle.groups.specs.Groups.{Label}
use Rattle.offsets.specs.declared.offsets.Offsets.{Offsets}
use Rattle.meaning.specs.Meaning.{start_of, combined}
use Rattle.output_words.specs.declared.output.Sources.{Sources}
use Rattle.output_words.specs.StartWords.{words_of}
use Rattle.sums.specs.declared.walk.Run.{Run}
use Rattle.sums.specs.Walk.{steps, sum_from, Readable}

-- D's words with the one at an output's address word filled; where C is named, its words c are read
unfoldable pub filled : Bool → ℕ → ℕ → List Label → List ℕ → List ℕ → List ℕ → (Operand → ℕ) → List ℕ → List ℕ
filled named alpha beta g a b c at = put (λ old. combined alpha beta (sum_from g a b at) (start_of named (get_or c (at C) 0) old)) (at D)

-- and with those of n outputs of a run filled, each a step from the one before
abbrev pub run_filled : Bool → ℕ → ℕ → List Label → List ℕ → List ℕ → List ℕ → Offsets → ℕ → Offsets → List ℕ → List ℕ
run_filled named alpha beta g a b c step n from = each n (λ v. filled named alpha beta g a b c (steps from step v))

-- from the address words of each count below n, all that is read is inside, of C's words c where C is named, and the place that is written is one of a list
-- of that length
pub record Clear (named : Bool) (n : ℕ) (at : ℕ → Operand → ℕ) (g : List Label) (a b c : List ℕ) (len : ℕ) : Type 0 where
  pub reads : (v : ℕ) → v < n → Readable g a b (at v)
  pub starts : named ≡ true → Within n (λ v. at v C) (length c)
  pub writes : Within n (λ v. at v D) len

-- ---- by the words that D is made from

-- D's words with the one at an output's address word filled
abbrev pub filled_of : Sources → List Label → (Operand → ℕ) → List ℕ → List ℕ
filled_of x g = filled (is_some x.c) x.alpha x.beta g x.a.now x.b.now (words_of x.c)

-- and with those of a run of outputs filled
abbrev pub run_of : Sources → List Label → Run → List ℕ → List ℕ
run_of x g run = run_filled (is_some x.c) x.alpha x.beta g x.a.now x.b.now (words_of x.c) run.step run.len run.from

-- what filling a run of outputs may assume: all that is read and written is inside
abbrev pub RunFillable : Sources → List Label → Run → ℕ → Type 0
RunFillable x g run = Clear (is_some x.c) run.len (steps run.from run.step) g x.a.now x.b.now (words_of x.c)
