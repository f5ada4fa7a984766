-- Offsets as the code holds them: an address word for each tensor. Inside contracts only.
-- Assumes nothing.
use Rattle.std.specs.Prelude.{◌≡◌, ℕ}
use Rattle.words.specs.Words.{word}
use Rattle.contraction.specs.declared.contraction.Operand.{Operand}
use Rattle.contraction.specs.TensorPlaces.{by_tensor}
use Rattle.offsets.specs.declared.offsets.Offsets.{Offsets}

-- the word at a tensor's place
abbrev pub words_in : Offsets → Operand → ℕ
words_in x = by_tensor x.words

-- the words are those of f, modulo 2^64
pub record Words (r : Offsets) (f : Operand → ℕ) : Type 0 where
  pub each : (o : Operand) → words_in r o ≡ word 64 (f o)
