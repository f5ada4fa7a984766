-- Offsets from the words at each tensor's place.
-- Assumes nothing.
use Rattle.std.proofs.Common.{◌≡◌, ℕ, ◌+◌, ◌<◌, List, length, get_or, set, ap, ◌∙◌}
use Rattle.words.specs.Words.{word}
use Rattle.words.specs.Fronts.{front}
use Rattle.words.proofs.Fronts.{get_or_front, front_set}
use Rattle.contraction.specs.declared.contraction.Operand.{Operand}
use Rattle.contraction.specs.TensorPlaces.{tensor_count, operand_number}
use Rattle.contraction.proofs.TensorPlaces.{number_below}
use Rattle.offsets.specs.declared.offsets.Offsets.{Offsets}
use Rattle.offsets.specs.Offsets.{Words}

-- one word more, and words that were stored at all places
pub next_place : (w : ℕ → ℕ) (before : List ℕ) {words : List ℕ} {o v : ℕ} → o < length before → words ≡ front o w before → v ≡ w o → set words o v ≡ front (o + 1) w before
next_place w before {words} {o} {v} h e f = ap (λ (l : List ℕ). set l o v) e ∙ front_set w before o v h f

pub by_places : (w : ℕ → ℕ) (before : List ℕ) (r : Offsets) {f : Operand → ℕ} → r.words ≡ front tensor_count w before → ((o : Operand) → w (operand_number o) ≡ word 64 (f o)) → Words r f
by_places w before r e h =
    record { each = λ o. ap (λ (l : List ℕ). get_or l (operand_number o) 0) e ∙ get_or_front tensor_count w before (operand_number o) (number_below o) ∙ h o }
