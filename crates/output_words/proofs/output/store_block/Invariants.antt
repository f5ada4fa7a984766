-- `store_block` meets its contract. The invariant: the address words are r steps from the first, and the words of D are those that r turns
-- leave.
-- Assumes nothing.
use Rattle.std.proofs.Common.{◌≡◌, ℕ, Bool, List, length, get_or, is_some}
use Rattle.words.specs.Loops.{each, put}
use Rattle.words.specs.Stepped.{stepped}
use Rattle.meaning.specs.Meaning.{start_of, combined}
use Rattle.output_words.specs.StartWords.{words_of}
use Rattle.output_words.proofs.output.store_block.Given as goal

-- what output r makes of its word
abbrev pub made : Bool → ℕ → ℕ → List ℕ → List ℕ → (ℕ → ℕ) → ℕ → ℕ → ℕ
made named alpha beta sums c at r old = combined alpha beta (get_or sums r 0) (start_of named (get_or c (at r) 0) old)

abbrev pub invariant-loop-r : goal.invariant-loop-r
invariant-loop-r l =
    (length l.d ≡ length l.initial.d) × (l.at_c ≡ stepped l.from_c l.step_c l.r) × (l.at_d ≡ stepped l.from_d l.step_d l.r)
    × (l.d ≡ each l.r (λ k. put (made (is_some l.x.c) l.x.alpha l.x.beta l.sums (words_of l.x.c) (stepped l.from_c l.step_c) k) (stepped l.from_d l.step_d k)) l.initial.d)
