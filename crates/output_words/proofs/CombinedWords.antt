-- A sum may be reduced to a word before it is combined.
-- Assumes nothing.
use Rattle.std.proofs.Common.{◌≡◌, ℕ, ◌+◌, ◌*◌, sym, ap, ◌∙◌}
use Rattle.words.specs.Words.{word}
use Rattle.words.proofs.Modular.{word_add_left, word_mul_right}
use Rattle.meaning.specs.Meaning.{combined}

pub combined_word : (alpha beta sum start : ℕ) → combined alpha beta (word 32 sum) start ≡ combined alpha beta sum start
combined_word alpha beta sum start =
    sym (word_add_left 32 (alpha * word 32 sum) (beta * start))
    ∙ ap (λ (x : ℕ). word 32 (x + beta * start)) (word_mul_right 32 alpha sum)
    ∙ word_add_left 32 (alpha * sum) (beta * start)

-- sums that are the same modulo 2^32
pub combined_same : (alpha beta x y start : ℕ) → word 32 x ≡ word 32 y → combined alpha beta x start ≡ combined alpha beta y start
combined_same alpha beta x y start e =
    sym (combined_word alpha beta x start) ∙ ap (λ (z : ℕ). combined alpha beta z start) e ∙ combined_word alpha beta y start
