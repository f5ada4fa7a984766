-- Where a factor is 1 the sum or the old word is taken as it is, and a panel without beta takes the old word as 1 does. To reduce a product first changes nothing.
-- Assumes nothing.
use Rattle.std.proofs.Common.{◌≡◌, ℕ, ◌+◌, ◌*◌, Option, Some, None, sym, refl, ◌∙◌, one-mul}
use Rattle.std.specs.Option.{unwrap_or}
use Rattle.words.specs.Words.{word}
use Rattle.words.proofs.Modular.{word_add_left, word_add_right}
use Rattle.accumulate.specs.declared.accumulate.Factors.{Factors}
use Rattle.accumulate.specs.Added.{times_beta, added_to}

-- what a sum is added to, with 1 for a panel that has no beta
times_or_one : (beta : Option ℕ) (w : ℕ) → times_beta beta w ≡ unwrap_or beta 1 * w
times_or_one (Some beta) w = refl
times_or_one None w = sym (one-mul w)

module _ (f : Factors) {beta : ℕ} (b : beta ≡ unwrap_or f.beta 1) (sum w : ℕ) {v : ℕ} where
  is_added : v ≡ word 32 (beta * w + f.alpha * sum) → v ≡ added_to f sum w
  is_added e = e ∙ rw (times_or_one f.beta w, ← b)

  pub by_beta : f.alpha ≡ 1 → v ≡ word 32 (word 32 (beta * w) + sum) → v ≡ added_to f sum w
  by_beta one e = is_added (e ∙ word_add_left 32 (beta * w) sum ∙ rw (one, one-mul sum))

  pub by_alpha : beta ≡ 1 → v ≡ word 32 (w + word 32 (f.alpha * sum)) → v ≡ added_to f sum w
  by_alpha one e = is_added (e ∙ word_add_right 32 w (f.alpha * sum) ∙ rw (one, one-mul w))

  pub plain : f.alpha ≡ 1 → beta ≡ 1 → v ≡ word 32 (w + sum) → v ≡ added_to f sum w
  plain one too e = is_added (e ∙ rw (one, too, one-mul w, one-mul sum))
