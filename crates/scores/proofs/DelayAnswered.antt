-- What the delay call answers, where a question refused and where both passed: the smallest lag with the greatest score.
-- Assumes nothing.
use mathlib.Core.Path.{◌≡◌, sym, ap, ◌∙◌}
use mathlib.Core.List.{List}
use Prim.Native.Nat.{ℕ, ◌≤◌}
use lib.IntN.{ℤ}
use Rattle.tensor_answers.specs.Asking.{refusal}
use Rattle.tensor_answers.proofs.Refusal.{answers_no, answers_yes}
use Rattle.answers.specs.DelayAnswer.{lag_found, delay_refused}
use Rattle.scores.specs.Score.{score, best}
use Rattle.scores.specs.DelayQuestions.{delay_questions}
use Rattle.scores.specs.DelayCall.{answer_at, best_lag, delay_call}
use Rattle.scores.specs.GreatestScore.{DelayAccepted, GreatestFound}
use Rattle.scores.proofs.BestLag.{best_is, best_same}

module _ (xs ys : List ℕ) (greatest : ℕ) where
  answer_found : DelayAccepted xs ys greatest → (lag : ℕ) → answer_at xs ys greatest lag ≡ lag_found lag (score xs ys greatest lag)
  unfolding answer_at
  answer_found e lag = sym (answers_yes (lag_found lag (score xs ys greatest lag)) delay_refused e)

  -- a question refused, with the number k
  pub delay_refused_lem : {k : ℕ} → k ≡ refusal (delay_questions xs ys greatest) → (k ≡ 0 → ⊥) → delay_refused k ≡ delay_call xs ys greatest
  unfolding answer_at delay_call
  delay_refused_lem e h = answers_no (lag_found (best_lag xs ys greatest) (score xs ys greatest (best_lag xs ys greatest))) delay_refused (sym e) h

  -- both passed, and the code has numbers f that are the scores
  module _ (e : DelayAccepted xs ys greatest) {f : ℕ → ℤ} (h : (lag : ℕ) → lag ≤ greatest → f lag ≡ score xs ys greatest lag) where
    pub best_found : {lag : ℕ} → lag ≡ best f greatest → lag_found lag (f lag) ≡ delay_call xs ys greatest
    unfolding delay_call
    best_found b =
        rw (b, best_same greatest h)
        (ap (lag_found (best_lag xs ys greatest)) (h (best_lag xs ys greatest) (best_is (score xs ys greatest) greatest).among)
        ∙ sym (answer_found e (best_lag xs ys greatest)))

pub greatest_found : GreatestFound
unfolding delay_call
greatest_found xs ys greatest e =
    let b = best_is (score xs ys greatest) greatest in
    record { answered = answer_found xs ys greatest e (best_lag xs ys greatest); among = b.among; most = b.most; first = b.first }
