-- `scores` meets its contract: the scoring contraction is accepted, and its words read as the scores.
-- Assumes nothing.
use mathlib.Core.Path.{◌≡◌, refl, ap, ◌∙◌}
use mathlib.Core.List.{List}
use Prim.Native.Nat.{ℕ, suc, ◌+◌, ◌-◌, ◌≤◌}
use native.Mathlib.Numerals.{add-one}
use native.Mathlib.Omega.{arith}
use lib.ListN.{length, replicate}
use Rattle.limits.specs.Limits.{lag_room}
use Rattle.contraction.specs.declared.contraction.Contraction.{Contraction}
use Rattle.contraction.specs.Operands.{four}
use Rattle.answers.specs.PlainAnswer.{PlainAnswer, PlainCall, plain_call_of}
use Rattle.plain.specs.PlainCall.{plain_call}
use Rattle.scores.specs.Score.{signed_at, score}
use Rattle.scores.specs.GreatestScore.{DelayAccepted}
use Rattle.scores.proofs.DelaySound.{delay_sound}
use Rattle.delay.specs.Scoring.{scoring}
use Rattle.delay.specs.ExactScores.{AllWords, scored}
use Rattle.delay.proofs.ScoringAccepted.{in_place_of_c}
use Rattle.delay.proofs.ExactScores.{exact_scores}
use Rattle.delay.proofs.scoring.scores.Goals as goal

-- what the contraction leaves reads as the scores
read : (xs ys : List ℕ) (greatest : ℕ) → DelayAccepted xs ys greatest → AllWords xs → AllWords ys → (d : List ℕ) → length d ≡ lag_room
    → {k : Contraction} {a : PlainAnswer} {after : List ℕ} → k ≡ scoring (greatest + 1) (length xs - greatest)
    → plain_call_of a after ≡ plain_call k (four xs ys xs d) → (lag : ℕ) → lag ≤ greatest → signed_at after lag ≡ score xs ys greatest lag
read xs ys greatest e wx wy d n {k} {a} {after} f g lag h =
    let s : k ≡ scoring (suc greatest) (length xs - greatest) = rw (← add-one greatest) f in
    let w : after ≡ (scored xs ys greatest d).words =
    ap (λ (x : PlainCall). x.words)
    (g ∙ ap (λ (x : Contraction). plain_call x (four xs ys xs d)) s ∙ in_place_of_c (suc greatest) (length xs - greatest) xs ys xs d) in
    rw w ((exact_scores xs ys greatest e wx wy d (omega (arith, (delay_sound xs ys greatest e).few)) (omega arith)).exact lag h)

pub overflow_cast-greatest : goal.overflow_cast-greatest
overflow_cast-greatest c =
    record { fits = omega (arith, (delay_sound c.args.x.now c.args.y.now c.args.greatest c.requires).few) }

pub overflow_add-greatest : goal.overflow_add-greatest
overflow_add-greatest c =
    record { fits = omega (arith, (delay_sound c.args.x.now c.args.y.now c.args.greatest c.requires).few) }

pub overflow_sub-x : goal.overflow_sub-x
overflow_sub-x c =
    omega (arith, (delay_sound c.args.x.now c.args.y.now c.args.greatest c.requires).some)

pub overflow_cast-x : goal.overflow_cast-x
overflow_cast-x c =
    record { fits = omega (arith, (delay_sound c.args.x.now c.args.y.now c.args.greatest c.requires).short) }

pub returns : goal.returns
returns c l h =
    read c.args.x.now c.args.y.now c.args.greatest c.requires
    (λ i. omega (arith, c.shared_slice_known-1.given i))
    (λ i. omega (arith, c.shared_slice_known-2-1.given i))
    (replicate lag_room 0) refl c.scoring_of-k.ensures c.contract.ensures l h
