-- `one_by_one` meets its contract. The invariant: the first r sums are there; each is that along a run of places.
use Rattle.std.proofs.Common.{◌≡◌, ℕ, List, get_or, refl, ap, ◌∙◌, arith}
use Rattle.words.specs.Words.{word}
use Rattle.words.proofs.Fronts.{get_or_front}
use Rattle.words.proofs.Filled.{filled_none, filled_more}
use Rattle.thin_sums.proofs.LinePlaces.{run_is}
use Rattle.thin_sums.proofs.line_sums.one_by_one.Goals as goal

pub loop-r-init : goal.loop-r-init
loop-r-init c = (refl, filled_none _ _)

pub loop-r-preserved : goal.loop-r-preserved
loop-r-preserved c =
    let x = c.args.x.now in
    let words = x.src.now in
    let depth = x.depth in
    let l = c.loop-r in
    let is = c.run_sum.ensures
    ∙ ap (word 32) (run_is c.requires.1 words c.args.line.now c.requires.0 l.r) in
    (refl, filled_more _ _ l.invariant.1 (omega (arith, l.invariant.1.long, c.requires.1.few)) is)

pub returns : goal.returns
returns c = let l = c.loop-r in
    let e : l.r ≡ c.args.x.now.block.now.count = omega arith in
    record { each = λ r h. ap (λ (xs : List ℕ). get_or xs r 0) l.invariant.1.is ∙ get_or_front l.r _ _ r (rw e h) }
