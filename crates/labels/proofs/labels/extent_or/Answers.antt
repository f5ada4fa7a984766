-- `extent_or` meets its contract: the first axis with the letter has its extent, and where none has it, what stands behind the axes decides.
-- Assumes nothing.
use Rattle.std.proofs.Common.{◌≡◌, refl, sym, ap, ◌∙◌, ◌<◌, ◌+◌, ℕ, cond, eqb, List, ◌++◌, length, get_or, drop, arith}
use Rattle.std.proofs.lemmas.List.{drop_more, drop_all}
use Rattle.words.proofs.Lists.{eqb_self, eqb_ne}
use Rattle.layout.specs.declared.layout.Axis.{Axis}
use Rattle.layout.specs.Layout.{no_axis}
use Rattle.labels.specs.Labels.{extent_of}
use Rattle.labels.proofs.labels.extent_or.Goals as goal

-- the extent among the axes that are left, by the first of them
step : (c i : ℕ) (xs ys : List Axis) → i < length xs → extent_of c (drop i xs ++ ys) ≡ cond (eqb (get_or xs i no_axis).letter c) (get_or xs i no_axis).extent (extent_of c (drop (i + 1) xs ++ ys))
step c i xs ys h = ap (λ l. extent_of c (l ++ ys)) (drop_more xs i no_axis h)

here : (c i : ℕ) (xs ys : List Axis) → i < length xs → (get_or xs i no_axis).letter ≡ c → extent_of c (drop i xs ++ ys) ≡ (get_or xs i no_axis).extent
here c i xs ys h e = step c i xs ys h ∙ rw (e, eqb_self c) refl

further : (c i : ℕ) (xs ys : List Axis) → i < length xs → ((get_or xs i no_axis).letter ≡ c → ⊥) → extent_of c (drop i xs ++ ys) ≡ extent_of c (drop (i + 1) xs ++ ys)
further c i xs ys h ne = step c i xs ys h ∙ rw (eqb_ne (get_or xs i no_axis).letter c ne) refl

pub loop-axis-init : goal.loop-axis-init
loop-axis-init c = λ ys. refl

pub returns-then-axis-c : goal.returns-then-axis-c
returns-then-axis-c c =
    λ ys _.
    let axes = c.as_slice-axes.result.now in
    rw (← c.as_slice-axes.ensures) (sym (c.loop-axis.invariant ys ∙ here c.args.c c.loop-axis.axis-index axes ys c.loop-axis-test.true c.if-axis-c.true))

pub loop-axis-preserved : goal.loop-axis-preserved
loop-axis-preserved c =
    λ ys.
    let axes = c.as_slice-axes.result.now in
    c.loop-axis.invariant ys ∙ further c.args.c c.loop-axis.axis-index axes ys c.loop-axis-test.true c.if-axis-c.false

pub returns : goal.returns
returns c =
    λ ys e.
    let axes = c.as_slice-axes.result.now in
    rw (← c.as_slice-axes.ensures) (e ∙ sym (c.loop-axis.invariant ys ∙ ap (λ l. extent_of c.args.c (l ++ ys)) (drop_all c.loop-axis.axis-index axes (omega (arith, c.loop-axis-test.false)))))
