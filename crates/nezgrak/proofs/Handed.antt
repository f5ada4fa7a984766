-- What a call gives is handed on as numbers, with C or without. Where C is not named, what stands in its place changes nothing.
-- Assumes nothing.
use mathlib.Core.Path.{◌≡◌, ap, ◌∙◌}
use mathlib.Core.List.{List}
use Prim.Native.Nat.{ℕ}
use Rattle.std.specs.Prelude.{Result}
use Rattle.refusals.specs.declared.refusal.Refusal.{Refusal}
use Rattle.refusals.specs.Numbers.{status}
use Rattle.contraction.specs.declared.contraction.Contraction.{Contraction}
use Rattle.contraction.specs.Operands.{four, three}
use Rattle.meaning.specs.Meaning.{Slices}
use Rattle.tiles.specs.declared.grid.Sizes.{Sizes}
use Rattle.tiles.specs.declared.grid.State.{State}
use Rattle.answers.specs.declared.tile_answer.Ran.{Ran}
use Rattle.answers.specs.declared.delay_answer.Found.{Found}
use Rattle.answers.specs.PlainAnswer.{plain_answer, PlainCall, plain_call_of}
use Rattle.answers.specs.TileAnswer.{tile_answer, done_in, TileCall, tile_call_of}
use Rattle.answers.specs.StateAnswer.{StateAnswer, state_answer}
use Rattle.answers.specs.DelayAnswer.{delay_answer}
use Rattle.answers.specs.FlatPlain.{returned, flat}
use Rattle.answers.specs.FlatTiles.{said_complete, tiles_returned, flat_tiles}
use Rattle.answers.specs.FlatState.{state_after, state_returned, flat_state}
use Rattle.answers.specs.FlatDelay.{delay_status}
use Rattle.answers.proofs.Statuses.{plain_number, tile_number, state_number, delay_number}
use Rattle.flat.specs.FlatLayout.{flat_layout, flat_contraction}
use Rattle.plain.specs.PlainCall.{plain_call}
use Rattle.plain.proofs.PlainWithoutC.{plain_without_c}
use Rattle.tiled.specs.TileCall.{tile_call, state_call}
use Rattle.tiled.proofs.TilesWithoutC.{tiles_without_c}

-- ---- the answer as numbers

pub plain_handed : (o : Result (Unit {0}) Refusal) {r : ℕ} {last : List ℕ} {was call : PlainCall} → r ≡ status o
    → plain_call_of (plain_answer o) last ≡ was → was ≡ call → returned r last ≡ flat call
plain_handed o {last = last} r g e = ap (λ (n : ℕ). returned n last) (r ∙ plain_number o) ∙ ap flat (g ∙ e)

pub tiles_handed : (given : ℕ) (o : Result Ran Refusal) {r done complete : ℕ} {words last : List ℕ} {was call : TileCall}
    → r ≡ status o → done ≡ done_in (tile_answer given o) → complete ≡ said_complete (tile_answer given o)
    → tile_call_of (tile_answer given o) words last ≡ was → was ≡ call → tiles_returned r done complete words last ≡ flat_tiles call
tiles_handed given o {words = words} {last = last} r d f g e =
    (λ i. tiles_returned ((r ∙ tile_number given o) i) (d i) (f i) words last) ∙ ap flat_tiles (g ∙ e)

pub state_handed : (x : Result State Refusal) (before : ℕ) {r last : ℕ} {was answer : StateAnswer}
    → r ≡ status x → last ≡ state_after (state_answer x) before → state_answer x ≡ was → was ≡ answer
    → state_returned r last ≡ flat_state before answer
state_handed x before r s g e = (λ k. state_returned ((r ∙ state_number x) k) (s k)) ∙ ap (flat_state before) (g ∙ e)

pub delay_handed : (x : Result Found Refusal) → status x ≡ delay_status (delay_answer x)
delay_handed x = delay_number x

-- ---- the contraction that was made is the one handed in; without C, any words may stand in its place

module _ {k : Contraction} where
  pub plain_same : {k' : Contraction} (w : Slices) → k ≡ k' → plain_call k w ≡ plain_call k' w
  plain_same w e = ap (λ (x : Contraction). plain_call x w) e

  pub tiles_same : {k' : Contraction} (z : Sizes) (w : Slices) (work : List ℕ) (t budget : ℕ) → k ≡ k'
      → tile_call k z w work t budget ≡ tile_call k' z w work t budget
  tiles_same z w work t budget e = ap (λ (x : Contraction). tile_call x z w work t budget) e

  pub state_same : {k' : Contraction} (z : Sizes) (w : Slices) (t h i j : ℕ) → k ≡ k' → state_call k z w t h i j ≡ state_call k' z w t h i j
  state_same z w t h i j e = ap (λ (x : Contraction). state_call x z w t h i j) e

  module _ (a b d : List ℕ) (alpha beta : ℕ) (wa wb wc wd : List ℕ) (e : k ≡ flat_contraction a b d alpha beta) where
    pub plain_unnamed : plain_call k (four wa wb wc wd) ≡ plain_call (flat_contraction a b d alpha beta) (three wa wb wd)
    plain_unnamed =
        plain_same (four wa wb wc wd) e ∙ plain_without_c (flat_layout a) (flat_layout b) (flat_layout d) (flat_layout d) alpha beta wa wb wc wd

    pub tiles_unnamed : (z : Sizes) (work : List ℕ) (t budget : ℕ)
        → tile_call k z (four wa wb wc wd) work t budget ≡ tile_call (flat_contraction a b d alpha beta) z (three wa wb wd) work t budget
    tiles_unnamed z work t budget =
        tiles_same z (four wa wb wc wd) work t budget e
        ∙ (tiles_without_c (flat_layout a) (flat_layout b) (flat_layout d) (flat_layout d) alpha beta z wa wb wc wd).tiles work t budget

    pub state_unnamed : (z : Sizes) (t h i j : ℕ)
        → state_call k z (four wa wb wc wd) t h i j ≡ state_call (flat_contraction a b d alpha beta) z (three wa wb wd) t h i j
    state_unnamed z t h i j =
        state_same z (four wa wb wc wd) t h i j e
        ∙ (tiles_without_c (flat_layout a) (flat_layout b) (flat_layout d) (flat_layout d) alpha beta z wa wb wc wd).states t h i j
