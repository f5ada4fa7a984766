-- `turn` meets its contract. The invariant: the labels before i were at their last values and are at 0, the others are as they were.
-- Assumes nothing.
use Rattle.std.proofs.Common.{◌≡◌, ℕ, ◌+◌, ◌<◌, ◌≤◌, List, length, get_or, set, refl, ◌∙◌, arith, get_or-set_other, get_or-set_same}
use native.Mathlib.Decide.{dec_lt}
use Rattle.odometer.specs.Odometer.{Turned}
use Rattle.odometer.proofs.odometer.turn.Invariants.{Cleared}
use Rattle.odometer.proofs.odometer.turn.Goals as goal

none_cleared : (last : ℕ → ℕ) (old : List ℕ) → Cleared last old old 0
none_cleared last old = record { full = λ k h. absurd (omega arith); zeros = λ k h. absurd (omega arith); rest = λ k h. refl }

module _ {last : ℕ → ℕ} {old new : List ℕ} {i : ℕ} (c : Cleared last old new i) where
  -- one more
  clear_next : i < length new → last i ≤ get_or new i 0 → Cleared last old (set new i 0) (i + 1)
  clear_next h f = record { full = full; zeros = zeros; rest = λ k b. get_or-set_other new i k 0 0 (λ e. omega arith) ∙ c.rest k (omega arith) }
    where
      full : (k : ℕ) → k < i + 1 → last k ≤ get_or old k 0
      full k b = pick (dec_lt k i)
        where
          pick : Dec (k < i) → last k ≤ get_or old k 0
          pick (yes l) = c.full k l
          pick (no l) = let e : k ≡ i = omega arith in rw e (omega (arith, f, c.rest i (omega arith)))

      zeros : (k : ℕ) → k < i + 1 → get_or (set new i 0) k 0 ≡ 0
      zeros k b = pick (dec_lt k i)
        where
          pick : Dec (k < i) → get_or (set new i 0) k 0 ≡ 0
          pick (yes l) = get_or-set_other new i k 0 0 (λ e. omega arith) ∙ c.zeros k l
          pick (no l) = let e : k ≡ i = omega arith in rw e (get_or-set_same new i 0 0 h)

  -- the first one below its last goes up
  found : (count : ℕ) → i < count → i < length new → get_or new i 0 < last i
      → Turned count last (λ k. get_or old k 0) (λ k. get_or (set new i (get_or new i 0 + 1)) k 0) i
  found count h b f =
      record {
        within = omega arith;
        full = c.full;
        cleared = λ k l. get_or-set_other new i k (get_or new i 0 + 1) 0 (λ e. omega arith) ∙ c.zeros k l;
        free = λ z. omega (arith, f, c.rest i (omega arith));
        up = λ z. get_or-set_same new i (get_or new i 0 + 1) 0 b ∙ omega (arith, c.rest i (omega arith));
        others = λ k l. get_or-set_other new i k (get_or new i 0 + 1) 0 (λ e. omega arith) ∙ c.rest k (omega arith);
      }

  -- all were at their last
  all_cleared : (count : ℕ) → i ≡ count → Turned count last (λ k. get_or old k 0) (λ k. get_or new k 0) i
  all_cleared count e =
      record {
        within = omega arith;
        full = c.full;
        cleared = c.zeros;
        free = λ z. absurd (omega arith);
        up = λ z. absurd (omega arith);
        others = λ k l. c.rest k (omega arith);
      }

pub loop-i-init : goal.loop-i-init
loop-i-init c = none_cleared _ _

pub returns-then-v-rows : goal.returns-then-v-rows
returns-then-v-rows c =
    let l = c.loop-i in
    found l.invariant (length c.args.rows.now) (omega arith) (omega arith) (omega arith)

pub loop-i-preserved : goal.loop-i-preserved
loop-i-preserved c = clear_next c.loop-i.invariant (omega arith) (omega arith)

pub returns : goal.returns
returns c =
    let e : c.loop-i.i ≡ length c.args.rows.now = omega arith in
    all_cleared (rw e at c.loop-i.invariant) (length c.args.rows.now) refl
