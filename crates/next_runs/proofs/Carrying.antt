-- Digits and address words carried along by more counts than one.
-- Assumes nothing.
use mathlib.Core.Path.{◌≡◌, subst}
use mathlib.Core.List.{List}
use Prim.Native.Nat.{ℕ, zero, suc, ◌+◌, ◌<◌}
use native.Mathlib.Omega.{arith}
use Rattle.contraction.specs.declared.contraction.Operand.{Operand}
use Rattle.groups.specs.Groups.{Label}
use Rattle.offsets.specs.declared.offsets.Offsets.{Offsets}
use Rattle.odometer.specs.declared.odometer.Row.{Row}
use Rattle.odometer.specs.Odometer.{Stands, Advanced}
use Rattle.four_lanes.specs.FourLanes.{of_run}
use Rattle.next_runs.specs.NextRuns.{Begins, Moved, Ahead}

-- the same count, said another way
same_count : (g : List Label) (x : Operand → ℕ) {n k : ℕ} {digits : List ℕ} {at : Offsets} → n ≡ k → Stands g x n digits at → Stands g x k digits at
same_count g x {digits = digits} {at} e s = subst (λ (n : ℕ). Stands g x n digits at) e s

-- one run, where it begins
pub one_begins : {g : List Label} {x : Operand → ℕ} {n : ℕ} {at : Offsets} → Begins g x n at → (q : ℕ) → q < 1 → Begins g x (n + q) at
one_begins {g} {x} b q h = record { digits = b.digits; stands = same_count g x (omega arith) b.stands }

pub moved_none : (rows : List Row) (digits : List ℕ) (at : Offsets) → Moved 0 rows digits digits at at
moved_none rows digits at = record { next = λ g x k h t s. same_count g x (omega arith) s }

pub moved_more : {n : ℕ} {rows : List Row} {old mid new : List ℕ} {from at to : Offsets} → Moved n rows old mid from at → Advanced rows mid new at to
    → Moved (n + 1) rows old new from to
moved_more {n} m a = record { next = λ g x k h t s. same_count g x (omega arith) (a.next g x (k + n) (omega arith) t (m.next g x k (omega arith) t s)) }

pub three_ahead : {rows : List Row} {d₀ d₁ d₂ d₃ : List ℕ} {at second third fourth : Offsets} → Advanced rows d₀ d₁ at second → Advanced rows d₁ d₂ second third
    → Advanced rows d₂ d₃ third fourth → Ahead rows d₀ (of_run at second third fourth)
three_ahead {d₀ = d₀} {d₁} {d₂} {d₃} {at} {second} {third} {fourth} a b c =
    record {
      each = λ g x k h t s.
          let p = a.next g x k (omega arith) t s in
          let q = b.next g x (k + 1) (omega arith) t p in
          each g x k s p q (c.next g x (k + 1 + 1) (omega arith) t q);
    }
  where
    each : (g : List Label) (x : Operand → ℕ) (k : ℕ) → Stands g x k d₀ at → Stands g x (k + 1) d₁ second → Stands g x (k + 1 + 1) d₂ third → Stands g x (k + 1 + 1 + 1) d₃ fourth
        → (q : ℕ) → q < 4 → Begins g x (k + q) (of_run at second third fourth q)
    each g x k s₀ s₁ s₂ s₃ zero h = record { digits = d₀; stands = same_count g x (omega arith) s₀ }
    each g x k s₀ s₁ s₂ s₃ (suc zero) h = record { digits = d₁; stands = same_count g x (omega arith) s₁ }
    each g x k s₀ s₁ s₂ s₃ (suc (suc zero)) h = record { digits = d₂; stands = same_count g x (omega arith) s₂ }
    each g x k s₀ s₁ s₂ s₃ (suc (suc (suc q))) h = record { digits = d₃; stands = same_count g x (omega arith) s₃ }
