-- `lags_fit` meets its contract: it asks the difference by sums, which cannot wrap once the greatest lag is at most the limit.
-- Assumes nothing.
use mathlib.Core.Path.{◌≡◌, refl, sym}
use mathlib.Core.Bool.{Bool, true, false, not, and-false, ◌&&◌}
use Prim.Native.Nat.{ℕ, ◌+◌, ◌-◌, ◌≤◌, ◌<◌}
use native.Mathlib.Omega.{arith}
use borrow.Author.Tests.{lt-leb, le-leb}
use lib.Dec.{T, eqb, leb, ltb, ltb→lt, nltb→le, leb→le, nleb→lt}
use Rattle.limits.specs.Limits.{lag_limit, used_limit}
use Rattle.scores.specs.DelayQuestions.{lags_fit}
use Rattle.scores.proofs.delay_questions.lags_fit.Goals as goal

-- the difference is at least 1, and at most the limit
some_used : (n greatest : ℕ) → ltb greatest n ≡ leb 1 (n - greatest)
some_used n greatest = go (ltb greatest n) refl (ltb→lt greatest n) (nltb→le greatest n)
  where
    go : (b : Bool) → ltb greatest n ≡ b → (T b → greatest < n) → (T (not b) → n ≤ greatest) → b ≡ leb 1 (n - greatest)
    go true e f g = let h : greatest < n = f tt in sym (le-leb 1 (n - greatest) (omega arith))
    go false e f g = let h : n ≤ greatest = g tt in sym (lt-leb 1 (n - greatest) (omega arith))

few_used : (n greatest limit : ℕ) → leb n (greatest + limit) ≡ leb (n - greatest) limit
few_used n greatest limit = go (leb n (greatest + limit)) (leb→le n (greatest + limit)) (nleb→lt n (greatest + limit))
  where
    go : (b : Bool) → (T b → n ≤ greatest + limit) → (T (not b) → greatest + limit < n) → b ≡ leb (n - greatest) limit
    go true f g = let h : n ≤ greatest + limit = f tt in sym (le-leb (n - greatest) limit (omega arith))
    go false f g = let h : greatest + limit < n = g tt in sym (lt-leb (n - greatest) limit (omega arith))

pub returns-then-greatest_lag-gt-LAG : goal.returns-then-greatest_lag-gt-LAG
unfolding lags_fit
returns-then-greatest_lag-gt-LAG c = rw (lt-leb c.args.greatest_lag lag_limit (omega arith), and-false (eqb c.args.n c.args.m))

pub returns : goal.returns
unfolding lags_fit
returns c =
    let n = c.args.n in
    let greatest = c.args.greatest_lag in
    rw (le-leb greatest lag_limit (omega arith)) (λ i. eqb n c.args.m && (some_used n greatest i && few_used n greatest used_limit i))
