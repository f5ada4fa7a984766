-- No question has the number 0, which says that none refused; and what the exit of a `?` returns.
-- Assumes nothing.
use mathlib.Core.Path.{◌≡◌, refl, ap}
use Prim.Native.Nat.{◌<◌}
use native.Mathlib.Omega.{arith}
use Rattle.std.specs.Prelude.{Result, Ok, Err, IsOk, IsErrAnd}
use Rattle.refusals.specs.declared.refusal.Refusal.{Refusal}
use Rattle.refusals.specs.declared.refusal.Refusal.TheVariants.{Rank, Counts, Letters, Extents, Sizes, ExtentsAgree, LettersOfC, Points, Inside, Apart, TileSizes, WorkRoom, TilesDone, Index, Mark, CutShort, BytesBehind, WordCount, Lags, Samples}
use Rattle.refusals.specs.Numbers.{number, status}

pub number_above : (e : Refusal) → 0 < number e
number_above Rank = omega arith
number_above Counts = omega arith
number_above Letters = omega arith
number_above Extents = omega arith
number_above Sizes = omega arith
number_above ExtentsAgree = omega arith
number_above LettersOfC = omega arith
number_above Points = omega arith
number_above Inside = omega arith
number_above Apart = omega arith
number_above TileSizes = omega arith
number_above WorkRoom = omega arith
number_above TilesDone = omega arith
number_above Index = omega arith
number_above Mark = omega arith
number_above CutShort = omega arith
number_above BytesBehind = omega arith
number_above WordCount = omega arith
number_above Lags = omega arith
number_above Samples = omega arith

pub not_0 : (e : Refusal) → number e ≡ 0 → ⊥
not_0 e z = absurd (omega (arith, number_above e, z))

pub errs : {T : Type 0} (r : Result T Refusal) {e : Refusal} → IsErrAnd r (λ y. y ≡ e) → r ≡ Err e
errs (Ok x) h = absurd h
errs (Err y) h = ap Err h

-- where the number is 0, no question refused
pub ok_where : {T : Type 0} (r : Result T Refusal) → status r ≡ 0 → IsOk r
ok_where (Ok x) z = refl
ok_where (Err e) z = absurd (not_0 e z)
