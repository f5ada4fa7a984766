-- The words of an array that code owns fit 64 bits.
-- Assumes nothing.
use Rattle.std.proofs.Common.{ℕ, zero, suc, ◌^◌, ◌<◌, List, [], ◌∷◌, get_or, arith}
use mir.Val.{Val}
use denote.Array.{each}
use denote.Builtin.{u64}
use denote.Shadow.{shadow}

pub words_fit : (xs : List ℕ) (us : List Val) → shadow (each u64.Denot u64.own_val xs us) → (k : ℕ) → get_or xs k 0 < 2 ^ 64
words_fit [] us h k = omega arith
words_fit (x ∷ xs) [] h k = absurd h
words_fit (x ∷ xs) (u ∷ us) h zero = omega (arith, h.0)
words_fit (x ∷ xs) (u ∷ us) h (suc k) = words_fit xs us h.1 k
