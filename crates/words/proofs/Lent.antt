-- The front of an array of equal values, lent to be filled: what it holds when it came back.
-- Assumes nothing.
use Rattle.std.proofs.Common.{◌≡◌, ℕ, ◌≤◌, List, ◌++◌, length, take, drop, replicate, sym, ◌∙◌, arith, length-append, length-take-le, take_at}
use lib.ListN.{length-replicate}

-- the first n of as many equal values
pub lent_length : {X : Type 0} {n size : ℕ} (v : X) → n ≤ size → length (take n (replicate size v)) ≡ n
lent_length {n = n} {size = size} v few = length-take-le n (replicate size v) (rw (length-replicate size v) few)

-- they were lent, and came back filled
pub record CameBack {X : Type 0} (n size : ℕ) (v : X) (filled : List X) : Type 0 where
  pub lent : length (take n (replicate size v)) ≡ n
  pub front : take n (filled ++ drop n (replicate size v)) ≡ filled
  pub room : n ≤ length (filled ++ drop n (replicate size v))
  pub long : n ≡ length (take n (filled ++ drop n (replicate size v)))

pub came_back : {X : Type 0} {n size : ℕ} {v : X} {filled : List X} → n ≤ size → length filled ≡ length (take n (replicate size v)) → CameBack n size v filled
came_back {n = n} {size = size} {v = v} {filled = filled} few kept =
    let lent = lent_length v few in
    let room : n ≤ length (filled ++ drop n (replicate size v)) = omega (arith, length-append filled (drop n (replicate size v))) in
    record {
      lent = lent;
      front = take_at filled (drop n (replicate size v)) n (kept ∙ lent);
      room = room;
      long = sym (length-take-le n (filled ++ drop n (replicate size v)) room);
    }
