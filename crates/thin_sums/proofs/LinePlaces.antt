-- Where the words of a line's sums stand. Where a block's offsets go up by one, so do its places from each start; where the starts go up by one, so do the places
-- of each offset. To reduce an address first changes nothing.
-- Assumes nothing.
use Rattle.std.proofs.Common.{◌≡◌, ℕ, ◌+◌, ◌*◌, ◌<◌, ◌≤◌, List, get_or, sym, ap, ◌∙◌, add_comm, mul-one, arith}
use Rattle.words.specs.Words.{word}
use Rattle.words.specs.Loops.{Within}
use Rattle.words.specs.Stepped.{stepped}
use Rattle.words.proofs.Modular.{word_add_left, word_add_right}
use Rattle.words.proofs.Sums.{sum_to_ext}
use Rattle.limits.specs.Limits.{depth_limit}
use Rattle.block.specs.Places.{place_of}
use Rattle.dots.specs.Dot.{dot}
use Rattle.thin_sums.specs.LineSums.{line_sum, ByOnes, LineSummable}

-- from a place on
pub place_by_ones : (from : ℕ) {n : ℕ} {xs : List ℕ} → ByOnes n xs → (k : ℕ) → k < n → stepped (place_of from xs 0) 1 k ≡ place_of from xs k
place_by_ones from {xs = xs} b k h =
    let x = get_or xs 0 0 in
    word_add_left 64 (from + x) (k * 1)
    ∙ ap (word 64) (omega arith)
    ∙ sym (word_add_right 64 from (x + k * 1))
    ∙ ap (λ (y : ℕ). word 64 (from + y)) (sym (b.each k h))
    ∙ word_add_right 64 from (get_or xs k 0)

-- the place of an offset from a start is that of the start from the offset
pub start_by_ones : (starts offsets : List ℕ) {n : ℕ} → ByOnes n starts → (r k : ℕ) → k < n
    → stepped (place_of (get_or starts 0 0) offsets r) 1 k ≡ place_of (get_or starts k 0) offsets r
start_by_ones starts offsets b r k h =
    let y = get_or offsets r 0 in
    ap (λ (x : ℕ). stepped x 1 k) (ap (word 64) (add_comm (get_or starts 0 0) y))
    ∙ place_by_ones y b k h
    ∙ ap (word 64) (add_comm y (get_or starts k 0))

-- a line's words stand one after the other
line_place : (k : ℕ) → k < depth_limit → stepped 0 1 k ≡ k
line_place k h = rw (mul-one k) (omega arith)

module _ {starts : List ℕ} {depth : ℕ} {offsets : List ℕ} {n src : ℕ} (s : LineSummable starts depth offsets n src) where
  -- side by side
  pub lane_inside : ByOnes n offsets → (k : ℕ) → k < depth → Within n (stepped (place_of (get_or starts k 0) offsets 0) 1) src
  lane_inside b k h = record { each = λ r i. rw (place_by_ones (get_or starts k 0) b r i) ((s.reads.each k h).each r i) }

  -- along the depth
  pub run_inside : ByOnes depth starts → (r : ℕ) → r < n → Within depth (stepped (place_of (get_or starts 0 0) offsets r) 1) src
  run_inside b r i = record { each = λ k h. rw (start_by_ones starts offsets b r k h) ((s.reads.each k h).each r i) }

  pub line_inside : {len : ℕ} → depth_limit ≤ len → Within depth (stepped 0 1) len
  line_inside l = record { each = λ k h. rw (line_place k (omega (arith, s.shallow))) (omega (arith, s.shallow)) }

  -- the sum along a run is the line's
  pub run_is : (words line : List ℕ) → ByOnes depth starts → (r : ℕ) → dot depth (stepped (place_of (get_or starts 0 0) offsets r) 1) words (stepped 0 1) line ≡ line_sum words starts offsets line depth r
  unfolding dot line_sum
  run_is words line b r = sum_to_ext depth (λ k h. rw (start_by_ones starts offsets b r k h, line_place k (omega (arith, s.shallow))))
