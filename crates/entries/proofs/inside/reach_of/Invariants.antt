-- `reach_of` meets its contract. The loop's invariant: each reach so far is the span of the labels so far, and at most 2^48 for each of them, which keeps
-- it below 2^60.
-- Assumes nothing.
use Rattle.std.proofs.Common.{◌≡◌, ◌*◌, ◌-◌, ◌^◌, ◌≤◌, take}
use Rattle.words.specs.Sums.{sum_of}
use Rattle.words.specs.Words.{up, down}
use Rattle.layout.specs.Listed.{listed}
use Rattle.labels.specs.Labels.{stride_of, extent_of}
use Rattle.entries.proofs.inside.reach_of.Given as goal

abbrev pub invariant-loop-c : goal.invariant-loop-c
invariant-loop-c l =
    (l.reach.up ≡ sum_of (λ c. (extent_of c (listed l.fn.x.axes) - 1) * up (stride_of c (listed l.fn.x.axes))) (take l.c-index l.letters))
    × (l.reach.down ≡ sum_of (λ c. (extent_of c (listed l.fn.x.axes) - 1) * down (stride_of c (listed l.fn.x.axes))) (take l.c-index l.letters))
    × (l.reach.up ≤ l.c-index * 2 ^ 48)
    × (l.reach.down ≤ l.c-index * 2 ^ 48)
