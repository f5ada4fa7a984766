-- `sum_below` meets its contract. The loop's invariant: the sum so far is that of the labels so far, and at most 2^48 for each of them, so it fits.
-- Assumes nothing.
use Rattle.std.proofs.Common.{◌≡◌, ◌*◌, ◌-◌, ◌^◌, ◌≤◌, not, cond, ◌&&◌, eqb, leb, take}
use Rattle.words.specs.Sums.{sum_of}
use Rattle.layout.specs.Listed.{listed}
use Rattle.labels.specs.Labels.{extent_of}
use Rattle.entries.specs.EntryQuestions.{stride_size}
use Rattle.apart.proofs.apart.sum_below.Given as goal

abbrev pub invariant-loop-d : goal.invariant-loop-d
invariant-loop-d l =
    (l.sum
    ≡ sum_of
    (λ d. cond (not (eqb l.fn.c d) && leb (stride_size (listed l.fn.x.axes) d) (stride_size (listed l.fn.x.axes) l.fn.c)) ((extent_of d (listed l.fn.x.axes) - 1) * stride_size (listed l.fn.x.axes) d) 0)
    (take l.d-index l.letters))
    × (l.sum ≤ l.d-index * 2 ^ 48)
