-- `stride_of` meets its contract. The loop's invariant: the sum so far is the word of the letter's stride among the axes so far. The strides passed their
-- test, so that their sums are small and the word of a sum is the sum of the words.
-- Assumes nothing.
use Rattle.std.proofs.Common.{◌≡◌, take}
use Rattle.words.specs.Words.{word_of}
use Rattle.labels.specs.Labels.{stride_of}
use Rattle.labels.proofs.labels.stride_of.Given as goal

abbrev pub invariant-loop-a : goal.invariant-loop-a
invariant-loop-a l = l.sum ≡ word_of 64 (stride_of l.c (take l.a-index l.axes))
