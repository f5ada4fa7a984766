-- `line_words` meets its contract. The invariant: the first k words are the line's.
-- Assumes nothing.
use Rattle.std.proofs.Common.{◌≡◌, ℕ, ◌+◌, List, length, get_or}
use Rattle.words.specs.Words.{word}
use Rattle.words.proofs.Filled.{Filled}
use Rattle.limits.specs.Limits.{depth_limit}
use Rattle.thin_sums.proofs.line_sums.line_words.Given as goal

-- the word `offset` past start k
abbrev pub word_at : List ℕ → List ℕ → ℕ → ℕ → ℕ
word_at src starts offset k = get_or src (word 64 (get_or starts k 0 + offset)) 0

abbrev pub invariant-loop-k : goal.invariant-loop-k
invariant-loop-k l = (length l.initial.line ≡ depth_limit) × Filled (word_at l.x.src.now l.x.starts.now l.offset) l.initial.line l.line l.k
