-- `row_sum` meets its contract. The invariant: the sum is the word of the sum over the first d depth counts.
use Rattle.std.proofs.Common.{◌≡◌, ℕ, ◌+◌, ◌*◌, List, get_or, refl, add-one}
use Rattle.words.specs.Words.{word}
use Rattle.words.specs.Sums.{sum_to}
use Rattle.words.proofs.Modular.{word_sum}
use Rattle.kernel.specs.Kernel.{column_sum}
use Rattle.kernel.proofs.kernel.row_sum.Goals as goal

-- a turn of the loop: one product more
turn : (work : List ℕ) (rows r from cols d : ℕ) {sum p : ℕ} → sum ≡ word 32 (column_sum work rows from cols d r)
    → p ≡ word 32 (get_or work (rows * d + r) 0 * get_or work (from + cols * d) 0) → word 32 (sum + p) ≡ word 32 (column_sum work rows from cols (d + 1) r)
unfolding column_sum
turn work rows r from cols d es ep = rw (es, ep, add-one) (word_sum 32 d (λ k. get_or work (rows * k + r) 0 * get_or work (from + cols * k) 0))

pub loop-d-init : goal.loop-d-init
unfolding column_sum sum_to
loop-d-init c = refl

pub loop-d-preserved : goal.loop-d-preserved
loop-d-preserved c =
    let t = c.args.t.now in
    let l = c.loop-d in
    turn t.work.now t.rows c.args.r c.args.from t.cols l.d l.invariant c.mul-sum.ensures
