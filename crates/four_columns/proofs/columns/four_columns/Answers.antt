-- `four_columns` meets its contract. The invariant: each column's sums are those of the first d depth counts.
use Rattle.std.proofs.Common.{◌≡◌, ℕ, ◌+◌, ◌*◌, List, get_or, replicate, ap, arith}
use Rattle.kernel.proofs.Columns.{Summed, summed_none, summed_turn}
use Rattle.four_columns.proofs.columns.four_columns.Goals as goal

-- the word of column q, as the code reaches it
word_of : (work : List ℕ) (from cols d q : ℕ) → get_or work (from + cols * d + q) 0 ≡ get_or work (from + q + cols * d) 0
word_of work from cols d q =
    let e : from + cols * d + q ≡ from + q + cols * d = omega arith in
    ap (λ (i : ℕ). get_or work i 0) e

word_of_first : (work : List ℕ) (from cols d : ℕ) → get_or work (from + cols * d) 0 ≡ get_or work (from + 0 + cols * d) 0
word_of_first work from cols d =
    let e : from + cols * d ≡ from + 0 + cols * d = omega arith in
    ap (λ (i : ℕ). get_or work i 0) e

pub loop-d-init : goal.loop-d-init
loop-d-init c =
    let t = c.args.t.now in
    let none : (q : ℕ) → Summed t.work.now t.rows c.args.count (c.args.from + q) t.cols 0 (replicate 64 0) =
    λ q. summed_none t.work.now t.rows c.args.count (c.args.from + q) t.cols c.requires.few in
    (none 0, none 1, none 2, none 3)

pub loop-d-preserved : goal.loop-d-preserved
loop-d-preserved c =
    let a = c.args in
    let t = a.t.now in
    let l = c.loop-d in
    let e = c.add_block_lane_to_four.ensures in
    let w = t.work.now in (
      summed_turn w t.rows a.count (a.from + 0) t.cols c.requires.few l.d l.invariant.0 (word_of_first w a.from t.cols l.d) e.0,
      summed_turn w t.rows a.count (a.from + 1) t.cols c.requires.few l.d l.invariant.1 (word_of w a.from t.cols l.d 1) e.1,
      summed_turn w t.rows a.count (a.from + 2) t.cols c.requires.few l.d l.invariant.2 (word_of w a.from t.cols l.d 2) e.2,
      summed_turn w t.rows a.count (a.from + 3) t.cols c.requires.few l.d l.invariant.3 (word_of w a.from t.cols l.d 3) e.3,
    )
