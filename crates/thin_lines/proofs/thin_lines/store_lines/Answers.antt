-- `store_lines` meets its contract. The invariant: D's words are those that q lines leave. A turn sums line q along the long block and adds the sums at its places.
use Rattle.std.proofs.Common.{◌≡◌, ℕ, List, get_or, refl, ap, ◌∙◌, arith}
use Rattle.words.specs.Words.{word}
use Rattle.words.specs.Loops.{each, put}
use Rattle.words.proofs.Loops.{each_ext, each_next}
use Rattle.words.proofs.Sums.{sum_to_ext}
use Rattle.block.specs.Places.{place_of}
use Rattle.kernel.specs.Kernel.{ColumnSums}
use Rattle.accumulate.specs.declared.accumulate.Factors.{Factors}
use Rattle.accumulate.specs.Added.{added_to, rows_added}
use Rattle.thin_sums.specs.LineSums.{line_sum, LineOf}
use Rattle.thin_lines.specs.ThinLines.{cross_sum}
use Rattle.thin_lines.proofs.thin_lines.store_lines.Goals as goal

-- the sums of a line are those of its words
line_is : (long starts offsets short begins places : List ℕ) (filled r q : ℕ) {line : List ℕ} → LineOf filled short begins (get_or places q 0) line
    → line_sum long starts offsets line filled r ≡ cross_sum long starts offsets short begins places filled r q
unfolding line_sum cross_sum
line_is long starts offsets short begins places filled r q t = sum_to_ext filled (λ k h. rw (t.each k h))

-- a turn
line_added : (f : Factors) (long starts offsets short begins places : List ℕ) (filled from : ℕ) (lines to : List ℕ) (n q : ℕ) {line sums e : List ℕ}
    (d : List ℕ) → LineOf filled short begins (get_or places q 0) line → ColumnSums n (line_sum long starts offsets line filled) sums
    → e ≡ rows_added n f sums (place_of from lines q) to d
    → e ≡ each n (λ r. put (added_to f (word 32 (cross_sum long starts offsets short begins places filled r q))) (place_of (place_of from lines q) to r)) d
line_added f long starts offsets short begins places filled from lines to n q d t s k =
    k ∙ each_ext n (λ r h xs. rw (s.each r h ∙ ap (word 32) (line_is long starts offsets short begins places filled r q t))) d

pub loop-q-init : goal.loop-q-init
unfolding each
loop-q-init c = (refl, refl)

pub line_words-line-requires : goal.line_words-line-requires
line_words-line-requires c =
    let q = c.requires.0 in
    let e = c.requires.1 in
    rw e (q.reads.shallow, record { each = λ k h. (q.words.each k h).each c.loop-q.q (omega arith) })

pub loop-q-preserved : goal.loop-q-preserved
loop-q-preserved c =
    let a = c.args in
    let x = a.long.now in
    let y = a.short.now in
    let l = c.loop-q in
    let r = c.store_column in (
      r.auto.d ∙ l.invariant.0,
      each_next _ l.q a.d.now l.invariant.1
          (line_added a.f x.src.now x.starts.now x.block.now.offsets y.src.now y.starts.now y.block.now.offsets x.depth a.from a.across.now.offsets a.along.now.offsets x.block.now.count l.q l.d
          (rw c.requires.1 at c.line_words-line.ensures) c.line_sums-sums.ensures r.ensures),
    )
