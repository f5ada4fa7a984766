-- `reach_of` meets its contract: one label more adds its part to each reach, and in the end all labels were counted.
-- Assumes nothing.
use Rattle.std.proofs.Common.{◌≡◌, ℕ, ◌^◌, ◌≤◌, ◌<◌, length, take_all, ap, ◌∙◌, arith}
use native.Mathlib.Nat.{add_comm}
use Rattle.std.proofs.lemmas.List.{take_more}
use Rattle.words.specs.Words.{up, down, word_of, signed}
use Rattle.words.proofs.Sums.{sum_of_behind}
use Rattle.limits.specs.Limits.{extent_limit}
use Rattle.layout.specs.declared.axes.Axes.{Axes}
use Rattle.layout.specs.Listed.{listed}
use Rattle.validity.specs.Checked.{Checked}
use Rattle.labels.specs.Labels.{stride_of, extent_of}
use Rattle.labels.proofs.Facts.{extents_bound, small_up, small_down, signed_stride}
use Rattle.labels.proofs.Spelling.{length_spelled}
use Rattle.entries.specs.EntryQuestions.{span}
use Rattle.entries.proofs.Reach.{reach_lt}
use Rattle.entries.proofs.inside.reach_of.Goals as goal

-- what is known of a label's extent and of its stride's word
record Label (x : Axes) (d extent word : ℕ) : Type 0 where
  extent_is : extent ≡ extent_of d (listed x)
  word_is : signed 64 word ≡ stride_of d (listed x)
  short : extent ≤ extent_limit
  up_lt : up (signed 64 word) < 2 ^ 32
  down_lt : down (signed 64 word) < 2 ^ 32

label : (x : Axes) (d extent word : ℕ) → Checked x → extent ≡ extent_of d (listed x) → word ≡ word_of 64 (stride_of d (listed x)) → Label x d extent word
label x d extent word ok e f =
    let w : signed 64 word ≡ stride_of d (listed x) = rw f (signed_stride x ok.few ok.strides d) in
    record {
      extent_is = e;
      word_is = w;
      short = rw e (extents_bound (listed x) ok.extents d);
      up_lt = rw w (small_up x ok.few ok.strides d);
      down_lt = rw w (small_down x ok.few ok.strides d);
    }

pub with-reach-requires : goal.with-reach-requires
with-reach-requires c =
    let x = c.args.x.now in
    let w = label x.axes c.from-c.result c.extent_of.result c.stride_of.result c.args.x.now.lettered.checked c.extent_of.ensures c.stride_of.ensures in
    let n : length c.as_slice-letters.result.now ≡ x.letters.count = ap length c.as_slice-letters.ensures ∙ length_spelled x.letters in
    (omega (arith, c.args.x.now.lettered.few, c.loop-c.invariant.2), omega (arith, c.args.x.now.lettered.few, c.loop-c.invariant.3), w.short, w.up_lt, w.down_lt)

pub loop-c-preserved : goal.loop-c-preserved
loop-c-preserved c =
    let l = c.loop-c in
    let letters = c.as_slice-letters.result.now in
    let w = label c.args.x.now.axes c.from-c.result c.extent_of.result c.stride_of.result c.args.x.now.lettered.checked c.extent_of.ensures c.stride_of.ensures in
    let e = c.extent_of.result in
    let s = signed 64 c.stride_of.result in (
      rw (take_more letters l.c-index 0 (omega arith), sum_of_behind, c.with-reach.ensures.0, w.extent_is, w.word_is, c.from-c.ensures, l.invariant.0) (add_comm _ _),
      rw (take_more letters l.c-index 0 (omega arith), sum_of_behind, c.with-reach.ensures.1, w.extent_is, w.word_is, c.from-c.ensures, l.invariant.1) (add_comm _ _),
      omega (arith, reach_lt e (up s) w.short w.up_lt, c.with-reach.ensures.0, l.invariant.2),
      omega (arith, reach_lt e (down s) w.short w.down_lt, c.with-reach.ensures.1, l.invariant.3),
    )

pub returns : goal.returns
unfolding span
returns c =
    let l = c.loop-c in
    let letters = c.as_slice-letters.result.now in
    let n : length letters ≡ c.args.x.now.letters.count = ap length c.as_slice-letters.ensures ∙ length_spelled c.args.x.now.letters in (
      rw (l.invariant.0, take_all l.c-index letters (omega arith), c.as_slice-letters.ensures, c.args.x.now.lettered.spells.spells),
      rw (l.invariant.1, take_all l.c-index letters (omega arith), c.as_slice-letters.ensures, c.args.x.now.lettered.spells.spells),
      omega (arith, c.args.x.now.lettered.few, l.invariant.2),
      omega (arith, c.args.x.now.lettered.few, l.invariant.3),
    )
