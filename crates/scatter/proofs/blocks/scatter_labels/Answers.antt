-- `scatter_labels` meets its contract. The invariant: the first k counts stand at the front of the list, and where counts of the run are left, `at` is the word of the
-- count before. A turn forms the word of count k, anew or by one step, and stores it behind the others.
-- Assumes nothing.
use Rattle.std.proofs.Common.{◌≡◌, ℕ, ◌+◌, ◌-◌, ◌%◌, ◌<◌, List, set, take, sym, refl, ap, ◌∙◌, add_assoc, mod-lt, arith, length-take}
use Rattle.words.specs.Words.{word, word_of}
use Rattle.words.proofs.Modular.{word_add_left, word_add_right}
use Rattle.words.proofs.Fronts.{front_none, front_set}
use Rattle.contraction.specs.declared.contraction.Operand.{Operand}
use Rattle.groups.specs.Groups.{Label, size}
use Rattle.groups.specs.Held.{labels_in}
use Rattle.offsets.specs.Counts.{offset_in}
use Rattle.offsets.specs.FirstLabel.{first_label}
use Rattle.offsets.proofs.Runs.{first_counts, next_lowest, offset_next}
use Rattle.scatter.specs.ScatterVectors.{word_at}
use Rattle.scatter.proofs.Vectors.{front_whole}
use Rattle.scatter.proofs.blocks.scatter_labels.Invariants.{AtCount, Before}
use Rattle.scatter.proofs.blocks.scatter_labels.Goals.{Joined-left-eq0, then-left-eq0, else-left-eq0}
use Rattle.scatter.proofs.blocks.scatter_labels.Goals as goal

module _ (g : List Label) {len : ℕ} (e : len ≡ (first_label g).extent) where
  long : {n : ℕ} → n < size g → 0 < len
  long h = rw e (first_counts g h)

  -- formed anew
  anew : {o : Operand} {from n by to : ℕ} → n < size g → by ≡ word 64 (offset_in (word_of 64) o g n) → to ≡ word 64 (from + by) → AtCount o from g len n to (len - n % len)
  anew {o} {from} {n} h of plus =
      record {
        run = omega (arith, mod-lt n (long h));
        word = plus ∙ ap (λ (x : ℕ). word 64 (from + x)) of ∙ word_add_right 64 from (offset_in (word_of 64) o g n);
      }

  -- by one step from the count before
  along : {o : Operand} {from n at left to : ℕ} (step : ℕ) → step ≡ word_of 64 ((first_label g).stride o) → Before o from g len n at left → 0 < left → to ≡ word 64 (at + step) → AtCount o from g len n to left
  along {o} {from} step f b h plus =
      let m = (b.last h).0 in
      let s = (b.last h).2 in
      let more : m % len + 1 < len = omega (arith, s.run) in
      let w = offset_in (word_of 64) o g m in
      let next = word_of 64 ((first_label g).stride o) in
      rw (b.last h).1
      (record {
        run = omega (arith, s.run, next_lowest len m more);
        word =
            plus ∙ ap (λ (x : ℕ). word 64 (x + step)) s.word ∙ ap (λ (x : ℕ). word 64 (word 64 (from + w) + x)) f ∙ word_add_left 64 (from + w) next
            ∙ ap (word 64) (add_assoc from w next)
            ∙ ap (λ (x : ℕ). word 64 (from + x)) (sym (offset_next len m more (λ x. word_of 64 (x.stride o)) g refl e));
      })

  -- some count of the run is left
  some_left : {o : Operand} {from n at left : ℕ} → n < size g → AtCount o from g len n at left → 0 < left
  some_left {n = n} h s = omega (arith, s.run, mod-lt n (long h))

  -- before the next count
  passed : {o : Operand} {from at left : ℕ} (first k : ℕ) → 0 < left → AtCount o from g len (first + k) at left → Before o from g len (first + (k + 1)) at (left - 1)
  passed {left = left} first k h s =
      let q : left - 1 + 1 ≡ left = omega arith in
      record { last = λ p. (first + k, sym (add_assoc first k 1), rw q s) }

-- where the two arms meet, `at` is the word of count k
here : (c : Joined-left-eq0) → AtCount c.args.o c.args.from (labels_in c.args.g.now) c.of-label.result.len (c.args.first + c.loop-k.k) c.if-left-eq0.at c.if-left-eq0.left
here c =
    let f = c.of-label.ensures in
    let n : c.args.first + c.loop-k.k < size (labels_in c.args.g.now) = omega (arith, length-take c.args.count c.args.out.now) in
    elim c.if-left-eq0.branch [
      | then-left-eq0 w ↦ rw (w.at-is, w.left-is) (anew (labels_in c.args.g.now) f.len n w.offset_in.ensures refl)
      | else-left-eq0 w ↦
          rw (w.at-is, w.left-is)
          (along (labels_in c.args.g.now) f.len _ (c.of-step.ensures ∙ f.step c.args.o) c.loop-k.invariant.1 (omega (arith, w.if-left-eq0.false)) refl)
    ]

left_here : (c : Joined-left-eq0) → 0 < c.if-left-eq0.left
left_here c =
    some_left (labels_in c.args.g.now) c.of-label.ensures.len (omega (arith, length-take c.args.count c.args.out.now)) (here c)

pub of-label-requires : goal.of-label-requires
of-label-requires c = c.requires.0

pub loop-k-init : goal.loop-k-init
loop-k-init c =
    let s = c.args in
    (sym (front_none (λ i. word_at s.o s.from (labels_in s.g.now) (s.first + i)) (take s.count s.out.now)), record { last = λ h. absurd (omega arith) })

pub offset_in-requires : goal.offset_in-requires
offset_in-requires c = (omega arith, omega (arith, length-take c.args.count c.args.out.now))

pub nonzero_rem-left : goal.nonzero_rem-left
nonzero_rem-left c = long (labels_in c.args.g.now) c.of-label.ensures.len {n = c.args.first + c.loop-k.k} (omega (arith, length-take c.args.count c.args.out.now))

pub overflow_sub-left : goal.overflow_sub-left
overflow_sub-left c =
    let n = c.args.first + c.loop-k.k in
    let some : 0 < c.of-label.result.len = long (labels_in c.args.g.now) c.of-label.ensures.len {n = n} (omega (arith, length-take c.args.count c.args.out.now)) in
    omega (arith, mod-lt n some)

pub overflow_sub-left-in-loop-k : goal.overflow_sub-left-in-loop-k
overflow_sub-left-in-loop-k c = left_here c.before

pub loop-k-preserved : goal.loop-k-preserved
loop-k-preserved c =
    let l = c.loop-k in
    let s = c.args in (
      ap (λ (x : List ℕ). set x l.k c.if-left-eq0.at) l.invariant.0
          ∙ front_set (λ i. word_at s.o s.from (labels_in s.g.now) (s.first + i)) (take s.count s.out.now) l.k c.if-left-eq0.at (omega arith) (here c.before).word,
      passed (labels_in s.g.now) c.of-label.ensures.len s.first l.k (left_here c.before) (here c.before),
    )

pub returns : goal.returns
returns c =
    let s = c.args in
    front_whole s.count (λ i. word_at s.o s.from (labels_in s.g.now) (s.first + i)) s.out.now c.requires.3
    (omega (arith, length-take s.count s.out.now)) c.loop-k.invariant.0
