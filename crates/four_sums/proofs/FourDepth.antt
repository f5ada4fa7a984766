-- Four runs of outputs over the depth group: along a run of its counts they share A's places, and B's of each run are as far from the first run's as where they
-- began.
-- Assumes nothing.
use Rattle.std.proofs.Common.{◌≡◌, ℕ, ◌+◌, ◌*◌, ◌^◌, ◌<◌, List, length, drop, sym, ap, ◌∙◌, arith}
use Rattle.words.specs.Words.{word, word_of}
use Rattle.words.specs.Loops.{Within}
use Rattle.words.specs.Stepped.{stepped}
use Rattle.words.proofs.Modular.{word_add_left}
use Rattle.contraction.specs.declared.contraction.Operand.TheVariants.{A, B}
use Rattle.groups.specs.Groups.{Label, size}
use Rattle.offsets.specs.Counts.{offset_in}
use Rattle.offsets.specs.declared.offsets.Offsets.{Offsets}
use Rattle.offsets.specs.Offsets.{words_in}
use Rattle.odometer.specs.Odometer.{Stands}
use Rattle.sums.specs.declared.walk.Walk.{Walk}
use Rattle.sums.specs.Walk.{reached, steps, sum_from, Walks}
use Rattle.sums.proofs.GroupRuns.{run_place}
use Rattle.side_sums.specs.SideSums.{side_run, Added, AllReadable}
use Rattle.side_sums.proofs.GroupSums.{up_to, run_inside, run_added}
use Rattle.four_sums.specs.FourRunSums.{on_from, RunInside, RunAdded}

-- two words that are the same, both moved
moved_word : (i to x s t : ℕ) → word 64 (i + s) ≡ word 64 (x + t) → word 64 (word 64 (i + to) + s) ≡ word 64 (word 64 (to + x) + t)
moved_word i to x s t e =
    let p : i + to + s ≡ i + s + to = omega arith in
    let q : x + t + to ≡ to + x + t = omega arith in
    word_add_left 64 (i + to) s ∙ ap (word 64) p ∙ sym (word_add_left 64 (i + s) to) ∙ ap (λ (z : ℕ). word 64 (z + to)) e ∙ word_add_left 64 (x + t) to ∙ ap (word 64) q
    ∙ sym (word_add_left 64 (to + x) t)

-- a run of outputs begins at x in A, where it goes word by word, and at y in B, where it stands still
pub record OwnWords (along from : Offsets) (x y : ℕ) : Type 0 where
  pub one : words_in along A ≡ 1
  pub none : words_in along B ≡ 0
  pub in_a : words_in from A ≡ x
  pub in_b : words_in from B ≡ y
  pub low : y < 2 ^ 64

module _ {along from : Offsets} {x y : ℕ} (w : OwnWords along from x y) where
  at_a : (r : ℕ) → steps from along r A ≡ stepped x 1 r
  at_a r = rw (w.one, w.in_a)

  at_b : (r : ℕ) → steps from along r B ≡ y
  at_b r = rw (w.none, w.in_b) (omega (arith, w.low))

  module _ {n : ℕ} (g : List Label) (a b : List ℕ) where
    reads_a : AllReadable n g a b (steps from along) → (r : ℕ) → r < n → Within (size g) (reached A (stepped x 1 r) g) (length a)
    reads_a k r h = rw (at_a r) at (k.each r h).in_a

    reads_b : AllReadable n g a b (steps from along) → (r : ℕ) → r < n → Within (size g) (reached B y g) (length b)
    reads_b k r h = rw (at_b r) at (k.each r h).in_b

    pub sums_from : (all : ℕ) → size g ≡ all → {old new : List ℕ} → Added n (λ r. up_to g a b all (stepped x 1 r) y) old new → Added n (λ r. sum_from g a b (steps from along r)) old new
    unfolding sum_from
    sums_from all e k = record { len = k.len; each = λ r h. rw (at_a r, at_b r, e) (k.each r h) }

-- along run m of the depth group, the run of outputs that began at y in B goes from j
pub record Reaches (g : List Label) (w : Walk) (m y j : ℕ) : Type 0 where
  pub each : (v : ℕ) → v < w.len → stepped j (words_in w.step B) v ≡ reached B y g (w.len * m + v)

-- run m of the depth group, from where it begins for the first run of outputs
module _ {g : List Label} {w : Walk} (k : Walks g w) (from : Offsets) {m : ℕ} (h : m < w.runs) {array : List ℕ} {at : Offsets}
    (s : Stands (drop 1 g) (words_in from) m array at) where
  abbrev lanes : ℕ → ℕ → ℕ
  lanes = side_run (words_in at A) 1 (words_in w.step A)

  lane_place : (r v : ℕ) → v < w.len → lanes r v ≡ reached A (stepped (words_in from A) 1 r) g (w.len * m + v)
  lane_place r v i = omega (arith, run_place g w k h s A v i)

  pub first_place : Reaches g w m (words_in from B) (words_in at B)
  first_place = record { each = run_place g w k h s B }

  -- B's places of the run of outputs that is `to` further
  pub moved_place : (to : ℕ) → Reaches g w m (word 64 (to + words_in from B)) (on_from at to)
  moved_place to =
      record { each = λ v i. moved_word (words_in at B) to (words_in from B) (v * words_in w.step B) (offset_in (word_of 64) B g (w.len * m + v)) (run_place g w k h s B v i) }

  module _ {y j : ℕ} (p : Reaches g w m y j) {n : ℕ} (a b : List ℕ) where
    pub four_inside : {along own : Offsets} → OwnWords along own (words_in from A) y → AllReadable n g a b (steps own along) → RunInside n at w.step w.len a b j
    four_inside o r =
        run_inside k h (stepped (words_in from A) 1) (λ r. y) lanes (λ r. stepped j (words_in w.step B)) lane_place (λ r. p.each) (reads_a o g a b r) (reads_b o g a b r)

    pub four_added : {old mid new : List ℕ} → Added n (λ r. up_to g a b (w.len * m) (stepped (words_in from A) 1 r) y) old mid → RunAdded n at w.step w.len a b j mid new
        → Added n (λ r. up_to g a b (w.len * (m + 1)) (stepped (words_in from A) 1 r) y) old new
    four_added = run_added k h (stepped (words_in from A) 1) (λ r. y) lanes (λ r. stepped j (words_in w.step B)) lane_place (λ r. p.each) a b
