-- A group that is walked in runs of its first label: count v of run m is the group's count len × m + v, where a run begins is carried along the labels behind
-- the first, and its address words are steps from there.
-- Assumes nothing.
use Rattle.std.proofs.Common.{◌≡◌, ℕ, ◌+◌, ◌*◌, ◌^◌, ◌<◌, List, get_or, drop, replicate, sym, refl, ap, ◌∙◌, mul-le-mul_left, arith}
use native.Mathlib.Nat.{eq_of_mul-eq-mul_left}
use Rattle.words.specs.Words.{word, word_of}
use Rattle.words.specs.Stepped.{stepped}
use Rattle.limits.specs.Limits.{labels_limit}
use Rattle.contraction.specs.declared.contraction.Operand.{Operand}
use Rattle.groups.specs.Groups.{Label, size}
use Rattle.offsets.specs.declared.offsets.Offsets.{Offsets}
use Rattle.offsets.specs.Offsets.{words_in}
use Rattle.offsets.proofs.Runs.{offset_first, offset_run, offset_behind, size_behind}
use Rattle.odometer.specs.declared.odometer.Row.{Row}
use Rattle.odometer.specs.Odometer.{Stands, Advanced, Rows}
use Rattle.odometer.proofs.Carried.{carried_offset, stands_first}
use Rattle.sums.specs.declared.walk.Walk.{Walk}
use Rattle.sums.specs.Walk.{reached, Walks}

module _ (g : List Label) (w : Walk) (k : Walks g w) where
  -- a count of a run is one of the group's
  pub run_below : (m v : ℕ) → m < w.runs → v < w.len → w.len * m + v < size g
  run_below m v h i = omega (arith, k.counts, mul-le-mul_left w.len h)

  -- the first run begins where the group does
  pub first_place : (o : Operand) (x v : ℕ) → v < w.len → stepped x (words_in w.step o) v ≡ reached o x g v
  first_place o x v h = rw (k.step o, offset_first (λ l. word_of 64 (l.stride o)) g w.len v refl k.len h)

  -- where there is a run, there is one for each count of the labels behind the first
  pub runs_behind : {m : ℕ} → m < w.runs → w.runs ≡ size (drop 1 g)
  runs_behind h =
      eq_of_mul-eq-mul_left w.len (k.long (omega arith)) w.runs (size (drop 1 g))
      (sym k.counts ∙ size_behind g ∙ ap (λ (x : ℕ). x * size (drop 1 g)) (sym k.len))

  -- v steps from where run m begins
  module _ {x : Operand → ℕ} {m : ℕ} (h : m < w.runs) {array : List ℕ} {at : Offsets} (s : Stands (drop 1 g) x m array at) where
    begins : (o : Operand) → words_in at o ≡ reached o (x o) g (w.len * m)
    begins o =
        s.words o ∙ carried_offset o (x o) (drop 1 g) m (rw (← runs_behind h) h)
        ∙ ap (λ (y : ℕ). word 64 (x o + y)) (sym (offset_behind (λ l. word_of 64 (l.stride o)) g w.len m (k.long (omega arith)) k.len))

    pub run_place : (o : Operand) (v : ℕ) → v < w.len → stepped (words_in at o) (words_in w.step o) v ≡ reached o (x o) g (w.len * m + v)
    run_place o v i = rw (begins o, k.step o, offset_run (λ l. word_of 64 (l.stride o)) g w.len m v refl k.len i) (omega arith)

  -- the first run, and from a run to the next
  module _ {rows : List Row} (r : Rows g rows) where
    pub first_run : (at : Offsets) → ((i : ℕ) → get_or at.words i 0 < 2 ^ 64) → Stands (drop 1 g) (words_in at) 0 (replicate labels_limit 0) at
    first_run at fits = stands_first (drop 1 g) at (omega (arith, r.few, r.tabled.rows)) fits

    pub next_run : {x : Operand → ℕ} {m : ℕ} {old new : List ℕ} {at to : Offsets} → Advanced rows old new at to
        → Stands (drop 1 g) x m old at → m + 1 < w.runs → Stands (drop 1 g) x (m + 1) new to
    next_run {x} {m} a s h = a.next (drop 1 g) x m (rw (← runs_behind h) h) r.tabled s
