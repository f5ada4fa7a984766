-- What a record's reading comes to: each question's answer, one reading after another, and that what was read is in the file and in its limits.
-- Assumes nothing.
use Prim.Native.Nat.{ℕ, zero, suc, ◌+◌, ◌*◌, ◌≤◌}
use mathlib.Core.Path.{◌≡◌, refl, sym, ap, ◌∙◌}
use mathlib.Core.Bool.{Bool, true, false, not, cond}
use mathlib.Core.Logic.{◌⊎◌, inl, inr, ⊎_elim}
use mathlib.Core.List.{List}
use native.Mathlib.Omega.{arith}
use lib.Dec.{eqb}
use lib.ListN.{length}
use Rattle.std.specs.Prelude.{Option, Result, Ok, Err, IsErrAnd, ok_or}
use Rattle.std.proofs.lemmas.Result.{err_from_is_err_and}
use borrow.Author.Tests.{ne_eqb}
use Rattle.limits.specs.Limits.{rank_limit, job_limit}
use Rattle.little_endian.specs.declared.numbers.Cursor.{Cursor}
use Rattle.little_endian.specs.Bytes.{has}
use Rattle.marks.specs.declared.marks.Kind.{Kind}
use Rattle.marks.specs.Marks.{letter, word_width, known_width}
use Rattle.refusals.specs.declared.refusal.Refusal.{Refusal}
use Rattle.refusals.specs.Numbers.{number}
use Rattle.records.specs.Records.{Reading, got, file_refused, check, then, kind_at}
use Rattle.records.specs.RecordParts.{reading, LayoutHeld, WordsHeld, ReadAs}

module _ {P X : Type 0} {of : List ℕ → P → X} {held : List ℕ → P → Type 0} {file : List ℕ} where
  -- The code's reading comes to what follows a question: to the rest where the answer is yes, to its number where it is no.
  pub yes : {read : Reading P} {b : Bool} (n : ℕ) {rest : Reading X} → b ≡ true → ReadAs of held file read rest → ReadAs of held file read (check b n rest)
  yes n e read = rw e read

  pub no : {read : Reading P} {b : Bool} {n : ℕ} (rest : Reading X) → b ≡ false → ReadAs of held file read (file_refused n) → ReadAs of held file read (check b n rest)
  no rest e read = rw e read

  -- the code refuses the file
  pub refused : {n : ℕ} → ReadAs of held file (file_refused n) (file_refused n)
  refused = record { same = refl; sound = tt }

  -- the code passes on the refusal q
  pub passed_on : (r : Result (P × Cursor) Refusal) {refusal q : Refusal} → IsErrAnd r (λ e. e ≡ refusal) → refusal ≡ q
      → ReadAs of held file (reading r) (file_refused (number q))
  passed_on r is e = let p = err_from_is_err_and r is in rw (p.1, p.2, e) refused

  -- two bytes are there, and of the kind that they tell the code asked f
  module _ {read : Reading P} (at : ℕ) (f : Kind → Bool) {k : Kind} (found : (has file at 2 ≡ true) × (k ≡ kind_at file at)) where
    pub marked : {rest : Reading X} → true ≡ f k → ReadAs of held file read rest
        → ReadAs of held file read (check (has file at 2) 21 (check (f (kind_at file at)) 20 rest))
    marked e read = yes _ found.0 (yes _ (sym (e ∙ ap f found.1)) read)

    pub unmarked : (rest : Reading X) → false ≡ f k → ReadAs of held file read (file_refused 20)
        → ReadAs of held file read (check (has file at 2) 21 (check (f (kind_at file at)) 20 rest))
    unmarked rest e read = yes _ found.0 (no _ (sym (e ∙ ap f found.1)) read)

-- One reading after another: `all` is what the code read first, of a part or not.
module _ {P X : Type 0} {of : List ℕ → P → X} {held : List ℕ → P → Type 0} {file : List ℕ} {all : Reading X} where
  module _ {Q Y : Type 0} {of' : List ℕ → Q → Y} {held' : List ℕ → Q → Type 0} (read : Reading Q) (rest : X → ℕ → Reading Y) where
    -- it got a part, and the code goes on from it
    pub goes_on : {p : P} {next : ℕ} → ReadAs of held file (got p next) all → ReadAs of' held' file read (rest (of file p) next) → ReadAs of' held' file read (then all rest)
    goes_on e f = rw (← e.same) f

    -- it refuses the file, and so does the code
    pub stops : {n : ℕ} → ReadAs of held file (file_refused n) all → ReadAs of' held' file read (file_refused n) → ReadAs of' held' file read (then all rest)
    stops e f = rw (← e.same) f

module _ (file : List ℕ) where
  pub layout_held : (at r : ℕ) → r ≤ rank_limit → at + (7 + 9 * r) ≤ length file → LayoutHeld file (record { at = at + 3; rank = r })
  layout_held at r h i = record { few = h; inside = omega arith }

  pub words_held : (at n w : ℕ) → n ≤ job_limit → (w ≡ 4) ⊎ (w ≡ 1) → at + (6 + w * n) ≤ length file
      → WordsHeld file (record { at = at + 6; count = n; width = w })
  words_held at n w h v i = record { few = h; wide = v; inside = omega arith }

-- the width that the code found, or none
module _ (q : Refusal) where
  pub width_found : (n : ℕ) {o : Option ℕ} {w : ℕ} → o ≡ known_width n → Ok w ≡ ok_or o q → (n ≡ w) × (true ≡ not (eqb n 0)) × (w ≡ 0 → ⊥)
  width_found zero e is = absurd (grind arith)
  width_found (suc n) e is = (grind arith, sym (ap not (ne_eqb (suc n) 0 (λ z. omega arith))), grind arith)

  pub width_missing : (n : ℕ) {o : Option ℕ} {refusal : Refusal} → o ≡ known_width n → ◌≡◌ {A = Result ℕ Refusal} (Err refusal) (ok_or o q) → (false ≡ not (eqb n 0)) × (refusal ≡ q)
  width_missing zero e is = (refl, grind arith)
  width_missing (suc n) e is = absurd (grind arith)

chosen : (b : Bool) (n : ℕ) → (cond b n 0 ≡ 0 → ⊥) → cond b n 0 ≡ n
chosen true n h = refl
chosen false n h = absurd (h refl)

four_or_one : (t : ℕ) (k : Kind) → (word_width t k ≡ 0 → ⊥) → (word_width t k ≡ 4) ⊎ (word_width t k ≡ 1)
four_or_one t (Kind.Words u) h = inl (chosen (eqb (letter u) t) 4 h)
four_or_one t (Kind.Bytes u) h = inr (chosen (eqb (letter u) t) 1 h)
four_or_one t (Kind.Layout u) h = absurd (h refl)
four_or_one t Kind.Go h = absurd (h refl)
four_or_one t Kind.Other h = absurd (h refl)

-- a width that is not 0
pub wide_of : (t : ℕ) (k : Kind) {w : ℕ} → w ≡ word_width t k → (w ≡ 0 → ⊥) → (w ≡ 4) ⊎ (w ≡ 1)
wide_of t k e h = rw e (four_or_one t k (rw e at h))

-- the bytes of the words are few
pub few_bytes : (w n : ℕ) → (w ≡ 4) ⊎ (w ≡ 1) → n ≤ job_limit → w * n ≤ 4 * job_limit
few_bytes w n v h = ⊎_elim (λ e. rw e (omega arith)) (λ e. rw e (omega arith)) v
