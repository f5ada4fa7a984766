-- Of a long file only the front is read. A record that is got ends soon after it begins, since ranks and counts above their limits are refused; so all that is
-- looked at stands in the front, there is room for each record, and after `GO` neither the front nor the whole file is at its end.
-- Assumes nothing.
use Prim.Native.Nat.{ℕ, zero, suc, ◌+◌, ◌*◌, ◌<◌, ◌≤◌}
use mathlib.Core.Path.{◌≡◌, refl, ap}
use mathlib.Core.Bool.{Bool, true, false, not, cond}
use mathlib.Core.List.{List}
use native.Mathlib.Nat.{mul-le-mul_left}
use native.Mathlib.Omega.{arith}
use lib.Dec.{eqb, leb}
use lib.ListN.{length, get_or, take}
use lib.Seq.{get_or-take, length-take-le}
use borrow.Author.Tests.{leb-true, le-leb, ne_eqb, eqb-false, not-true}
use Rattle.words.proofs.Tabulate.{tabulate_ext}
use Rattle.limits.specs.Limits.{rank_limit, job_limit, file_room}
use Rattle.little_endian.specs.Bytes.{has, little, numbers}
use Rattle.marks.specs.Marks.{letter_a, letter_b, letter_c, letter_d, kind_of, is_layout, word_width, is_go}
use Rattle.records.specs.Records.{Reading, got, file_refused, check, then, Tensor, kind_at, layout_at, layout_record, words_record, words_after, tensor_records}
use Rattle.records.proofs.Reading.{wide_of, few_bytes}
use Rattle.go.specs.declared.go.Go.{Go}
use Rattle.go.specs.Record.{go_at, go_record}
use Rattle.jobfile.specs.Format.{Job, job_of, job_with_c, from_go, from_d, from_c, from_b, read_job}
use Rattle.job.specs.Run.{reading_text, job_text}

-- bytes of the longest records
abbrev layout_room : ℕ
layout_room = 7 + 9 * rank_limit

abbrev words_room : ℕ
words_room = 6 + 4 * job_limit

abbrev tensor_room : ℕ
tensor_room = layout_room + words_room

abbrev go_room : ℕ
go_room = 24

abbrev job_room : ℕ
job_room = 4 * tensor_room + go_room

-- ---- readings that are the same

-- where something is got, the next record begins by `bound`
abbrev Ends : {X : Type 0} → ℕ → Reading X → Type 0
Ends bound (got value next) = next ≤ bound
Ends bound (file_refused number) = Unit {0}

record Alike {X : Type 0} (bound : ℕ) (x y : Reading X) : Type 0 where
  same : x ≡ y
  ends : Ends bound x

alike_refused : {X : Type 0} {m : ℕ} (number : ℕ) → Alike {X = X} m (file_refused number) (file_refused number)
alike_refused number = record { same = refl; ends = tt }

module _ {X : Type 0} {m : ℕ} where
  alike_got : {v w : X} {next : ℕ} → v ≡ w → next ≤ m → Alike m (got v next) (got w next)
  alike_got {next = next} e h = record { same = ap (λ (v : X). got v next) e; ends = h }

  alike_check : (b : Bool) (number : ℕ) {x y : Reading X} → (b ≡ true → Alike m x y) → Alike m (check b number x) (check b number y)
  alike_check true number k = k refl
  alike_check false number k = alike_refused number

  alike_cond : (b : Bool) {x y v w : Reading X} → Alike m x v → Alike m y w → Alike m (cond b x y) (cond b v w)
  alike_cond true p q = p
  alike_cond false p q = q

  alike_then : {Y : Type 0} {n : ℕ} {x y : Reading X} {p q : X → ℕ → Reading Y}
      → Alike m x y → ((v : X) (next : ℕ) → next ≤ m → Alike n (p v next) (q v next)) → Alike n (then x p) (then y q)
  alike_then {n = n} {x = x} {p = p} {q = q} a k = rw (← a.same) (go x a.ends)
    where
      go : (z : Reading X) → Ends m z → Alike n (then z p) (then z q)
      go (got v next) h = k v next h
      go (file_refused number) h = alike_refused number

-- ---- two files with the same front, of L bytes

record Front (L : ℕ) (f g : List ℕ) : Type 0 where
  left : L ≤ length f
  right : L ≤ length g
  byte : (i : ℕ) → i < L → get_or f i 0 ≡ get_or g i 0

module _ {L : ℕ} {f g : List ℕ} (c : Front L f g) where
  little_same : (n at : ℕ) → at + n ≤ L → little f n at ≡ little g n at
  unfolding little
  little_same zero at h = refl
  little_same (suc n) at h = rw (c.byte at (omega arith), little_same n (suc at) (omega arith))

  numbers_same : (w n at : ℕ) → at + w * n ≤ L → numbers f w n at ≡ numbers g w n at
  unfolding numbers
  numbers_same w n at h = tabulate_ext n (λ i k. little_same w (at + w * i) (omega (arith, mul-le-mul_left w k)))

  kind_same : (at : ℕ) → at + 2 ≤ L → kind_at f at ≡ kind_at g at
  kind_same at h = ap kind_of (little_same 2 at h)

  alike_has : {X : Type 0} {m : ℕ} (at n : ℕ) {x y : Reading X} → at + n ≤ L → Alike m x y → Alike m (check (has f at n) 21 x) (check (has g at n) 21 y)
  alike_has at n h a = rw (le-leb (at + n) (length f) (omega arith), le-leb (at + n) (length g) (omega arith)) a

  layout_at_same : (at r : ℕ) → at + (4 + 9 * r) ≤ L → layout_at f at r ≡ layout_at g at r
  unfolding layout_at
  layout_at_same at r h =
      rw (
        numbers_same 1 r at (omega arith),
        numbers_same 4 r (at + r) (omega arith),
        numbers_same 4 r (at + 5 * r) (omega arith),
        little_same 4 (at + 9 * r) (omega arith),
      )

  go_at_same : (at : ℕ) → at + go_room ≤ L → go_at f at ≡ go_at g at
  unfolding go_at
  go_at_same at h =
      rw (
        little_same 4 (at + 2) (omega arith),
        little_same 4 (at + 6) (omega arith),
        little_same 2 (at + 10) (omega arith),
        little_same 2 (at + 12) (omega arith),
        little_same 2 (at + 14) (omega arith),
        little_same 4 (at + 16) (omega arith),
        little_same 4 (at + 20) (omega arith),
      )

  -- a record that begins at `at`, with room for it up to m
  alike_layout : (m t at : ℕ) → at + layout_room ≤ m → m ≤ L → Alike m (layout_record f t at) (layout_record g t at)
  unfolding layout_record
  alike_layout m t at h k =
      let r = little g 1 (at + 2) in
      rw (kind_same at (omega arith), little_same 1 (at + 2) (omega arith))
      (alike_has at 2 (omega arith)
      (alike_check (is_layout t (kind_at g at)) 20 (λ _.
      alike_has at 3 (omega arith)
      (alike_check (leb r rank_limit) 1 (λ e.
      let few = leb-true r rank_limit e in
      alike_has at (7 + 9 * r) (omega arith) (alike_got (layout_at_same (at + 3) r (omega arith)) (omega arith)))))))

  alike_words : (m t at : ℕ) → at + words_room ≤ m → m ≤ L → Alike m (words_record f t at) (words_record g t at)
  unfolding words_record
  alike_words m t at h k =
      let w = word_width t (kind_at g at) in
      let n = little g 4 (at + 2) in
      rw (kind_same at (omega arith), little_same 4 (at + 2) (omega arith))
      (alike_has at 2 (omega arith)
      (alike_check (not (eqb w 0)) 20 (λ wide.
      alike_has at 6 (omega arith)
      (alike_check (leb n job_limit) 23 (λ e.
      let few = few_bytes w n (wide_of t (kind_at g at) refl (eqb-false w 0 (not-true (eqb w 0) wide))) (leb-true n job_limit e) in
      alike_has at (6 + w * n) (omega arith) (alike_got (numbers_same w n (at + 6) (omega arith)) (omega arith)))))))

  alike_go : (m at : ℕ) → at + go_room ≤ m → m ≤ L → Alike m (go_record f at) (go_record g at)
  unfolding go_record
  alike_go m at h k =
      rw (kind_same at (omega arith))
      (alike_has at 2 (omega arith)
      (alike_check (is_go (kind_at g at)) 20 (λ _.
      alike_has at 24 (omega arith) (alike_got (go_at_same at (omega arith)) (omega arith)))))

  alike_tensor : (m t at : ℕ) → at + tensor_room ≤ m → m ≤ L → Alike m (tensor_records f t at) (tensor_records g t at)
  unfolding tensor_records words_after
  alike_tensor m t at h k =
      alike_then (alike_layout (at + layout_room) t at (omega arith) (omega arith)) (λ layout next i.
      alike_then (alike_words m t next (omega arith) k) (λ words end j. alike_got refl j))

  -- after `GO` neither file is at its end
  alike_end : (m : ℕ) (job : Go → Job) (at : ℕ) → at + go_room ≤ m → m < L → Alike m (from_go f job at) (from_go g job at)
  unfolding from_go
  alike_end m job at h k =
      alike_then (alike_go m at h (omega arith)) (λ go end j.
      rw (ne_eqb end (length f) (λ e. omega arith), ne_eqb end (length g) (λ e. omega arith)) (alike_refused 22))

  -- D's records and `GO`, from `at` on
  alike_d : (m : ℕ) (job : Tensor → Go → Job) (at : ℕ) → at + (tensor_room + go_room) ≤ m → m < L → Alike m (from_d f job at) (from_d g job at)
  unfolding from_d
  alike_d m job at h k =
      alike_then (alike_tensor (at + tensor_room) letter_d at (omega arith) (omega arith)) (λ d next i. alike_end m (job d) next (omega arith) k)

  -- before them C's, where they are there
  alike_c : (m : ℕ) (a b : Tensor) (at : ℕ) → at + (2 * tensor_room + go_room) ≤ m → m < L → Alike m (from_c f a b at) (from_c g a b at)
  unfolding from_c
  alike_c m a b at h k =
      rw (le-leb (at + 2) (length f) (omega arith), le-leb (at + 2) (length g) (omega arith), kind_same at (omega arith))
      (alike_cond (is_layout letter_c (kind_at g at))
      (alike_then (alike_tensor (at + tensor_room) letter_c at (omega arith) (omega arith)) (λ c next i. alike_d m (job_with_c a b c) next (omega arith) k))
      (alike_d m (job_of a b) at (omega arith) k))

  alike_job : job_room < L → Alike job_room (read_job f) (read_job g)
  unfolding read_job from_b
  alike_job h =
      alike_then (alike_tensor tensor_room letter_a 0 (omega arith) (omega arith)) (λ a i ia.
      alike_then (alike_tensor (2 * tensor_room) letter_b i (omega arith) (omega arith)) (λ b j jb. alike_c job_room a b j (omega arith) h))

front : (n : ℕ) (file : List ℕ) → n ≤ length file → Front n (take n file) file
front n file h = record { left = omega (arith, length-take-le n file h); right = h; byte = λ i j. get_or-take n file i 0 j }

-- what stands behind the bytes that are read changes no answer
pub long_file : (file : List ℕ) → file_room ≤ length file → job_text (take file_room file) ≡ job_text file
unfolding job_text
long_file file h = ap reading_text (alike_job (front file_room file h) (omega arith)).same
