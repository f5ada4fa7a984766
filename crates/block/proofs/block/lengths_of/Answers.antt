-- `lengths_of` meets its contract. The invariant: `len` is the length from place i on, `next` its offset and `after` the step from it, if a place follows, and
-- each place from i on has its length. A turn puts the length of the place before.
use Rattle.std.proofs.Common.{◌≡◌, ℕ, zero, suc, ◌+◌, ◌-◌, ◌<◌, ◌≤◌, cond, eqb, List, length, get_or, set, replicate, sym, refl, ◌∙◌, le_trans, arith, length-set, get_or-set_other, get_or-set_same}
use native.Mathlib.Decide.{dec_lt}
use Rattle.limits.specs.Limits.{block_limit}
use Rattle.block.specs.Stretches.{longest_from}
use Rattle.block.specs.Places.{StepOf}
use Rattle.block.proofs.Stretches.{past_end, last_one, from_few, by_steps}
use Rattle.block.proofs.block.lengths_of.Goals as goal

zeros : (n j : ℕ) → ◌≡◌ {A = ℕ} (get_or (replicate n 0) j 0) 0
zeros zero j = refl
zeros (suc n) zero = refl
zeros (suc n) (suc j) = zeros n j

-- a length put at place i, where each place after it has its own
one_more : (lengths : List ℕ) (i : ℕ) {v : ℕ} (f : ℕ → ℕ) → length lengths ≡ 64 → i < 64 → v ≡ f i → ((j : ℕ) → i < j → get_or lengths j 0 ≡ f j)
    → (j : ℕ) → i ≤ j → get_or (set lengths i v) j 0 ≡ f j
one_more lengths i {v} f len b e h j k = go (dec_lt i j)
  where
    go : Dec (i < j) → get_or (set lengths i v) j 0 ≡ f j
    go (yes l) = get_or-set_other lengths i j v 0 (λ z. omega arith) ∙ h j l
    go (no l) = let z : j ≡ i = omega arith in rw z (get_or-set_same lengths i v 0 (omega arith) ∙ e)

-- a turn, at the place before i
turn : (offsets : List ℕ) (n : ℕ) → n ≤ block_limit → (i : ℕ) {s after len : ℕ} → 0 < i → i < n → len ≡ longest_from n offsets i
    → StepOf (get_or offsets (i - 1) 0) (get_or offsets i 0) s → (i + 1 < n → StepOf (get_or offsets i 0) (get_or offsets (i + 1) 0) after)
    → cond (eqb s after) (len + 1) 2 ≡ longest_from n offsets (i - 1)
turn offsets n few i {s} {after} {len} h k e step more =
    let a : i - 1 + 1 ≡ i = omega arith in
    let b : i - 1 + 2 ≡ i + 1 = omega arith in
    by_steps offsets n few (i - 1) {s = s} {after = after} {next = len} (rw a k) (rw a e) (rw a step) (rw (a, b) more)

pub returns-then-n-eq0 : goal.returns-then-n-eq0
returns-then-n-eq0 c =
    record { each = λ j. zeros 64 j ∙ sym (past_end c.args.offsets.now c.args.n c.requires j (omega arith)) }

pub loop-i-init : goal.loop-i-init
loop-i-init c =
    let n = c.args.n in
    let last : longest_from n c.args.offsets.now (n - 1) ≡ 1 = last_one c.args.offsets.now n c.requires (n - 1) (omega arith) in
    record {
      whole = simp length-set refl;
      len = sym last;
      next = refl;
      after = λ h. absurd (omega arith);
      each = one_more (replicate 64 0) (n - 1) (longest_from n c.args.offsets.now) refl (omega (arith, c.requires)) (sym last)
          (λ j h. zeros 64 j ∙ sym (past_end c.args.offsets.now n c.requires j (omega arith)));
    }

pub longer-len-requires : goal.longer-len-requires
longer-len-requires c =
    let l = c.loop-i in
    rw l.invariant.len (le_trans (from_few c.args.offsets.now c.args.n c.requires l.i) c.requires)

pub loop-i-preserved : goal.loop-i-preserved
loop-i-preserved c =
    let l = c.loop-i in
    let o = c.args.offsets.now in
    let n = c.args.n in
    let a : l.i - 1 + 1 ≡ l.i = omega arith in
    let step : StepOf (get_or o (l.i - 1) 0) (get_or o l.i 0) c.step_from-step.result = rw l.invariant.next at c.step_from-step.ensures in
    let is : c.longer-len.result ≡ longest_from n o (l.i - 1) = c.longer-len.ensures ∙ turn o n c.requires l.i (omega arith) (omega arith) l.invariant.len step l.invariant.after in
    record {
      whole = simp length-set l.invariant.whole;
      len = is;
      next = refl;
      after = λ h. rw a step;
      each = one_more l.lengths (l.i - 1) (longest_from n o) l.invariant.whole (omega (arith, c.requires)) is (λ j h. l.invariant.each j (omega arith));
    }
