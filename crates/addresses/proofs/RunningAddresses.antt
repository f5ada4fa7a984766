-- The addresses that are carried along are those of the layouts: a carried word is that of the count's offset, and for an accepted contraction this is the address.
-- Assumes nothing.
use mathlib.Core.Path.{◌≡◌, refl, ap, ◌∙◌}
use mathlib.Core.List.{List, ◌∷◌}
use Prim.Native.Nat.{ℕ, ◌+◌, ◌*◌, ◌<◌}
use native.Mathlib.Nat.{mul-le-mul_left}
use native.Mathlib.Omega.{arith}
use Rattle.words.specs.Words.{word, word_of}
use Rattle.contraction.specs.declared.contraction.Contraction.{Contraction}
use Rattle.contraction.specs.Operands.{tensors}
use Rattle.contraction.specs.declared.contraction.Operand.{Operand}
use Rattle.contraction.specs.declared.contraction.Operand.TheVariants.{C, D}
use Rattle.questions.proofs.Ready.{AllPassed, accepted_parts}
use Rattle.groups.specs.Groups.{Label, depth, group, outputs, size}
use Rattle.offsets.specs.Counts.{offset_in}
use Rattle.offsets.proofs.Runs.{offset_run, offset_behind}
use Rattle.odometer.specs.Carried.{carried}
use Rattle.odometer.proofs.Carried.{carried_offset}
use Rattle.folding.specs.Fold.{fold}
use Rattle.folding.proofs.FoldKeeps.{fold_size}
use Rattle.meaning.specs.Meaning.{Slices, lengths_in, shape_in}
use Rattle.meaning.proofs.OwnGroups.{c_in_d}
use Rattle.plan.proofs.Reached.{reached_out, reached_term}
use Rattle.addresses.specs.RunningAddresses.{in_run, out_word, AddressesRun}

in_runs : (o : Operand) (x : ℕ) (l : Label) (g : List Label) (m v : ℕ) → m < size g → v < l.extent → in_run o x l g m v ≡ carried o x (l ∷ g) (l.extent * m + v)
in_runs o x l g m v h i =
    let below : l.extent * m + v < size (l ∷ g) = omega (arith, mul-le-mul_left l.extent h) in
    rw (
      carried_offset o x (l ∷ g) (l.extent * m + v) below,
      carried_offset o x g m h,
      offset_run (λ l. word_of 64 (l.stride o)) (l ∷ g) l.extent m v refl refl i,
      offset_behind (λ l. word_of 64 (l.stride o)) (l ∷ g) l.extent m (omega arith) refl,
    )
    (omega arith)

module _ (c : Contraction) (w : Slices) (p : AllPassed (tensors c) (lengths_in c w)) (m : ℕ) (h : m < size (outputs (shape_in c))) (o : Operand) where
  carried_out : out_word c o m ≡ word 64 ((tensors c o).base + offset_in (word_of 64) o (fold (outputs (shape_in c))) m)
  carried_out = carried_offset o (tensors c o).base (fold (outputs (shape_in c))) m (rw (fold_size (outputs (shape_in c))) h)

pub running_addresses : AddressesRun
running_addresses c w e =
    let p = accepted_parts (tensors c) (lengths_in c w) e in
    let inner = fold (group (shape_in c) depth) in
    record {
      output_d = λ m h. carried_out c w p m h D ∙ reached_out (tensors c) (lengths_in c w) p m h D (λ x e. e);
      output_c = λ m h. carried_out c w p m h C ∙ reached_out (tensors c) (lengths_in c w) p m h C (c_in_d (shape_in c) p.same);
      term = λ m h k i o.
          carried_offset o (out_word c o m) inner k (rw (fold_size (group (shape_in c) depth)) i)
          ∙ ap (λ (x : ℕ). word 64 (x + offset_in (word_of 64) o inner k)) (carried_out c w p m h o)
          ∙ reached_term (tensors c) (lengths_in c w) p m h k i o;
      runs = in_runs;
    }
