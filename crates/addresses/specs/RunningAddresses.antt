-- Running addresses: at every index the address that is carried along is the one that the tensor's layout gives.
-- Assumes nothing.
use Rattle.std.specs.Prelude.{ℕ, ◌+◌, ◌*◌, ◌<◌, ◌≡◌, List, ◌∷◌}
use Rattle.words.specs.Words.{word, word_of}
use Rattle.layout.specs.Layout.{address}
use Rattle.contraction.specs.declared.contraction.Contraction.{Contraction}
use Rattle.contraction.specs.Operands.{tensors}
use Rattle.contraction.specs.declared.contraction.Operand.{Operand}
use Rattle.contraction.specs.declared.contraction.Operand.TheVariants.{C, D}
use Rattle.groups.specs.Groups.{Label, depth, group, outputs, size}
use Rattle.odometer.specs.Carried.{carried}
use Rattle.folding.specs.Fold.{fold}
use Rattle.meaning.specs.Index.{at, out_index}
use Rattle.meaning.specs.Meaning.{Slices, first_no, shape_in}

-- the engine's two loops over a first label l and those behind it, g: along a run of l the word goes up by its stride, and from run to run it is carried by g
abbrev pub in_run : Operand → ℕ → Label → List Label → ℕ → ℕ → ℕ
in_run o x l g m v = word 64 (carried o x g m + v * word_of 64 (l.stride o))

module _ (c : Contraction) where
  -- the word of a tensor at an output count, and from there at a depth count, carried along the folded labels
  abbrev pub out_word : Operand → ℕ → ℕ
  out_word o m = carried o (tensors c o).base (fold (outputs (shape_in c))) m

  abbrev pub term_word : Operand → ℕ → ℕ → ℕ
  term_word o m k = carried o (out_word o m) (fold (group (shape_in c) depth)) k

  pub record RunningAddresses : Type 0 where
    -- D's address, and C's: where C is not named, D's layout stands for it
    pub output_d : (m : ℕ) → m < size (outputs (shape_in c)) → out_word D m ≡ address (tensors c D) (out_index (shape_in c) m)
    pub output_c : (m : ℕ) → m < size (outputs (shape_in c)) → out_word C m ≡ address (tensors c C) (out_index (shape_in c) m)
    -- every tensor's, at every term of an output's sum
    pub term : (m : ℕ) → m < size (outputs (shape_in c)) → (k : ℕ) → k < size (group (shape_in c) depth) → (o : Operand)
        → term_word o m k ≡ address (tensors c o) (at (group (shape_in c) depth) k (out_index (shape_in c) m))
    -- the two loops carry the word of the same count: v counts into run m
    pub runs : (o : Operand) (x : ℕ) (l : Label) (g : List Label) (m v : ℕ) → m < size g → v < l.extent
        → in_run o x l g m v ≡ carried o x (l ∷ g) (l.extent * m + v)

-- for every contraction and all slices that questions 1 to 9 pass
abbrev pub AddressesRun : Type 0
AddressesRun = (c : Contraction) (w : Slices) → first_no c w ≡ 0 → RunningAddresses c
