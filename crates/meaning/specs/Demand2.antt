-- Demand 2: what D's words are after a contraction that questions 1 to 9 accept; and what that comes to where the depth group or D is empty.
-- Assumes nothing.
use Rattle.std.specs.Prelude.{ℕ, ◌*◌, ◌≡◌, false, List, ◌≢◌, length, get_or}
use Rattle.words.specs.Words.{word}
use Rattle.layout.specs.Layout.{axes, address}
use Rattle.entries.specs.EntryQuestions.{has_entries}
use Rattle.entries.specs.Bounds.{InRange}
use Rattle.contraction.specs.declared.contraction.Contraction.{Contraction}
use Rattle.contraction.specs.Operands.{named, tensors}
use Rattle.contraction.specs.declared.contraction.Operand.TheVariants.{C, D}
use Rattle.groups.specs.Groups.{depth, group, size}
use Rattle.meaning.specs.Meaning.{Slices, shape_in, first_no, start_of, entry, value, result}

-- of D's words afterwards: each word that D's layout addresses is the value at its index, every other word has its old value
pub record Demand2 (c : Contraction) (w : Slices) (after : List ℕ) : Type 0 where
  pub addressed : (ρ : ℕ → ℕ) → InRange (axes (tensors c D)) ρ → get_or after (address (tensors c D) ρ) 0 ≡ value c w ρ
  pub others : (p : ℕ) → ((ρ : ℕ → ℕ) → InRange (axes (tensors c D)) ρ → address (tensors c D) ρ ≢ p) → get_or after p 0 ≡ get_or (w D) p 0
  pub same_length : length after ≡ length (w D)

-- for every contraction and all slices that questions 1 to 9 pass, demand 2 holds of the result
abbrev pub ResultMeetsDemand2 : Type 0
ResultMeetsDemand2 = (c : Contraction) (w : Slices) → first_no c w ≡ 0 → Demand2 c w (result c w)

-- layers with nothing in them
pub record EmptyLayers (c : Contraction) (w : Slices) : Type 0 where
  -- "A sum over no values is 0, so D's word becomes beta × old", or beta × C's entry: with depth size 0, every word that D's layout addresses
  pub no_terms : size (group (shape_in c) depth) ≡ 0 → (ρ : ℕ → ℕ) → InRange (axes (tensors c D)) ρ
      → get_or (result c w) (address (tensors c D) ρ) 0 ≡ word 32 (c.beta * start_of (named c) (entry c w C ρ) (entry c w D ρ))
  -- "A tensor with an extent 0 has no entries": where D is such a tensor, no word changes
  pub no_outputs : has_entries (axes (tensors c D)) ≡ false → result c w ≡ w D

-- for every contraction and all slices that questions 1 to 9 pass
abbrev pub EmptyLayersHold : Type 0
EmptyLayersHold = (c : Contraction) (w : Slices) → first_no c w ≡ 0 → EmptyLayers c w
