-- `FirstLabel::of` meets its contract: with no label the group has one count, else it is the first, and one more of it moves by its strides.
-- Assumes nothing.
use Rattle.std.proofs.Common.{◌≡◌, ℕ, zero, suc, ◌-◌, ◌*◌, ◌^◌, ◌<◌, Bool, true, false, cond, ltb, List, [], ◌∷◌, map, get_or, drop, pos, negsuc, sym, refl, ap, ◌∙◌, arith, ltb-true}
use Rattle.words.specs.Words.{word, word_of, signed}
use Rattle.words.specs.Lists.{first_of}
use Rattle.contraction.specs.TensorPlaces.{by_tensor}
use Rattle.groups.specs.declared.groups.Dim.{Dim}
use Rattle.groups.specs.declared.groups.Group.{Group}
use Rattle.groups.specs.Groups.{Label}
use Rattle.groups.specs.Held.{as_label, no_dim, labels_in}
use Rattle.offsets.specs.declared.offsets.Offsets.{Offsets}
use Rattle.offsets.specs.Offsets.{Words}
use Rattle.offsets.specs.FirstLabel.{first_label}
use Rattle.counts.specs.FirstLabelOf.{FirstLabelOf}
use Rattle.counts.proofs.first_label.FirstLabel.of.Goals as goal

no_label : (g : Group) → g.count ≡ 0 → labels_in g ≡ []
unfolding labels_in
no_label g e = rw e

first : (g : Group) → 0 < g.count → labels_in g ≡ as_label (get_or g.dims 0 no_dim) ∷ drop 1 (labels_in g)
unfolding labels_in
first g h = go g.count h
  where
    go : (n : ℕ) → 0 < n → map as_label (first_of n no_dim g.dims) ≡ as_label (get_or g.dims 0 no_dim) ∷ drop 1 (map as_label (first_of n no_dim g.dims))
    go zero p = absurd (omega arith)
    go (suc n) p = refl

-- no label: one count
still : (g : Group) (s : Offsets) → g.count ≡ 0 → Words s (λ o. 0) → FirstLabelOf (labels_in g) (record { step = s; len = 1 })
still g s z w = record { len = rw (no_label g z); step = λ o. rw (no_label g z) (w.each o) }

-- what an address word reads as is one again
once : (x : ℕ) → word 64 (1 * word_of 64 (signed 64 x)) ≡ word_of 64 (signed 64 x)
once x = go (ltb x (2 ^ 63)) refl
  where
    go : (b : Bool) → ltb x (2 ^ 63) ≡ b → word 64 (1 * word_of 64 (cond b (pos x) (negsuc ((2 ^ 64 - 1) - x)))) ≡ word_of 64 (cond b (pos x) (negsuc ((2 ^ 64 - 1) - x)))
    go true e = omega (arith, ltb-true x (2 ^ 63) e)
    go false e = omega arith

-- a first label l
along : (g : List Label) (l : Dim) (s : Offsets) → g ≡ as_label l ∷ drop 1 g → Words s (λ o. 1 * word_of 64 ((as_label l).stride o))
    → FirstLabelOf g (record { step = s; len = l.extent })
along g l s e w =
    record {
      len = sym (ap (λ (x : List Label). (first_label x).extent) e);
      step = λ o. w.each o ∙ once (by_tensor l.strides o) ∙ sym (ap (λ (x : List Label). word_of 64 ((first_label x).stride o)) e);
    }

pub none-still-requires : goal.none-still-requires
none-still-requires c = tt

pub returns-then-g-eq0 : goal.returns-then-g-eq0
returns-then-g-eq0 c = still c.args.g.now c.none-still.result (omega arith) c.none-still.ensures

pub along-step-requires : goal.along-step-requires
along-step-requires c = tt

pub returns : goal.returns
returns c =
    let n : 0 < c.args.g.now.count = omega arith in
    along (labels_in c.args.g.now) (get_or c.args.g.now.dims 0 no_dim) c.along-step.result (first c.args.g.now n) c.along-step.ensures
