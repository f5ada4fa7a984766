-- `fold_into` meets its contract. The loop goes from the first letter to the last, as `join_from` goes along the labels; its invariant: the labels folded so
-- far and those of the letters that the set has among those that are left fold to what those of all letters that it has fold to, and no more than the letters
-- done are folded so far.
-- Assumes nothing.
use Rattle.std.proofs.Common.{◌≡◌, ℕ, ◌+◌, ◌<◌, Bool, true, false, List, [], ◌∷◌, map, length, get_or, drop, sym, ap, ◌∙◌, subst, arith, add-one, drop-cons}
use lib.Seq.{drop-length}
use Rattle.words.specs.Lists.{keep, cons_if}
use Rattle.labels.specs.Labels.{labels}
use Rattle.labels.specs.LetterSets.{has, spelled}
use Rattle.contraction.specs.declared.operands.Operands.{Operands}
use Rattle.contraction.specs.Operands.{together}
use Rattle.contraction.specs.TensorAxes.{shape_of}
use Rattle.groups.specs.declared.groups.Dim.{Dim}
use Rattle.groups.specs.declared.groups.Group.{Group}
use Rattle.groups.specs.Groups.{Label, label, labels_where}
use Rattle.groups.specs.Held.{as_label, labels_in}
use Rattle.folding.specs.Fold.{add_to}
use Rattle.folding.proofs.Folding.{Folding, fold_start, fold_skip, fold_add, fold_end}
use Rattle.folding.proofs.fold.fold_into.Invariants.{rest}
use Rattle.folding.proofs.fold.fold_into.Goals as goal
use Rattle.folding.proofs.fold.fold_into.Goals.{then-has_letter+then-l-ne1, then-has_letter+else-l-ne1, else-has_letter}

-- a turn of the loop: the label of the letter at place i is added, or left out
module _ (f : ℕ → Label) (p : ℕ → Bool) (cs : List ℕ) (i : ℕ) {done all : List Label} (h : i < length cs) (g : Folding done (rest f p cs i) all) where
  abbrev here : ℕ
  here = get_or cs i 0

  abbrev left : List Label
  left = rest f p cs (i + 1)

  told : (b : Bool) → p here ≡ b → Folding done (map f (cons_if b here (keep p (drop (i + 1) cs)))) all
  told b e =
      subst (λ (b : Bool). Folding done (map f (cons_if b here (keep p (drop (i + 1) cs)))) all) e
      (subst (λ (xs : List ℕ). Folding done (map f (keep p xs)) all) (drop-cons cs i 0 h ∙ ap (λ (k : ℕ). here ∷ drop k cs) (sym (add-one i))) g)

  -- the code's label of a letter that the test keeps
  module _ (l : Dim) (m : as_label l ≡ f here) (e : p here ≡ true) where
    kept : Folding done (as_label l ∷ left) all
    kept = subst (λ (k : Label). Folding done (k ∷ left) all) (sym m) (told true e)

    turn_skip : l.extent ≡ 1 → Folding done left all
    turn_skip = fold_skip done left all (as_label l) kept

    turn_add : (l.extent ≡ 1 → ⊥) → Folding (add_to done (as_label l)) left all
    turn_add = fold_add done left all (as_label l) kept

-- a group without labels
no_labels : (g : Group) → g.count ≡ 0 → labels_in g ≡ []
unfolding labels_in
no_labels g e = rw e

-- the code's list has all letters
letters_are : (x : Operands) {cs : List ℕ} → cs ≡ spelled x.letters → cs ≡ labels (together (shape_of x))
letters_are x e = e ∙ x.gathered.all.spells

-- the labels of all letters that the set has
all_letters : (x : Operands) {cs : List ℕ} → cs ≡ spelled x.letters → (p : ℕ → Bool) → rest (label (shape_of x)) p cs 0 ≡ labels_where (shape_of x) p
all_letters x e p = ap (λ cs. map (label (shape_of x)) (keep p cs)) (letters_are x e)

-- the set has the letter at a place where the test of the letter that is read there says so
kept_letter : (set : ℕ) {c here : ℕ} {b v : Bool} → c ≡ here → b ≡ has set c → b ≡ v → has set here ≡ v
kept_letter set e f g = ap (has set) (sym e) ∙ sym f ∙ g

pub loop-c-init : goal.loop-c-init
loop-c-init c =
    let x = c.args.x.now in
    (omega arith, rw (no_labels c.args.out.now c.requires.0, all_letters x c.as_slice-letters.ensures (has c.args.set)) (fold_start _ c.requires.2))

pub add-requires : goal.add-requires
add-requires c =
    let l = c.loop-c in
    let x = c.args.x.now in
    let cs = c.as_slice-letters.result.now in
    let few = ap length (letters_are x c.as_slice-letters.ensures) in (
      omega (arith, l.invariant.0, few, c.requires.1),
      l.invariant.1.foldable,
      (turn_add (label (shape_of x)) (has c.args.set) cs l.c-index (omega arith) l.invariant.1 c.dim_of-l.result (c.dim_of-l.ensures ∙ ap (label (shape_of x)) c.wide-c.ensures)
          (kept_letter c.args.set c.wide-c.ensures c.has_letter.ensures c.if-has_letter.true) c.if-l-ne1.true).foldable,
    )

pub loop-c-preserved : goal.loop-c-preserved
loop-c-preserved c =
    let h = c.has_letter.ensures in
    let v = c.wide-c.ensures in
    let l = c.loop-c in
    let f = label (shape_of c.args.x.now) in
    let p = has c.args.set in
    let cs = c.as_slice-letters.result.now in
    elim c.if-has_letter.branch [
      | then-has_letter+then-l-ne1 w ↦ (
        rw w.out-is (omega (arith, w.add.ensures.1, l.invariant.0)),
        rw (w.out-is, w.add.ensures.0) (turn_add f p cs l.c-index (omega arith) l.invariant.1 w.dim_of-l.result (w.dim_of-l.ensures ∙ ap f v)
            (kept_letter c.args.set v h w.if-has_letter.true) w.if-l-ne1.true),
      )
      | then-has_letter+else-l-ne1 w ↦ (
        rw w.out-is (omega (arith, l.invariant.0)),
        rw w.out-is (turn_skip f p cs l.c-index (omega arith) l.invariant.1 w.dim_of-l.result (w.dim_of-l.ensures ∙ ap f v)
            (kept_letter c.args.set v h w.if-has_letter.true) w.if-l-ne1.false),
      )
      | else-has_letter w ↦ (
        rw w.out-is (omega (arith, l.invariant.0)),
        rw w.out-is (told f p cs l.c-index (omega arith) l.invariant.1 false (kept_letter c.args.set v h w.if-has_letter.false)),
      )
    ]

pub returns : goal.returns
returns c =
    let l = c.loop-c in
    let x = c.args.x.now in
    let cs = c.as_slice-letters.result.now in
    let few = ap length (letters_are x c.as_slice-letters.ensures) in
    let e : l.c-index ≡ length cs = omega arith in
    (fold_end (labels_in l.out) (labels_where (shape_of x) (has c.args.set)) (rw (e, drop-length cs) at l.invariant.1), omega (arith, l.invariant.0, few, c.requires.1))
