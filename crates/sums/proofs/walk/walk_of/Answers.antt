-- `walk_of` meets its contract: a run is the first label's, and the size of the other labels is the number of runs. With no label there is one run of one
-- count, and with a first label of extent 0 none.
-- Assumes nothing.
use Rattle.std.proofs.Common.{◌≡◌, ℕ, ◌*◌, ◌<◌, ◌≤◌, [], drop, sym, refl, ap, ◌∙◌, zero-mul, arith}
use denote.Ref.{Bor}
use Rattle.limits.specs.Limits.{labels_limit}
use Rattle.groups.specs.declared.groups.Group.{Group}
use Rattle.groups.specs.Groups.{size}
use Rattle.groups.specs.Held.{labels_in}
use Rattle.groups.specs.Foldable.{Foldable}
use Rattle.groups.proofs.Points.{size_points}
use Rattle.offsets.proofs.Runs.{size_behind}
use Rattle.counts.specs.declared.first_label.FirstLabel.{FirstLabel}
use Rattle.counts.specs.FirstLabelOf.{FirstLabelOf}
use Rattle.sums.specs.Walk.{Walks}
use Rattle.sums.proofs.walk.walk_of.Goals as goal
use Rattle.sums.proofs.walk.walk_of.Goals.{then-empty, else-empty+then-g-eq0, else-empty+else-g-eq0}

no_label : (g : Group) → g.count ≡ 0 → labels_in g ≡ []
unfolding labels_in
no_label g e = rw e

walks : (g : Bor Group) (l : FirstLabel) (runs : ℕ) → g.now.count ≤ labels_limit → Foldable (labels_in g.now) → FirstLabelOf (labels_in g.now) l
    → l.len * runs ≡ l.len * size (drop 1 (labels_in g.now)) → (0 < runs → 0 < l.len)
    → Walks (labels_in g.now) (record { group = g; step = l.step; len = l.len; runs = runs })
walks g l runs few foldable is-first e long =
    record {
      labels = refl;
      few = few;
      small = omega (arith, size_points (labels_in g.now), foldable.points);
      len = is-first.len;
      step = is-first.step;
      counts = size_behind (labels_in g.now) ∙ ap (λ (n : ℕ). n * size (drop 1 (labels_in g.now))) (sym is-first.len) ∙ sym e;
      long = long;
    }

pub returns : goal.returns
returns c =
    let l = c.of-label in
    let g = c.args.g in
    elim c.if-empty.branch [
      | then-empty w ↦
          let z : l.result.len ≡ 0 = omega arith in
          rw w.runs-is (walks g l.result 0 c.requires.0 c.requires.1 l.ensures (rw (z, zero-mul (size (drop 1 (labels_in g.now))))) (λ h. absurd (omega arith)))
      | else-empty+then-g-eq0 w ↦ rw w.runs-is (walks g l.result 1 c.requires.0 c.requires.1 l.ensures (rw (no_label g.now w.if-g-eq0.true)) (λ h. omega arith))
      | else-empty+else-g-eq0 w ↦ rw w.runs-is (walks g l.result w.size_from.result c.requires.0 c.requires.1 l.ensures (rw w.size_from.ensures) (λ h. omega arith))
    ]
