-- `start_from_c` meets its contract: it copies just where C is named and the panel is the first.
-- Assumes nothing.
use mathlib.Core.Path.{◌≡◌, refl}
use mathlib.Core.List.{List}
use Prim.Native.Nat.{ℕ}
use denote.Ref.{Bor}
use borrow.Author.Tests.{eq-eqb}
use Rattle.std.specs.Prelude.{Option, Some, None, is_some}
use Rattle.std.proofs.lemmas.Bool.{ne_eqb}
use Rattle.plan.specs.declared.plan.Plan.{Plan}
use Rattle.tiles.specs.declared.grid.Tile.{Tile}
use Rattle.tiles.specs.Cut.{Cut}
use Rattle.tiles.specs.Grid.{cut_in}
use Rattle.phases.specs.Phases.{words_of_c, from_c, begun}
use Rattle.phases.proofs.phases.start_from_c.Goals as goal

-- what the tile finds, by the tests
module _ (p : Plan) (G : Cut) (x : Tile) {c : Option (Bor (List ℕ))} (d : List ℕ) {r : List ℕ} where
  put_there : {words : Bor (List ℕ)} → c ≡ Some words → x.panel ≡ 0 → r ≡ from_c p G x words.now d → r ≡ begun p G x (is_some c) (words_of_c c) d
  put_there e z q = rw (e, eq-eqb x.panel 0 z) q

  as_it_was : {words : Bor (List ℕ)} → c ≡ Some words → (x.panel ≡ 0 → ⊥) → r ≡ d → r ≡ begun p G x (is_some c) (words_of_c c) d
  as_it_was e z q = rw (e, ne_eqb x.panel 0 z) q

  not_named : c ≡ None → r ≡ d → r ≡ begun p G x (is_some c) (words_of_c c) d
  not_named e q = rw e q

pub copy_c-requires : goal.copy_c-requires
copy_c-requires c =
    let q = c.requires in
    (q.0, (rw c.in-Some.is at q.1) refl, q.2)

pub returns-then-t-eq0 : goal.returns-then-t-eq0
returns-then-t-eq0 c =
    let s = c.args in
    put_there s.t.plan.now (cut_in s.t.grid.now) s.t.at s.d.now c.in-Some.is c.if-t-eq0.true c.copy_c.ensures

pub returns-else-t-eq0 : goal.returns-else-t-eq0
returns-else-t-eq0 c =
    let s = c.args in
    as_it_was s.t.plan.now (cut_in s.t.grid.now) s.t.at s.d.now c.in-Some.is c.if-t-eq0.false refl

pub returns-in_default : goal.returns-in_default
returns-in_default c =
    let s = c.args in
    not_named s.t.plan.now (cut_in s.t.grid.now) s.t.at s.d.now c.in_default.is refl
