-- `next_eight` meets its contract: four columns are stored and then the four after them, which begin at the place that the first call gives.
-- Assumes nothing.
use mathlib.Core.Path.{◌≡◌, ap, ◌∙◌}
use mathlib.Core.List.{List}
use Prim.Native.Nat.{ℕ, ◌+◌}
use native.Mathlib.Nat.{add_assoc}
use native.Mathlib.Omega.{arith}
use Rattle.words.specs.Loops.{each}
use Rattle.words.proofs.Loops.{each_more}
use Rattle.columns.specs.LineStores.{lines_stored}
use Rattle.columns.proofs.column_stores.next_eight.Goals as goal

-- four turns and four more
four_more : (body : ℕ → List ℕ → List ℕ) (c : ℕ) (d : List ℕ) {e f : List ℕ} → e ≡ each 4 (λ q. body (c + q)) d → f ≡ each 4 (λ q. body (c + 4 + q)) e → f ≡ each 8 (λ q. body (c + q)) d
four_more body c d i j =
    j ∙ ap (each 4 (λ q. body (c + 4 + q))) i
    ∙ each_more 4 4 (λ q. body (c + q)) (λ q. body (c + 4 + q)) d (λ q h s. ap (λ (k : ℕ). body k s) (add_assoc c 4 q))

pub returns : goal.returns
returns c =
    let a = c.args in
    let r = c.next_four-middle in
    let q = c.next_four in
    let e : a.c + 4 + 4 ≡ a.c + 8 = omega arith in (
      four_more (lines_stored a.work.now a.p a.f a.t.now) a.c a.d.now r.ensures.0 q.ensures.0,
      rw e at q.ensures.1,
    )
