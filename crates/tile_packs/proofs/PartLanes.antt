-- Lanes stored in the part of a list behind a place are lanes of the list from that place on.
-- Assumes nothing.
use mathlib.Core.Path.{◌≡◌, refl, ap, sym, ◌∙◌}
use mathlib.Core.List.{List, [], ◌∷◌, ◌++◌, append-nil}
use Prim.Native.Nat.{ℕ, ◌+◌, ◌-◌, ◌*◌, ◌≤◌}
use native.Mathlib.Nat.{zero-add, suc-add}
use native.Mathlib.Omega.{arith}
use lib.ListN.{length, set, take, drop, length-take, length-drop, take-append-drop, drop_of_length-le}
use lib.Seq.{take_all}
use borrow.Rule.Slice.PartMut.{mid_of, put_mid}
use Rattle.words.specs.Loops.{put}
use Rattle.words.specs.Fronts.{stored}
use Rattle.words.proofs.Loops.{each_relates}
use Rattle.stretch.specs.StretchLanes.{lanes_stored}

-- behind p
set_behind : (p xs : List ℕ) (i v : ℕ) → set (p ++ xs) (length p + i) v ≡ p ++ set xs i v
set_behind [] xs i v = rw (zero-add i)
set_behind (y ∷ p) xs i v = rw (suc-add (length p) i) (ap (λ (l : List ℕ). y ∷ l) (set_behind p xs i v))

stored_behind : (p xs : List ℕ) (n : ℕ) (v : ℕ → ℕ) (to : ℕ) → stored n v (length p + to) (p ++ xs) ≡ p ++ stored n v to xs
unfolding stored put
stored_behind p xs n v to =
    each_relates (λ s s'. s ≡ p ++ s') (λ r s. set s (length p + to + r) (v r)) (λ r s. set s (to + r) (v r)) n
    (λ r h s s' e. ap (λ (l : List ℕ). set l (length p + to + r) (v r)) e ∙ ap (λ (x : ℕ). set (p ++ s') x (v r)) (omega arith) ∙ set_behind p s' (to + r) (v r))
    (p ++ xs) xs refl

lanes_behind : (p xs : List ℕ) (width m n : ℕ) (v : ℕ → ℕ → ℕ) → lanes_stored m n width v (length p) (p ++ xs) ≡ p ++ lanes_stored m n width v 0 xs
lanes_behind p xs width m n v =
    each_relates (λ s s'. s ≡ p ++ s') (λ q. stored n (v q) (length p + width * q)) (λ q. stored n (v q) (0 + width * q)) m
    (λ q h s s' e. ap (stored n (v q) (length p + width * q)) e ∙ stored_behind p s' n (v q) (width * q) ∙ ap (λ (x : ℕ). p ++ stored n (v q) x s') (omega arith))
    (p ++ xs) xs refl

-- the part from a on, put back
pub part_lanes : (a : ℕ) (ys : List ℕ) {part : List ℕ} (width m n : ℕ) (v : ℕ → ℕ → ℕ) → a ≤ length ys
    → part ≡ lanes_stored m n width v 0 (mid_of a (length ys - a) ys) → put_mid a (length ys - a) ys part ≡ lanes_stored m n width v a ys
part_lanes a ys {part} width m n v h q =
    let k = length ys - a in
    let whole : take k (drop a ys) ≡ drop a ys = take_all k (drop a ys) (omega (arith, length-drop a ys)) in
    let none : drop k (drop a ys) ≡ [] = drop_of_length-le (drop a ys) {i = k} (omega (arith, length-drop a ys)) in
    let size : length (take a ys) ≡ a = simp length-take (omega arith) in
    rw (q, whole, none)
    (ap (λ (l : List ℕ). take a ys ++ l) (append-nil (lanes_stored m n width v 0 (drop a ys)))
    ∙ sym (lanes_behind (take a ys) (drop a ys) width m n v)
    ∙ ap (λ (x : ℕ). lanes_stored m n width v x (take a ys ++ drop a ys)) size
    ∙ ap (lanes_stored m n width v a) (take-append-drop a ys))
