-- Zeros filled in a row.
-- Assumes nothing.
use Rattle.std.proofs.Common.{◌≡◌, ℕ, ◌+◌, ◌≤◌, List, length, take, drop, replicate, ◌∙◌, ap, arith, length-take, length-drop}
use Rattle.std.proofs.lemmas.List.{get_or-replicate, length-replicate}
use borrow.Rule.Slice.PartMut.{put_mid}
use Rattle.words.specs.Fronts.{stored}
use Rattle.lane_words.proofs.Middle.{stored_mid}

pub zeros_stored : (n to : ℕ) (xs : List ℕ) {ys : List ℕ} {m : ℕ} → m ≡ n → to + n ≤ length xs → ys ≡ replicate (length (take m (drop to xs))) 0 → put_mid to m xs ys ≡ stored n (λ r. 0) to xs
zeros_stored n to xs {ys} {m} e h z =
    let long : length (take m (drop to xs)) ≡ n = simp (length-take, length-drop) (omega arith) in
    let is : ys ≡ replicate n 0 = z ∙ ap (λ (k : ℕ). replicate k 0) long in
    stored_mid n (λ r. 0) to xs ys e h (rw is (length-replicate n 0)) (λ k b. rw is (get_or-replicate n k 0 0 b))
