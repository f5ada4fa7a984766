-- Words stored in a row are the middle of a list put in anew.
-- Assumes nothing.
use Rattle.std.proofs.Common.{◌≡◌, ℕ, zero, suc, ◌+◌, ◌-◌, ◌<◌, ◌≤◌, List, length, get_or, take, drop, length-take, length-drop, set, sym, refl, ap, ◌∙◌, append-nil, add-zero, arith, take-append-drop}
use Rattle.std.proofs.lemmas.Slice.{put_mid-paste}
use borrow.Rule.Slice.PartMut.{put_mid}
use lib.Seq.{paste, paste-suc}
use Rattle.words.specs.Loops.{each, put}
use Rattle.words.specs.Fronts.{stored}

-- n words from `to` on
pub long_mid : (to n : ℕ) (xs : List ℕ) → to + n ≤ length xs → length (take (to + n - to) (drop to xs)) ≡ n
long_mid to n xs h = simp (length-take, length-drop) (omega arith)

-- the first i words of ys stored from `to` on
stored_paste : (i : ℕ) (v : ℕ → ℕ) (to : ℕ) (xs ys : List ℕ) → to + i ≤ length xs → i ≤ length ys → ((k : ℕ) → k < i → get_or ys k 0 ≡ v k) → stored i v to xs ≡ paste xs to ys i
unfolding stored each put
stored_paste zero v to xs ys h k e = rw (add-zero to, append-nil (take to xs)) (sym (take-append-drop to xs))
stored_paste (suc i) v to xs ys h k e =
    ap (λ (l : List ℕ). set l (to + i) (v i)) (stored_paste i v to xs ys (omega arith) (omega arith) (λ j b. e j (omega arith)))
    ∙ ap (λ (w : ℕ). set (paste xs to ys i) (to + i) w) (sym (e i (omega arith)))
    ∙ paste-suc xs to ys i 0 (omega arith) (omega arith)

-- `out[to..to + n]` written whole
pub stored_mid : (n : ℕ) (v : ℕ → ℕ) (to : ℕ) (xs ys : List ℕ) {m : ℕ} → m ≡ n → to + n ≤ length xs → length ys ≡ n → ((k : ℕ) → k < n → get_or ys k 0 ≡ v k)
    → put_mid to m xs ys ≡ stored n v to xs
stored_mid n v to xs ys e h k f = put_mid-paste to _ xs ys ys n refl (sym e) (sym k) ∙ sym (stored_paste n v to xs ys h (omega arith) f)
