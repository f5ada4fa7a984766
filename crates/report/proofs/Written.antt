-- Laws of a text put over lent bytes: putting one after another is putting both at once, since each leaves the bytes before and after it.
-- Assumes nothing.
use mathlib.Core.Path.{◌≡◌, refl, sym, ◌∙◌}
use mathlib.Core.List.{List, [], ◌∷◌, ◌++◌, append_assoc}
use Prim.Native.Nat.{ℕ, ◌+◌, ◌≤◌, ◌<◌}
use native.Mathlib.Nat.{add-zero, add_assoc}
use native.Mathlib.Numerals.{add-one}
use native.Mathlib.Omega.{arith}
use lib.ListN.{length, take, drop, set, length-append, length-take, length-drop, take-append-drop}
use lib.Seq.{set_split, take_at, drop_at, drop-drop}
use Rattle.report.specs.Written.{written, Put, Begins}

-- a text that keeps the length, from the start, has room
pub written_room : (out text : List ℕ) → length (written out 0 text) ≡ length out → length text ≤ length out
written_room out text e = omega (arith, simp (length-append, length-drop) at e)

pub written_none : (out : List ℕ) (at : ℕ) → written out at [] ≡ out
written_none out at = rw add-zero (take-append-drop at out)

-- one text after another
pub written_more : (out : List ℕ) (at : ℕ) (s t : List ℕ) → at ≤ length out → written (written out at s) (at + length s) t ≡ written out at (s ++ t)
written_more out at s t h =
    let p : List ℕ = take at out ++ s in
    let r : List ℕ = drop (at + length s) out in
    let l : length p ≡ at + length s = simp (length-append, length-take) (omega arith) in
    let e : drop (at + length s + length t) (p ++ r) ≡ drop (at + length s + length t) out =
    rw (← drop-drop (length t) (at + length s) (p ++ r), drop_at p r (at + length s) l) (drop-drop (length t) (at + length s) out) in
    rw (← append_assoc (take at out) s r, take_at p r (at + length s) l, e, length-append s t, ← add_assoc at (length s) (length t)) (simp append_assoc)

-- one more text
pub put_more : (out : List ℕ) (at : ℕ) (s t : List ℕ) {mid end : ℕ} {between now : List ℕ} → at ≤ length out
    → Put out at s mid between → Put between mid t end now → Put out at (s ++ t) end now
put_more out at s t {mid} {end} {between} {now} h p q =
    (simp length-append (omega arith), q.1 ∙ rw (p.0, p.1) (written_more out at s t h))

-- one more byte
pub put_byte : (out : List ℕ) (at : ℕ) (s : List ℕ) (v : ℕ) {mid : ℕ} {between : List ℕ} → at ≤ length out → mid < length between
    → Put out at s mid between → Put out at (s ++ v ∷ []) (mid + 1) (set between mid v)
put_byte out at s v {mid} {between} h room p = put_more out at s (v ∷ []) h p (refl, rw (add-one mid) (set_split between mid v room))

-- a text from the start ends at its length, and the other way round
pub put_whole : (out text : List ℕ) {end : ℕ} {now : List ℕ} → Put out 0 text end now → Begins out text end now
put_whole out text p = (omega arith, p.1)

pub put_start : (out text : List ℕ) {end : ℕ} {now : List ℕ} → Begins out text end now → Put out 0 text end now
put_start out text p = (omega arith, p.1)

-- no text yet
pub put_none : (out : List ℕ) (at : ℕ) → Put out at [] at out
put_none out at = (omega arith, sym (written_none out at))

-- the same text in other words
pub put_as : (out : List ℕ) {r : ℕ} {out' text text' : List ℕ} → text ≡ text' → Begins out text r out' → Begins out text' r out'
put_as out e p = rw e at p
