-- `put_words` meets its contract. The invariant: the lines of the words so far are put, and they take at most 13 bytes each.
use mathlib.Core.Path.{◌≡◌, refl, ◌∙◌}
use mathlib.Core.List.{List, [], ◌∷◌, ◌++◌}
use Prim.Native.Nat.{ℕ, suc, ◌≤◌}
use native.Mathlib.Numerals.{add-one}
use native.Mathlib.Omega.{arith}
use borrow.Author.Rules.{rules}
use lib.ListN.{length, get_or, length-append}
use Rattle.std.proofs.lemmas.Slice.Zip.{zip_turn}
use Rattle.report.specs.Text.{word_line, word_lines}
use Rattle.report.specs.Written.{Put}
use Rattle.report.proofs.Written.{put_more, put_none}
use Rattle.report.proofs.Decimal.{length_word}
use Rattle.report.proofs.report.put_words.Goals as goal

-- no line yet, and one more
at_first : (out : List ℕ) (at : ℕ) (words letters : List ℕ) → Put out at (word_lines words letters 0) at out
unfolding word_lines
at_first out at words letters = put_none out at

turn : (out : List ℕ) (at : ℕ) (words letters : List ℕ) (k : ℕ) {word letter mid end : ℕ} {between now : List ℕ} → at ≤ length out
    → word ≡ get_or words k 0 → letter ≡ get_or letters k 0
    → Put out at (word_lines words letters k) mid between → Put between mid (word_line word letter) end now
    → Put out at (word_lines words letters (suc k)) end now
unfolding word_lines
turn out at words letters k h ew el p q = put_more out at (word_lines words letters k) (word_line (get_or words k 0) (get_or letters k 0)) h p (rw (ew, el) at q)

pub loop-word-init : goal.loop-word-init
loop-word-init c =
    let s = c.args in
    ((tt, tt), tt, omega arith, refl, at_first s.out.now s.at s.words.now s.letters.now)

pub loop-word-preserved : goal.loop-word-preserved
loop-word-preserved c =
    let s = c.args in
    let l = c.loop-word in
    let put = c.put_word-end in
    let word = c.in-Some.word in
    let letter = c.in-Some.letter in
    let at = zip_turn s.words.now s.letters.now l.yielded c.into_iter-word-iterator.result l.word-iterator c.next.new.self c.next.result (search rules) (search rules) l.yielded_by (word, letter) c.in-Some.is c.next.ensures.steps in
    let more : length (l.yielded ++ (word, letter) ∷ []) ≡ suc (length l.yielded) = length-append l.yielded _ ∙ add-one _ in
    let bound = c.type_inv.words (length l.yielded) in
    rw more (
      (tt, tt),
      tt,
      omega (arith, put.ensures.0, length_word word.now letter.now (omega (arith, bound, at.2 0))),
      put.auto.out ∙ l.invariant.3,
      turn s.out.now s.at s.words.now s.letters.now (length l.yielded) (omega arith) (at.2 0) (at.3 0) l.invariant.4 put.ensures,
    )
