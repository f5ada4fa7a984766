-- What a library's call of a closure answers: `all` over a slice is the test at every member, and an array that a closure makes has its answer at each place.
-- Assumes nothing.
use Rattle.std.proofs.Common.{◌≡◌, Bool, List, [], ◌∷◌, refl, ◌∙◌, Bor, ℕ, zero, suc, ◌+◌, ◌<◌, get_or, sym, subst, arith, ext_get_or}
use Rattle.std.specs.List.{list_all}
use Rattle.std.specs.Fn.{Called}
use Rattle.std.specs.Iterator.{ChecksAll}
use Rattle.std.specs.Slice.Iter.{iter_rest}
use Rattle.std.specs.declared.slice.Iter.{Iter}
use Rattle.std.proofs.iter.Yields.{fronts}
use Rattle.std.proofs.lemmas.Iterator.{YieldsList-from_slice}
use Rattle.std.proofs.lemmas.Iterator.Search.{all_from_yields_List}
use denote.Param.Members.{Mut}
use Rattle.words.specs.Sums.{every}
use Rattle.std.specs.Array.{IsFromFnResultFrom, IsFromFnResult}
use Rattle.words.specs.Lists.{tabulate}
use Rattle.words.proofs.Tabulate.{length_tabulate, get_or_tabulate}

pub list_all_every : {X : Type 0} (p : X → Bool) (xs : List X) → list_all p xs ≡ every p xs
list_all_every p [] = refl
list_all_every p (x ∷ xs) = rw (list_all_every p xs)

pub slice_all : {A F : Type 0} {g : Mut F (Bor A × Unit {0}) Bool} {s u : Iter A} {f : F} {r : Bool} {xs : List A} (p : A → Bool) → ChecksAll fronts g s f r u → iter_rest s ≡ xs
    → ((x : Bor A) (b : Bool) (q : F) → Called g f (x, tt) b q → (q ≡ f) × (b ≡ p x.now)) → r ≡ every p xs
slice_all {xs = xs} p ran e k = all_from_yields_List p _ _ _ ran (YieldsList-from_slice xs e) k ∙ list_all_every p xs

-- the closure keeps its captures and answers v k at the place k
module _ {F B : Type 0} (g : Mut F (ℕ × Unit {0}) B) (f : F) (v : ℕ → B) (made : (k : ℕ) (y : B) (q : F) → Called g f (k, tt) y q → (q ≡ f) × (y ≡ v k)) where
  from_fn_each : (ys : List B) (i n : ℕ) → IsFromFnResultFrom g f ys i n → (k j : ℕ) (d : B) → k < n → i + k ≡ j → get_or ys j d ≡ v j
  from_fn_each ys i zero h k j d l e = absurd (omega arith)
  from_fn_each ys i (suc n) h zero j d l e = let z : j ≡ i = omega arith in rw z (h.2.1 d ∙ (made i h.1 h.0 h.3).1)
  from_fn_each ys i (suc n) h (suc k) j d l e =
      from_fn_each ys (i + 1) n (subst (λ (q : F). IsFromFnResultFrom g q ys (i + 1) n) (made i h.1 h.0 h.3).0 h.4) k j d (omega arith) (omega arith)

  tabulated : {ys : List B} {n : ℕ} → IsFromFnResult g f ys n → ys ≡ tabulate n v
  tabulated {ys} {n} h =
      ext_get_or (v 0) ys (tabulate n v) (h.long ∙ sym (length_tabulate n v))
      (λ k l. let b : k < n = omega (arith, h.long) in from_fn_each ys 0 n h.each k k (v 0) b (omega arith) ∙ sym (get_or_tabulate n v k (v 0) b))

pub from_fn_tabulate : {F B : Type 0} {g : Mut F (ℕ × Unit {0}) B} {f : F} {ys : List B} {n : ℕ} (v : ℕ → B) → IsFromFnResult g f ys n
    → ((k : ℕ) (y : B) (q : F) → Called g f (k, tt) y q → (q ≡ f) × (y ≡ v k)) → ys ≡ tabulate n v
from_fn_tabulate {g = g} {f = f} v h made = tabulated g f v made h
