-- Questions 8 and 9 of tensors with entries and without.
-- Assumes nothing.
use Rattle.std.specs.Prelude.{ℕ, ◌≡◌, true, false, List, [], ◌∷◌, pos, negsuc}
use Rattle.layout.specs.declared.layout.Axis.{Axis}
use Rattle.entries.specs.EntryQuestions.{inside, apart}

-- axes of the letters `i`, `j` and `k`, the first with extent 3 and stride -2, the second with extent 2 and stride 3
abbrev axes : ℕ → List Axis
axes extent =
    record { letter = 105; extent = 3; stride = negsuc 1 }
    ∷ record { letter = 106; extent = 2; stride = pos 3 }
    ∷ record { letter = 107; extent = extent; stride = pos 0 }
    ∷ []

pub record EntryCases : Type 0 where
  -- "Does every entry of A, B and D fall inside its slice? 8": the addresses go from base - 4 to base + 3
  pub all_inside : inside (axes 1) 4 8 ≡ true
  pub below_it : inside (axes 1) 3 8 ≡ false
  pub past_it : inside (axes 1) 4 7 ≡ false
  -- "A tensor with an extent 0 has no entries, passes 8 whatever its slice, and as D passes 9."
  pub none_outside : inside (axes 0) 3 0 ≡ true
  pub meet_9 : apart (axes 1) ≡ false
  pub none_meet : apart (axes 0) ≡ true
