-- The first label of a group, along which its counts go in runs. Inside contracts only.
-- Assumes nothing.
use Rattle.std.specs.Prelude.{List, [], ◌∷◌, pos}
use Rattle.groups.specs.Groups.{Label}

-- the first label of a group, or one of extent 1 where there is none
abbrev pub first_label : List Label → Label
first_label [] = record { letter = 0; extent = 1; stride = λ o. pos 0 }
first_label (l ∷ g) = l
