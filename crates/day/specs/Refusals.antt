-- The number and the place of each refusal, as the table has them.
use Rattle.std.specs.Prelude.{ℕ, List, ◌++◌, codes}
use Rattle.std.specs.Fmt.{decimal}
use Rattle.day.specs.declared.refusal.Refusal.{Refusal}
use Rattle.day.specs.declared.refusal.Refusal.TheVariants as refusal

abbrev pub number_of : Refusal → ℕ
number_of refusal.Width = 1
number_of refusal.Rows = 2
number_of refusal.Stops = 3
number_of refusal.Asker = 4
number_of refusal.Interval = 5
number_of (refusal.Row place) = 6
number_of refusal.Named = 7
number_of refusal.Pivots = 8
number_of (refusal.Pivot place) = 9
number_of refusal.Room = 10
number_of (refusal.Owner place) = 11
number_of refusal.Unrouted = 12

-- 0 except for 6, 9 and 11
abbrev pub place_of : Refusal → ℕ
place_of refusal.Width = 0
place_of refusal.Rows = 0
place_of refusal.Stops = 0
place_of refusal.Asker = 0
place_of refusal.Interval = 0
place_of (refusal.Row place) = place
place_of refusal.Named = 0
place_of refusal.Pivots = 0
place_of (refusal.Pivot place) = place
place_of refusal.Room = 0
place_of (refusal.Owner place) = place
place_of refusal.Unrouted = 0

-- as the figures program writes it
abbrev pub refusal_text : Refusal → List ℕ
refusal_text r = codes "refused " ++ (decimal (number_of r) ++ (codes " " ++ decimal (place_of r)))
