-- What the contracts of `clock` cite: a reading plus a length is a reading, a reading less a reading is a length.
use Rattle.std.specs.Prelude.{ℕ, ◌-◌, cond, leb, Option, Some, None}
use Rattle.rules.specs.Clock.{horizon}
use Rattle.clock.specs.declared.Reading.{Reading}
use Rattle.clock.specs.declared.Length.{Length}

-- the reading at x seconds, if it is not past the horizon
abbrev pub made_of : (x : ℕ) → Option Reading
made_of x = cond (leb x horizon) (Some (record { 0 = x })) None

-- the length from one reading to a later
abbrev pub gap_of : (later earlier : ℕ) → Option Length
gap_of later earlier = cond (leb earlier later) (Some (record { 0 = later - earlier })) None

-- the last reading there is
abbrev pub last_reading : Reading
last_reading = record { 0 = horizon }
