-- A day of own rows, and nothing else.
use mathlib.Core.List.{List}
use Rattle.rules.specs.Day.{Row, Day}

abbrev pub rows_day : List Row → Day
rows_day rs = record { rows = rs }
