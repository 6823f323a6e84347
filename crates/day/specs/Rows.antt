-- What the contracts on rows cite.
use Rattle.std.specs.Prelude.{ℕ, Bool, not, ◌&&◌, leb, ltb, eqb}
use Rattle.rules.specs.Clock.{horizon}
use Rattle.rules.specs.Day.{Row, arrival}
use Rattle.day.specs.declared.row.Row as declared

-- a row of the code as a row of the rules
abbrev pub row_of : declared.Row → Row
row_of r = record { from = r.from; to = r.to; start = r.start.0; travel = r.travel.0; owner = r.owner }

-- whether a row is sound
unfoldable pub soundb : (n : ℕ) → Row → Bool
soundb n r = ltb r.from n && (ltb r.to n && (not (eqb r.from r.to) && (leb 1 r.travel && leb (arrival r) horizon)))

-- whether a row is sound, and starts at last or later
abbrev pub rightb : (n last : ℕ) → Row → Bool
rightb n last r = leb last r.start && soundb n r
