-- Times are whole seconds. Clock readings and lengths of time are numbers here; `clock` keeps them apart by type.
use Rattle.std.specs.Prelude.{ℕ}

-- the horizon, 72 hours
abbrev pub horizon : ℕ
horizon = 259200
