-- The doubles of a chart. Assumes nothing.
use Rattle.std.specs.Prelude.{ℕ, ◌^◌, false, Float}
use Rattle.std.specs.Float.Ieee.Exact.{HasValue}

-- a finite double, not negative, that is the bound divided by 2^30, with nothing rounded
abbrev pub IsShare : Float → ℕ → Type 0
IsShare double bound = HasValue double false bound (2 ^ 30)
