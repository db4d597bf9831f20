-- The whole of a probability. Assumes nothing.
use Rattle.std.specs.Prelude.{ℕ, ◌^◌}

abbrev pub one : ℕ
one = 2 ^ 30
