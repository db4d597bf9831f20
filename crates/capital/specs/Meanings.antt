-- What the rules carry a surplus to, and what the penalties make of a deficit. Assumes nothing.
use Rattle.std.specs.Prelude.{ℕ, ◌-◌, ◌*◌, ◌^◌, min, max, cond, nat_lt}
use Rattle.units.specs.One.{one}

abbrev pub plain_level : ℕ → ℕ
plain_level surplus = surplus

abbrev pub floor_level : ℕ → ℕ → ℕ
floor_level floor surplus = max surplus floor

abbrev pub barrier_level : ℕ → ℕ → ℕ
barrier_level barrier surplus = min surplus barrier

abbrev pub any_ruin_price : ℕ → ℕ
any_ruin_price deficit = one

abbrev pub below_price : ℕ → ℕ → ℕ
below_price y deficit = cond (nat_lt deficit y) one 0

-- the lesser of the deficit and 2^m, in shares of 2^m
abbrev pub scaled_price : ℕ → ℕ → ℕ
scaled_price m deficit = min deficit (2 ^ m) * 2 ^ (30 - m)
