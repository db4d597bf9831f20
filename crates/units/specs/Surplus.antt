-- What a period ends with, and the parts of it that rules and penalties are asked for. Assumes nothing.
use Rattle.std.specs.Prelude.{ℕ, zero, suc, cond, ◌&&◌, ℤ, pos, negsuc, ◌+ℤ◌, ◌-ℤ◌, Some, None, Option, nat_le}

-- u premiums, one more earned, j paid
abbrev pub surplus_of : ℕ → ℕ → ℤ
surplus_of u j = (pos u +ℤ pos 1) -ℤ pos j

-- how a period ends: with a surplus of nil or less it is ruin, and the deficit is the surplus with its sign turned;
-- with any other it goes on
abbrev pub at_end : {A : Type 0} → (ruin : ℕ → A) → (onward : ℕ → A) → ℤ → A
at_end ruin onward (pos zero) = ruin 0
at_end ruin onward (pos (suc surplus)) = onward (suc surplus)
at_end ruin onward (negsuc deficit) = ruin (suc deficit)

-- an integer as a number, if it lies from low to high
abbrev pub within : ℕ → ℕ → ℤ → Option ℕ
within low high (pos n) = cond (nat_le low n && nat_le n high) (Some n) None
within low high (negsuc n) = None
