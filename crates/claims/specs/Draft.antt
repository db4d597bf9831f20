-- A law as its weights are given one by one, by rising amount. Assumes nothing.
use Rattle.std.specs.Prelude.{ℕ, ◌+◌, not, [], ◌∷◌, Option, ◌==◌, nat_lt}
use Rattle.claims.specs.declared.fault.LawFault.{LawFault}
use Rattle.claims.specs.declared.fault.LawFault.TheVariants.{SumAboveOne, SumBelowOne, AmountRange, AmountOrder, CountDiffers}
use Rattle.units.specs.Checks.{first_failing}
use Rattle.units.specs.One.{one}
use Rattle.units.specs.declared.Amount.{Amount}
use Rattle.units.specs.declared.Weight.{Weight}

-- the least amount that is above the last given, the sum of the weights given, and how many there are
pub record Given : Type 0 where
  pub next : ℕ
  pub sum : ℕ
  pub count : ℕ

abbrev pub nothing_given : Given
nothing_given = record { next = 0; sum = 0; count = 0 }

abbrev pub give_fault : Given → Amount → Weight → Option LawFault
give_fault given amount weight =
    first_failing
    ((nat_lt 4095 amount.0, AmountRange)
    ∷ ((nat_lt amount.0 given.next, AmountOrder) ∷ ((nat_lt one (given.sum + weight.0), SumAboveOne) ∷ [])))

abbrev pub given_also : Given → Amount → Weight → Given
given_also given amount weight = record { next = amount.0 + 1; sum = given.sum + weight.0; count = given.count + 1 }

abbrev pub end_fault : Given → ℕ → Option LawFault
end_fault given count =
    first_failing ((not (count == given.count), CountDiffers) ∷ ((nat_lt given.sum one, SumBelowOne) ∷ []))
