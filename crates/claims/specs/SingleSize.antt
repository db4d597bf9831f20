-- The law of claims of one size or none. Assumes nothing.
use Rattle.std.specs.Prelude.{◌-◌, List, [], ◌∷◌, ◌++◌, replicate, Option, nat_lt}
use Rattle.claims.specs.declared.fault.LawFault.{LawFault}
use Rattle.claims.specs.declared.fault.LawFault.TheVariants.{SizeRange, WeightAboveOne}
use Rattle.units.specs.Checks.{first_failing, outside}
use Rattle.units.specs.One.{one}
use Rattle.units.specs.declared.Amount.{Amount}
use Rattle.units.specs.declared.Weight.{Weight}

abbrev pub single_fault : Amount → Weight → Option LawFault
single_fault size weight =
    first_failing ((outside 1 4095 size.0, SizeRange) ∷ ((nat_lt one weight.0, WeightAboveOne) ∷ []))

-- what is left of ONE at amount 0, nothing between, the weight at the size
abbrev pub single_weights : Amount → Weight → List Weight
single_weights size weight =
    record { 0 = one - weight.0 } ∷ (replicate (size.0 - 1) (record { 0 = 0 }) ++ (weight ∷ []))
