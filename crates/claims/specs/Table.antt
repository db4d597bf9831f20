-- The table of weights: what it begins as, and when a load is refused. Assumes nothing.
use Rattle.std.specs.Prelude.{List, [], ◌∷◌, length, Option, nat_lt}
use Rattle.claims.specs.Law.{total}
use Rattle.claims.specs.declared.fault.LawFault.{LawFault}
use Rattle.claims.specs.declared.fault.LawFault.TheVariants.{ListLength, SumAboveOne, SumBelowOne}
use Rattle.units.specs.Checks.{first_failing, outside}
use Rattle.units.specs.One.{one}
use Rattle.units.specs.declared.Weight.{Weight}

-- ONE at amount 0
abbrev pub calm_list : List Weight
calm_list = record { 0 = one } ∷ []

abbrev pub load_fault : List Weight → Option LawFault
load_fault list =
    first_failing
    ((outside 1 4096 (length list), ListLength)
    ∷ ((nat_lt one (total list), SumAboveOne) ∷ ((nat_lt (total list) one, SumBelowOne) ∷ [])))
