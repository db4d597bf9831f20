-- When a limit is refused. Assumes nothing.
use Rattle.std.specs.Prelude.{[], ◌∷◌, Option}
use Rattle.claims.specs.declared.fault.LawFault.{LawFault}
use Rattle.claims.specs.declared.fault.LawFault.TheVariants.{LimitRange}
use Rattle.units.specs.Checks.{first_failing, outside}
use Rattle.units.specs.declared.Amount.{Amount}

abbrev pub limit_fault : Amount → Option LawFault
limit_fault amount = first_failing ((outside 1 4095 amount.0, LimitRange) ∷ [])
