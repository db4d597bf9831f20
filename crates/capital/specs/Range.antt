-- When the number of a rule or a penalty is refused. Assumes nothing.
use Rattle.std.specs.Prelude.{ℕ, [], ◌∷◌, Option}
use Rattle.capital.specs.declared.fault.CapitalFault.{CapitalFault}
use Rattle.capital.specs.declared.fault.CapitalFault.TheVariants.{FloorRange, BarrierRange, DeficitRange, ScaleRange}
use Rattle.units.specs.Checks.{first_failing, outside}
use Rattle.units.specs.declared.Level.{Level}

abbrev pub floor_fault : Level → Option CapitalFault
floor_fault level = first_failing ((outside 1 8191 level.0, FloorRange) ∷ [])

abbrev pub barrier_fault : Level → Option CapitalFault
barrier_fault level = first_failing ((outside 1 8191 level.0, BarrierRange) ∷ [])

abbrev pub below_fault : ℕ → Option CapitalFault
below_fault deficit = first_failing ((outside 1 4096 deficit, DeficitRange) ∷ [])

abbrev pub scaled_fault : ℕ → Option CapitalFault
scaled_fault scale = first_failing ((outside 0 12 scale, ScaleRange) ∷ [])
