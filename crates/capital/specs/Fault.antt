-- The numbers of the refusals of capital rules and penalties. Assumes nothing.
use Rattle.std.specs.Prelude.{ℕ}
use Rattle.capital.specs.declared.fault.CapitalFault.{CapitalFault}
use Rattle.capital.specs.declared.fault.CapitalFault.TheVariants.{FloorRange, BarrierRange, DeficitRange, ScaleRange}

abbrev pub fault_number : CapitalFault → ℕ
fault_number FloorRange = 401
fault_number BarrierRange = 402
fault_number DeficitRange = 403
fault_number ScaleRange = 404
