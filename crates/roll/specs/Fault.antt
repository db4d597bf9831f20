-- The numbers of the roll's refusals. Assumes nothing.
use Rattle.std.specs.Prelude.{ℕ}
use Rattle.roll.specs.declared.fault.RollFault.{RollFault}
use Rattle.roll.specs.declared.fault.RollFault.TheVariants.{Full, NotFilled}

abbrev pub fault_number : RollFault → ℕ
fault_number Full = 101
fault_number NotFilled = 102
