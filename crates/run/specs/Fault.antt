-- The numbers of the run's refusals. Assumes nothing.
use Rattle.std.specs.Prelude.{ℕ}
use Rattle.run.specs.declared.fault.RunFault.{RunFault}
use Rattle.run.specs.declared.fault.RunFault.TheVariants.{
  LengthRange,
  ListShort,
  Unopened,
  AllowanceRange,
  NoneKnown,
  LevelUnknown,
  PeriodsFull,
}

abbrev pub fault_number : RunFault → ℕ
fault_number LengthRange = 501
fault_number ListShort = 502
fault_number Unopened = 503
fault_number AllowanceRange = 504
fault_number NoneKnown = 505
fault_number LevelUnknown = 506
fault_number PeriodsFull = 507
