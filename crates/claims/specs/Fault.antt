-- The numbers of the refusals of claim laws. Assumes nothing.
use Rattle.std.specs.Prelude.{ℕ}
use Rattle.claims.specs.declared.fault.LawFault.{LawFault}
use Rattle.claims.specs.declared.fault.LawFault.TheVariants.{
  ListLength,
  SumAboveOne,
  SumBelowOne,
  AmountRange,
  AmountOrder,
  CountDiffers,
  SizeRange,
  WeightAboveOne,
  LimitRange,
}

abbrev pub fault_number : LawFault → ℕ
fault_number ListLength = 301
fault_number SumAboveOne = 302
fault_number SumBelowOne = 303
fault_number AmountRange = 304
fault_number AmountOrder = 305
fault_number CountDiffers = 306
fault_number SizeRange = 307
fault_number WeightAboveOne = 308
fault_number LimitRange = 309
