-- The numbers by which the faults of a feed are told. Assumes nothing.
use Rattle.std.specs.Prelude.{ℕ}
use Rattle.feed.specs.declared.fault.FeedFault.{FeedFault}
use Rattle.feed.specs.declared.fault.FeedFault.TheVariants.{UnknownKind, CutShort, TooLong, BufferShort}

abbrev pub fault_number : FeedFault → ℕ
fault_number UnknownKind = 201
fault_number CutShort = 202
fault_number TooLong = 203
fault_number BufferShort = 204
