-- What the program writes of a walk. Assumes nothing.
use Rattle.std.specs.Prelude.{ℕ, List, ◌++◌, Some, None, Option}
use Rattle.feed.specs.Faults.{fault_number}
use Rattle.feed.specs.declared.fault.FeedFault.{FeedFault}
use Rattle.report.specs.Lines.{refusal_line_lem, end_line_lem}

abbrev pub output_of : Option (FeedFault × ℕ) → ℕ → List ℕ
output_of None count = end_line_lem count
output_of (Some stop) count = refusal_line_lem (fault_number stop.0) stop.1 ++ end_line_lem count
