use Rattle.std.proofs.Common.{◌≡◌, ℕ, ◌<◌, get_or}
use Rattle.run.proofs.run.advance.fill_row.Given as goal
use Rattle.run.specs.Advance.{nil}
use Rattle.run.specs.Gathered.{pair_from}

abbrev pub invariant-loop-level : goal.invariant-loop-level
invariant-loop-level l = (u : ℕ) → u < l.level → get_or l.row u nil ≡ pair_from l.weights l.costs l.dropped u
