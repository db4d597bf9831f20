use Rattle.std.proofs.Common.{length}
use Rattle.run.proofs.Weighing.{Weighed}
use Rattle.run.proofs.run.advance.weigh.Given as goal

abbrev pub invariant-loop-weight : goal.invariant-loop-weight
invariant-loop-weight l = Weighed l.weights l.costs l.place (length l.yielded) l.lower l.upper
