use Rattle.run.proofs.Gathering.{Weighing}
use Rattle.run.proofs.run.advance.gather_weights.Given as goal

abbrev pub invariant-loop-amounts : goal.invariant-loop-amounts
invariant-loop-amounts g l = Weighing (g.L.ClaimLaw.weights l.law) l.allowance.0 l.amounts l.tail l.slots
