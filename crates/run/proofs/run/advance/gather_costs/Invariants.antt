use Rattle.std.proofs.Common.{length}
use Rattle.run.proofs.Costing.{Costing}
use Rattle.run.proofs.run.advance.gather_costs.Given as goal

abbrev pub invariant-loop-level : goal.invariant-loop-level
invariant-loop-level g l =
    Costing (g.R.CapitalRule.carried l.rule) (g.P.Penalty.priced l.penalty) l.old (length l.old) l.largest.0
    l.level l.costs
