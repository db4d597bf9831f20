use Rattle.std.proofs.Common.{◌≡◌, ◌+◌, ◌-◌, length, drop}
use Rattle.claims.proofs.retained.weight_from.Given as goal
use Rattle.claims.specs.Law.{total}

-- what is summed and what is to come are the tail from the first amount
abbrev pub invariant-loop-weight : goal.invariant-loop-weight
invariant-loop-weight g l =
    let weights = g.L.ClaimLaw.weights l.law in
    l.sum + total (drop l.amount.0 weights) ≡ total (drop l.initial.amount.0 weights)

abbrev pub decreases-loop-weight : goal.decreases-loop-weight
decreases-loop-weight g l = length (g.L.ClaimLaw.weights l.law) - l.amount.0
