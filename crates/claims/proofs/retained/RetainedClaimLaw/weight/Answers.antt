use Rattle.std.proofs.Common.{rules}
use Rattle.claims.proofs.Lookup.{retained_below, retained_at}
use Rattle.claims.proofs.retained.RetainedClaimLaw.weight.Goals as goal
use Rattle.claims.specs.LawfulLists.{length_retained}

pub returns-then-lt : goal.returns-then-lt
returns-then-lt g c = search (rules, retained_below)

pub returns-else-gt : goal.returns-else-gt
returns-else-gt g c =
    let weights = g.L.ClaimLaw.weights c.args.self.now.law in
    let lawful = g.L.ClaimLaw.lawful c.args.self.now.law in
    let long = length_retained c.amount-limit.result weights in
    retained_at _ c.args.amount weights _ c.weight_from.ensures (search rules) (search rules)
