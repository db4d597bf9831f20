use Rattle.std.proofs.Common.{rules}
use Rattle.claims.proofs.Lookup.{tail_more, tail_none, tail_whole}
use Rattle.claims.proofs.retained.weight_from.Goals as goal

pub overflow_add-sum : goal.overflow_add-sum
overflow_add-sum g c =
    let weights = g.L.ClaimLaw.weights c.args.law.now in
    let more = tail_more weights c.loop-weight.amount.0 c.in-Some.weight c.in-Some.ensures in
    let whole = tail_whole weights c.args.first.0 (g.L.ClaimLaw.lawful c.args.law.now) in
    search rules

pub overflow_add-amount : goal.overflow_add-amount
overflow_add-amount g c =
    let weights = g.L.ClaimLaw.weights c.args.law.now in
    let lawful = g.L.ClaimLaw.lawful c.args.law.now in
    let more = tail_more weights c.loop-weight.amount.0 c.in-Some.weight c.in-Some.ensures in
    search rules

pub loop-weight-smaller : goal.loop-weight-smaller
loop-weight-smaller g c = search (rules, tail_more)

pub loop-weight-preserved : goal.loop-weight-preserved
loop-weight-preserved g c = search (rules, tail_more)

pub returns : goal.returns
returns g c = search (rules, tail_none)
