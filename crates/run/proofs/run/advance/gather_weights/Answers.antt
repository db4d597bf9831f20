use Rattle.std.proofs.Common.{arith, rules}
use Rattle.claims.proofs.Lookup.{tail_more, tail_none}
use Rattle.run.proofs.Gathering.{weighing_more, weighing_all, weighing_least, weighing_ends}
use Rattle.run.proofs.run.advance.gather_weights.Goals as goal

pub returns-then-tail-allowance-clause-least : goal.returns-then-tail-allowance-clause-least
returns-then-tail-allowance-clause-least g c =
    let law = c.args.law.now in
    let loop = c.loop-amounts in
    weighing_least (g.L.ClaimLaw.weights law) c.args.allowance.0 (g.L.ClaimLaw.lawful law) loop.amounts loop.tail loop.slots
    loop.invariant (search rules)

pub returns-then-tail-allowance-clause-amounts : goal.returns-then-tail-allowance-clause-amounts
returns-then-tail-allowance-clause-amounts g c =
    let law = c.args.law.now in
    let loop = c.loop-amounts in
    weighing_all (g.L.ClaimLaw.weights law) c.args.allowance.0 (g.L.ClaimLaw.lawful law) loop.amounts loop.tail loop.slots
    loop.invariant (search rules)

pub overflow_sub-tail : goal.overflow_sub-tail
overflow_sub-tail g c =
    let more = tail_more (g.L.ClaimLaw.weights c.args.law.now) c.loop-amounts.amounts c.in-Some.weight (search rules) in
    search rules

pub loop-amounts-preserved : goal.loop-amounts-preserved
loop-amounts-preserved g c =
    let law = c.args.law.now in
    weighing_more (g.L.ClaimLaw.weights law) c.args.allowance.0 (g.L.ClaimLaw.lawful law)
    c.loop-amounts.amounts c.loop-amounts.tail c.loop-amounts.slots c.in-Some.weight
    c.loop-amounts.invariant (search rules) (search rules)

pub returns-clause-least : goal.returns-clause-least
returns-clause-least g c =
    let law = c.args.law.now in
    let loop = c.loop-amounts in
    let ends = weighing_ends (g.L.ClaimLaw.weights law) c.args.allowance.0 (g.L.ClaimLaw.lawful law) loop.amounts loop.tail loop.slots
    (omega arith) loop.invariant in
    weighing_least (g.L.ClaimLaw.weights law) c.args.allowance.0 (g.L.ClaimLaw.lawful law) 4096 loop.tail loop.slots ends.0 ends.1

pub returns-clause-dropped : goal.returns-clause-dropped
returns-clause-dropped g c =
    let law = c.args.law.now in
    let loop = c.loop-amounts in
    let ends = weighing_ends (g.L.ClaimLaw.weights law) c.args.allowance.0 (g.L.ClaimLaw.lawful law) loop.amounts loop.tail loop.slots
    (omega arith) loop.invariant in
    ends.0.tail_is

pub unreachable-requires : goal.unreachable-requires
unreachable-requires g c =
    let none = tail_none (g.L.ClaimLaw.weights c.args.law.now) c.loop-amounts.amounts c.in_default.ensures in
    search rules
