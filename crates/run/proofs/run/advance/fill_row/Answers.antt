use Rattle.std.proofs.Common.{arith, rules}
use Rattle.run.proofs.run.advance.fill_row.Goals as goal
use Rattle.run.specs.Advance.{nil}
use Rattle.run.specs.Gathered.{pair_from}
use Rattle.std.proofs.lemmas.List.FromFn.{fill_by_all}

pub returns : goal.returns
returns c =
    fill_by_all (pair_from c.args.weights.now c.args.costs.now c.args.dropped) c.loop-level.row _ nil (search rules)
    (λ u h. c.loop-level.invariant u (omega arith))
