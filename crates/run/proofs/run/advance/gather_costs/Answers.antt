use Rattle.std.proofs.Common.{length, ◌∙◌, arith, w32, SFits, to_z, of_z, rules}
use Rattle.std.proofs.lemmas.Int.{to_z-of_z}
use Rattle.run.proofs.Costing.{known_all, known_stops, ruins_below}
use Rattle.run.proofs.run.advance.gather_costs.Goals as goal

pub returns-in_default : goal.returns-in_default
returns-in_default g c =
    let rule = c.args.rule.now in
    let carried = g.R.CapitalRule.carried rule in
    let priced = g.P.Penalty.priced c.args.penalty.now in
    let end = c.surplus-end.result in let fits : SFits w32 end = search rules in
    let inv = c.loop-level.invariant in
    let ruins = ruins_below carried priced c.args.old.now (length c.args.old.now) c.args.largest.0
    c.loop-level.level (to_z w32 (of_z w32 end)) (to_z-of_z w32 end fits ∙ c.surplus-end.ensures) c.in_default.ensures in
    record {
      within = omega (arith, ruins);
      known = known_stops carried priced c.args.old.now (length c.args.old.now) c.args.largest.0 c.args.long
          c.loop-level.costs c.requires.long (g.met.R.CapitalRule.rising rule) c.loop-level.level
          (to_z w32 (of_z w32 end)) (to_z-of_z w32 end fits ∙ c.surplus-end.ensures) c.loop-level-test.true inv
          c.in_default.ensures;
      costs = λ x h. inv.gathered x (omega (arith, h, ruins));
    }

pub returns-clause-known : goal.returns-clause-known
returns-clause-known g c =
    let rule = c.args.rule.now in
    known_all (g.R.CapitalRule.carried rule) (g.P.Penalty.priced c.args.penalty.now) c.args.old.now (length c.args.old.now)
    c.args.largest.0 c.args.long c.loop-level.costs c.requires.long (g.met.R.CapitalRule.rising rule) c.loop-level.level
    c.loop-level-test.false c.loop-level.invariant
