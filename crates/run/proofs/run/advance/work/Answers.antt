use Rattle.std.proofs.Common.{◌≡◌, ◌-◌, ◌++◌, map, length, take, drop, replicate, Some, None, ap, ◌∙◌, ap₂, arith, rules}
use Rattle.run.proofs.Paths.{row_same}
use Rattle.run.proofs.Rows.{part-whole, row-gathered, row_written, same-dropped, where_known_is}
use Rattle.run.proofs.run.advance.work.Goals as goal
use Rattle.run.specs.Advance.{nil, pair_at, known_by, known_after}
use Rattle.run.specs.Gathered.{cost_pair}
use Rattle.run.specs.Period.{Meaningful}
use Rattle.run.specs.Views.{meant}
use Rattle.std.proofs.lemmas.List.{get_or-take, length-take-le}
use Rattle.std.specs.List.{range_with_len}
use Rattle.units.specs.Surplus.{surplus_of}

pub fill_row-requires-clause-whole : goal.fill_row-requires-clause-whole
fill_row-requires-clause-whole g c =
    let cut = c.gather_weights-cut in
    let law = c.args.period.now.law.now in
    part-whole (g.L.ClaimLaw.weights law) cut.new.slots cut.result.amounts cut.ensures.within (search rules) cut.ensures.slots
    cut.result.dropped cut.ensures.dropped (g.L.ClaimLaw.lawful law)

pub returns : goal.returns
returns g c =
    let law = c.args.period.now.law.now in
    let rule = c.args.period.now.rule.now in
    let weights = g.L.ClaimLaw.weights law in
    let carried = g.R.CapitalRule.carried rule in
    let priced = g.P.Penalty.priced c.args.period.now.penalty.now in
    let period = meant g.L.ClaimLaw.weights g.R.CapitalRule.carried g.P.Penalty.priced c.args.period.now in
    let meaningful : Meaningful period = record {
      lawful = g.L.ClaimLaw.lawful law;
      within = g.met.R.CapitalRule.within rule;
      rising = g.met.R.CapitalRule.rising rule;
      bounded = g.met.P.Penalty.bounded c.args.period.now.penalty.now;
    } in
    let board = c.args.board.now in
    let long = c.args.opened.long in
    let known = c.args.opened.known in
    let old = take (known - 0) board in
    let cut = c.gather_weights-cut in
    let k = c.gather_costs-known in
    let left = same-dropped period cut.result.amounts cut.result.dropped cut.ensures.amounts cut.ensures.dropped in
    let seen : length old ≡ known = omega (arith, length-take-le (known - 0) board (omega arith)) in
    let is : k.result ≡ known_after long known period = k.ensures.known ∙ ap (λ n. known_by long n carried) seen in
    let row = c.fill_row.ensures
    ∙ row-gathered weights cut.new.slots cut.result.amounts cut.ensures.within (search rules) cut.ensures.slots
    carried priced c.args.period.now.allowance.0 k.result old k.new.costs cut.ensures.amounts
    (λ x h. k.ensures.costs x (omega (arith, h, c.saturating_sub.ensures))
    ∙ ap (λ l. cost_pair carried priced old (surplus_of x l)) c.saturating_sub.ensures)
    cut.result.dropped _ left (search rules) in
    record {
      fits = (k.ensures.within, cut.ensures.allowed);
      answer = where_known_is k.result (known_after long known period) None _ _ is c.if-known-eq0.false
          (ap₂ (λ n d. Some (record { known = n; dropped = d })) is left);
      board = where_known_is k.result (known_after long known period) board _ _ is c.if-known-eq0.false
          (row_written long k.result board c.fill_row.new.row c.fill.new.self k.ensures.within c.requires.board (search rules) (search rules)
          ∙ (ap₂ (λ pairs n. (pairs ++ replicate (long - n) nil) ++ drop long board)
          (row ∙ ap (λ n. map (pair_at period old) (range_with_len 0 n)) is) is
          ∙ ap (λ pairs. pairs ++ drop long board)
          (row_same {long = long} meaningful (omega arith) known old board (λ v h. get_or-take (known - 0) board v nil (omega arith)))));
      spare = where_known_is k.result _ _ _ _ is c.if-known-eq0.false (search rules);
    }
