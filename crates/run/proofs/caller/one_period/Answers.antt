use Rattle.std.proofs.Common.{[], ◌∷◌, length, sym, ap, ◌∙◌, rules}
use Rattle.run.proofs.Faith.{led_on, led_first, same_lengths, fresh-held, left_is, one-answered, made_faithful}
use Rattle.run.proofs.caller.one_period.Goals as goal
use Rattle.run.specs.Calls.{opens, advances, fresh_on}
use Rattle.run.specs.History.{ledger_of}
use Rattle.run.specs.Period.{Meaningful}
use Rattle.run.specs.Views.{kept_by, meant}

pub returns : goal.returns
returns g c =
    let law = c.args.period.now.law.now in
    let rule = c.args.period.now.rule.now in
    let penalty = c.args.period.now.penalty.now in
    let board = c.args.board.now in
    let spare = c.args.spare.now in
    let long = c.args.long in
    let level = c.args.level.0 in
    let period = meant g.L.ClaimLaw.weights g.R.CapitalRule.carried g.P.Penalty.priced c.args.period.now in
    let meaningful : Meaningful period = record {
      lawful = g.L.ClaimLaw.lawful law;
      within = g.met.R.CapitalRule.within rule;
      rising = g.met.R.CapitalRule.rising rule;
      bounded = g.met.P.Penalty.bounded penalty;
    } in
    let begun = fresh-held (kept_by c.fresh-run.result) board spare c.fresh-run.ensures in
    let opening = c.«open».ensures.leaves in
    let advancing = c.advance.ensures.leaves in
    let taken = sym c.«open».ensures.answer ∙ c.in_ok-open.was in
    let added = sym c.advance.ensures.answer ∙ c.in_ok-advance.was in
    let first = led_first (kept_by c.fresh-run.result) board spare c.fresh-run.ensures in
    let led = led_on (advances period) _ meaningful (led_on (opens long) _ tt first opening) advancing in
    let left = left_is long level period (fresh_on board spare) _ _ _ begun opening advancing taken in
    record {
      answer = one-answered long level period (fresh_on board spare) _ _ _ begun opening advancing taken c.ask.result added
          c.ask.ensures.answer;
      board = ap (λ held. held.board) left;
      spare = ap (λ held. held.spare) left;
      faithful = made_faithful (ledger_of (length board) (length spare) (advances period ∷ (opens long ∷ []))) level c.ask.result
          (same_lengths (advances period ∷ (opens long ∷ [])) _ _ _ _ _ level c.ask.result (c.ask.ensures.faithful _ led)
          (search rules) (search rules) (search rules));
    }
