-- What a record does to a session, and why it is refused. Assumes nothing.
use Rattle.std.specs.Prelude.{Bool, true, false, cond, List, [], Some, None, Option}
use Rattle.capital.specs.Meanings.{plain_level, floor_level, barrier_level, any_ruin_price, below_price, scaled_price}
use Rattle.capital.specs.Range.{floor_fault, barrier_fault, below_fault, scaled_fault}
use Rattle.claims.specs.Draft.{end_fault}
use Rattle.claims.specs.Limit.{limit_fault}
use Rattle.claims.specs.SingleSize.{single_fault, single_weights}
use Rattle.feed.specs.declared.record.Record.{Record}
use Rattle.feed.specs.declared.record.Record.TheVariants.{Claim, EndLaw, ScrapLaw, SingleSize, Retain}
use Rattle.feed.specs.declared.record.Record.TheVariants.{Plain, Floor, Barrier, AnyRuin, BelowDeficit}
use Rattle.feed.specs.declared.record.Record.TheVariants.{Scaled, Allowance, Open, Advance, Ask}
use Rattle.run.specs.Calls.{Held, open_fault, opened, advance_fault, advanced, ask_fault, answer_at}
use Rattle.run.specs.Period.{Period}
use Rattle.session.specs.Law.{Law, no_law, part_law, whole_law, Row, items, emptied, given_in, claim_fault, claimed_law, claimed_row}
use Rattle.session.specs.Terms.{Agreed, with_rule, with_price, with_allowance, with_limit, allowance_fault, period_by}
use Rattle.session.specs.declared.cause.Cause.{Cause}
use Rattle.session.specs.declared.cause.Cause.TheVariants.{Law as OfLaw, Capital as OfCapital, Run as OfRun, Session as OfSession}
use Rattle.session.specs.declared.entry.Answered.{Answered}
use Rattle.session.specs.declared.fault.SessionFault.TheVariants.{NotTaken}
use Rattle.std.specs.Option.{option_map}
use Rattle.units.specs.Checks.{left_unless}
use Rattle.units.specs.declared.Weight.{Weight}

-- what the records of a feed work on: the law and the roll of its weights, the terms, and the run with its lists
pub record State : Type 0 where
  pub law : Law
  pub weights : Row Weight
  pub agreed : Agreed
  pub held : Held

-- whether a record is taken in no law, part law, whole law
abbrev pub stages : Record → Bool × Bool × Bool
stages (Claim amount weight) = (true, true, true)
stages (EndLaw count) = (false, true, false)
stages ScrapLaw = (true, true, true)
stages (SingleSize size weight) = (true, false, true)
stages (Retain limit) = (true, false, true)
stages Plain = (true, false, true)
stages (Floor level) = (true, false, true)
stages (Barrier level) = (true, false, true)
stages AnyRuin = (true, false, true)
stages (BelowDeficit y) = (true, false, true)
stages (Scaled m) = (true, false, true)
stages (Allowance weight) = (true, false, true)
stages (Open long) = (true, false, true)
stages Advance = (false, false, true)
stages (Ask level) = (true, false, true)

abbrev pub is_taken : Record → Law → Bool
is_taken r no_law = (stages r).0
is_taken r (part_law given) = (stages r).1
is_taken r (whole_law weights) = (stages r).2

abbrev pub weights_in : Law → List Weight
weights_in no_law = []
weights_in (part_law given) = []
weights_in (whole_law weights) = weights

-- the period that an advance adds
abbrev pub period_in : State → Period
period_in s = period_by s.agreed (weights_in s.law)

-- the first of a record's own checks that fails
abbrev pub own_fault : Record → State → Option Cause
own_fault (Claim amount weight) s = claim_fault s.law s.weights amount weight
own_fault (EndLaw count) s = option_map OfLaw (end_fault (given_in s.law) count)
own_fault ScrapLaw s = None
own_fault (SingleSize size weight) s = option_map OfLaw (single_fault size weight)
own_fault (Retain limit) s = option_map OfLaw (limit_fault limit)
own_fault Plain s = None
own_fault (Floor level) s = option_map OfCapital (floor_fault level)
own_fault (Barrier level) s = option_map OfCapital (barrier_fault level)
own_fault AnyRuin s = None
own_fault (BelowDeficit y) s = option_map OfCapital (below_fault y)
own_fault (Scaled m) s = option_map OfCapital (scaled_fault m)
own_fault (Allowance weight) s = option_map OfRun (allowance_fault weight)
own_fault (Open long) s = option_map OfRun (open_fault long s.held)
own_fault Advance s = option_map OfRun (advance_fault (period_in s) s.held)
own_fault (Ask level) s = option_map OfRun (ask_fault level.0 s.held)

abbrev pub with_law : State → Law → Row Weight → State
with_law s law weights = record { law = law; weights = weights; agreed = s.agreed; held = s.held }

abbrev on_terms : State → Agreed → State
on_terms s agreed = record { law = s.law; weights = s.weights; agreed = agreed; held = s.held }

abbrev pub holding : State → Held → State
holding s held = record { law = s.law; weights = s.weights; agreed = s.agreed; held = held }

-- what a record leaves that is not refused
abbrev pub done : Record → State → State
done (Claim amount weight) s =
    with_law s (claimed_law s.law amount weight) (claimed_row s.law s.weights amount weight)
done (EndLaw count) s = with_law s (whole_law (items s.weights)) s.weights
done ScrapLaw s = with_law s no_law (emptied s.weights)
done (SingleSize size weight) s = with_law s (whole_law (single_weights size weight)) s.weights
done (Retain limit) s = on_terms s (with_limit s.agreed limit)
done Plain s = on_terms s (with_rule s.agreed plain_level)
done (Floor level) s = on_terms s (with_rule s.agreed (floor_level level.0))
done (Barrier level) s = on_terms s (with_rule s.agreed (barrier_level level.0))
done AnyRuin s = on_terms s (with_price s.agreed any_ruin_price)
done (BelowDeficit y) s = on_terms s (with_price s.agreed (below_price y))
done (Scaled m) s = on_terms s (with_price s.agreed (scaled_price m))
done (Allowance weight) s = on_terms s (with_allowance s.agreed weight.0)
done (Open long) s = holding s (opened long s.held)
done Advance s = holding s (advanced (period_in s) s.held)
done (Ask level) s = s

-- what a record is answered with that is not refused: the bounds of a level, or nothing
abbrev pub answered : Record → State → Option Answered
answered (Claim amount weight) s = None
answered (EndLaw count) s = None
answered ScrapLaw s = None
answered (SingleSize size weight) s = None
answered (Retain limit) s = None
answered Plain s = None
answered (Floor level) s = None
answered (Barrier level) s = None
answered AnyRuin s = None
answered (BelowDeficit y) s = None
answered (Scaled m) s = None
answered (Allowance weight) s = None
answered (Open long) s = None
answered Advance s = None
answered (Ask level) s = Some (record { level = level; answer = answer_at level.0 s.held })

-- why a record is refused: it is not taken in this stage, or its own first failing check
abbrev pub record_fault : Record → State → Option Cause
record_fault r s = cond (is_taken r s.law) (own_fault r s) (Some (OfSession NotTaken))

abbrev pub after_record : Record → State → State
after_record r s = left_unless (record_fault r s) (done r s) s
