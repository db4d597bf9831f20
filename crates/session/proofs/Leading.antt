-- The records of a session lead the history of its run on, and bounds that are told are faithful to its ledger.
use Rattle.std.proofs.Common.{◌≡◌, ℕ, ◌≤◌, Bool, true, false, cond, List, length, Some, None, Ok, Option, sym, refl, subst, arith}
use Rattle.capital.specs.Laws.{Within, Rising, Bounded}
use Rattle.claims.specs.Law.{Lawful}
use Rattle.claims.specs.LawfulLists.{retained_lawful}
use Rattle.feed.specs.Walk.{Found, Step, over, next_record}
use Rattle.feed.specs.declared.record.Record.{Record}
use Rattle.feed.specs.declared.record.Record.TheVariants.{Open, Advance, Ask}
use Rattle.run.proofs.Faith.{answer_faithful}
use Rattle.run.specs.Calls.{Held, Call, opens, advances, asks, after, open_fault, opened, advance_fault, advanced, ask_fault, ask_answer}
use Rattle.run.specs.History.{Ledger, Proper, LeadTo, then, Faithful, ledger_of}
use Rattle.run.specs.Period.{Meaningful}
use Rattle.run.specs.declared.fault.RunFault.{RunFault}
use Rattle.session.proofs.Soundness.{whole_lawful}
use Rattle.session.specs.Histories.{call_of, call_made, further, call_by, calls_after, EntryFaithful, AskFaithful, StepFaithful}
use Rattle.session.specs.Law.{Law, no_law, part_law, whole_law, Row}
use Rattle.session.specs.Records.{State, is_taken, weights_in, period_in, after_record, holding}
use Rattle.session.specs.Sound.{Sound}
use Rattle.session.specs.Standing.{carried-within, carried-rising, priced-bounded}
use Rattle.session.specs.Step.{View, is_full, taken, after_step, told, told_found, state_found}
use Rattle.session.specs.Terms.{period_by}
use Rattle.session.specs.Views.{state_of, view_of}
use Rattle.session.specs.declared.cause.Cause.TheVariants.{Run as OfRun, Session as OfSession}
use Rattle.session.specs.declared.fault.SessionFault.TheVariants.{NotTaken}
use Rattle.session.specs.declared.session.Session.{Session}
use Rattle.std.specs.Option.{option_map}
use Rattle.units.specs.Checks.{left_unless}
use Rattle.units.specs.declared.Weight.{Weight}

-- a whole law is a law
abbrev LawfulIn : Law → Type 0
LawfulIn no_law = Unit {0}
LawfulIn (part_law given) = Unit {0}
LawfulIn (whole_law weights) = Lawful weights

-- terms and law that an advance can work with
pub record Workable (s : State) : Type 0 where
  pub within : Within s.agreed.carried
  pub rising : Rising s.agreed.carried
  pub bounded : Bounded s.agreed.priced
  pub limited : s.agreed.limit.0 ≤ 4095
  pub lawful : LawfulIn s.law

lawful_in : (law : Law) (row : Row Weight) → Sound law row → LawfulIn law
lawful_in (whole_law weights) row sound = whole_lawful weights sound.whole sound.short
lawful_in law row sound = tt

pub workable : (session : Session) → Workable (state_of session)
workable session = record {
  within = carried-within session.terms.rule;
  rising = carried-rising session.terms.rule;
  bounded = priced-bounded session.terms.price;
  limited = session.terms.limit.amount.most;
  lawful = lawful_in (state_of session).law (state_of session).weights session.book.sound;
}

-- an advance is taken with a whole law only, and its period is then meaningful
meaningful : (s : State) → Workable s → is_taken Advance s.law ≡ true → Meaningful (period_in s)
meaningful s able = by-law s.law able.lawful
  where
    by-law : (law : Law) → LawfulIn law → is_taken Advance law ≡ true → Meaningful (period_by s.agreed (weights_in law))
    by-law (whole_law weights) lawful is = record {
      lawful = retained_lawful s.agreed.limit weights able.limited lawful;
      within = able.within;
      rising = able.rising;
      bounded = able.bounded;
    }
    by-law law lawful is = grind arith

left_alone : {A F : Type 0} (fault : Option F) (x : A) → x ≡ left_unless fault x x
left_alone fault x = grind arith

module _ {calls : List Call} where
  -- a record that makes a call leaves what the call leaves
  calling : (taken : Bool) (fault : Option RunFault) (s : State) (left : Held) (call : Call)
      → after call s.held ≡ left_unless fault left s.held → (taken ≡ true → Proper call) → LeadTo calls s.held
      → LeadTo (further (cond taken (Some call) None) calls)
      (left_unless (cond taken (option_map OfRun fault) (Some (OfSession NotTaken))) (holding s left) s).held
  calling taken fault s left call is proper leads = grind (arith, then)

  record_leads : (r : Record) (s : State) → Workable s → LeadTo calls s.held
      → LeadTo (further (cond (is_taken r s.law) (call_of r s) None) calls) (after_record r s).held
  record_leads (Open long) s able =
      calling (is_taken (Open long) s.law) (open_fault long s.held) s (opened long s.held) (opens long) refl (λ is. tt)
  record_leads Advance s able =
      calling (is_taken Advance s.law) (advance_fault (period_in s) s.held) s (advanced (period_in s) s.held) (advances (period_in s)) refl
      (meaningful s able)
  record_leads (Ask level) s able =
      calling (is_taken (Ask level) s.law) (ask_fault level.0 s.held) s s.held (asks level.0)
      (left_alone (ask_fault level.0 s.held) s.held) (λ is. tt)
  record_leads r s able = λ leads. grind arith

  found_leads : (found : Found) (s : State) → Workable s → LeadTo calls s.held
      → LeadTo (further (call_made found s) calls) (state_found found s).held
  found_leads (Some (Ok taken)) s able leads = record_leads taken.0 s able leads
  found_leads found s able leads = leads

  step_leads : (ended full : Bool) (next : Step) (view : View) → Workable view.state → LeadTo calls view.state.held
      → LeadTo (further (cond ended None (cond full None (call_made next.found view.state))) calls)
      (cond ended view (cond full view (taken next view))).state.held
  step_leads false false next view able leads = found_leads next.found view.state able leads
  step_leads ended full next view able leads = leads

pub leads-on : (session : Session) (left : View) → left ≡ after_step (view_of session) → (calls : List Call)
    → LeadTo calls (state_of session).held → LeadTo (calls_after (view_of session) calls) left.state.held
leads-on session left is calls leads =
    let view = view_of session in
    subst (λ (v : View). LeadTo (calls_after view calls) v.state.held) (sym is)
    (step_leads (over view.walk) (is_full view.log) (next_record view.walk) view (workable session) leads)

module _ (ledger : Ledger) (s : State) (faithful : (level : ℕ) → Faithful ledger level (ask_answer level s.held)) where
  record_tells : (r : Record) (offset : ℕ) → EntryFaithful ledger (told r offset s)
  record_tells (Ask level) offset = let asked = faithful level.0 in grind arith
  record_tells r offset = grind arith

  step_tells : (ended full : Bool) (found : Found) → EntryFaithful ledger (cond ended None (cond full None (told_found found s)))
  step_tells false false (Some (Ok taken)) = record_tells taken.0 taken.1
  step_tells ended full found = grind arith

pub tells_faithfully : (session : Session) (calls : List Call) → LeadTo calls (state_of session).held
    → StepFaithful (ledger_of (length (state_of session).held.board) (length (state_of session).held.spare) calls) (view_of session)
tells_faithfully session calls leads =
    let view = view_of session in
    let held = view.state.held in
    let ledger = ledger_of (length held.board) (length held.spare) calls in
    let faithful : (level : ℕ) → Faithful ledger level (ask_answer level held) =
    λ level. answer_faithful held level (ask_answer level held) refl calls leads in
    record {
      told = step_tells ledger view.state faithful (over view.walk) (is_full view.log) (next_record view.walk).found;
      asked = asks_faithfully ledger (call_by view) held faithful;
    }
  where
    asks_faithfully : (ledger : Ledger) (call : Option Call) (held : Held) → ((level : ℕ) → Faithful ledger level (ask_answer level held))
        → AskFaithful ledger call held
    asks_faithfully ledger call held faithful = grind (arith, faithful)
