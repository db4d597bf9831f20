-- The calls of the run that the records of a session make, and what a step tells beside their ledger. Assumes nothing.
use Rattle.std.specs.Prelude.{cond, List, ◌∷◌, Some, None, Ok, Err, Option}
use Rattle.feed.specs.Walk.{Found, over, next_record}
use Rattle.feed.specs.declared.record.Record.{Record}
use Rattle.feed.specs.declared.record.Record.TheVariants.{Claim, EndLaw, ScrapLaw, SingleSize, Retain}
use Rattle.feed.specs.declared.record.Record.TheVariants.{Plain, Floor, Barrier, AnyRuin, BelowDeficit}
use Rattle.feed.specs.declared.record.Record.TheVariants.{Scaled, Allowance, Open, Advance, Ask}
use Rattle.run.specs.Calls.{Held, Call, opens, advances, asks, ask_answer}
use Rattle.run.specs.History.{Ledger, Faithful}
use Rattle.session.specs.Records.{State, is_taken, period_in}
use Rattle.session.specs.Step.{View, is_full, told_found}
use Rattle.session.specs.declared.entry.Entry.{Entry}
use Rattle.session.specs.declared.entry.Entry.TheVariants.{Answer as Tells, Fault as Refuses}

-- the call of the run that a record stands for
abbrev pub call_of : Record → State → Option Call
call_of (Claim amount weight) s = None
call_of (EndLaw count) s = None
call_of ScrapLaw s = None
call_of (SingleSize size weight) s = None
call_of (Retain limit) s = None
call_of Plain s = None
call_of (Floor level) s = None
call_of (Barrier level) s = None
call_of AnyRuin s = None
call_of (BelowDeficit y) s = None
call_of (Scaled m) s = None
call_of (Allowance weight) s = None
call_of (Open long) s = Some (opens long)
call_of Advance s = Some (advances (period_in s))
call_of (Ask level) s = Some (asks level.0)

-- a record that is not taken in its stage makes no call
abbrev pub call_made : Found → State → Option Call
call_made (Some (Ok taken)) s = cond (is_taken taken.0 s.law) (call_of taken.0 s) None
call_made (Some (Err stop)) s = None
call_made None s = None

abbrev pub further : Option Call → List Call → List Call
further None calls = calls
further (Some call) calls = call ∷ calls

-- the call that a step makes, if it takes a record that makes one
abbrev pub call_by : View → Option Call
call_by view =
    cond (over view.walk) None
    (cond (is_full view.log) None (call_made (next_record view.walk).found view.state))

-- the calls after a step, the latest first
abbrev pub calls_after : View → List Call → List Call
calls_after view calls = further (call_by view) calls

-- what a step tells, if it takes something
abbrev pub told_by : View → Option Entry
told_by view =
    cond (over view.walk) None (cond (is_full view.log) None (told_found (next_record view.walk).found view.state))

-- bounds that are told are faithful to the ledger
abbrev pub EntryFaithful : Ledger → Option Entry → Type 0
EntryFaithful ledger None = Unit {0}
EntryFaithful ledger (Some (Tells told)) = Faithful ledger told.level.0 (Ok told.answer)
EntryFaithful ledger (Some (Refuses fault)) = Unit {0}

-- and so is what an ask is answered with, bounds or a refusal
abbrev pub AskFaithful : Ledger → Option Call → Held → Type 0
AskFaithful ledger None held = Unit {0}
AskFaithful ledger (Some (opens long)) held = Unit {0}
AskFaithful ledger (Some (advances period)) held = Unit {0}
AskFaithful ledger (Some (asks level)) held = Faithful ledger level (ask_answer level held)

pub record StepFaithful (ledger : Ledger) (view : View) : Type 0 where
  pub told : EntryFaithful ledger (told_by view)
  pub asked : AskFaithful ledger (call_by view) view.state.held
