-- One step of a session. Assumes nothing.
use Rattle.std.specs.Prelude.{ℕ, ◌+◌, ◌<◌, Bool, cond, not, List, Some, None, Ok, Err, Option, Result}
use Rattle.feed.specs.Walk.{Walk, Step, Found, begun, left, over, next_record}
use Rattle.feed.specs.declared.record.Record.{Record}
use Rattle.roll.specs.Roll.{has_room, put_slots, put_filled}
use Rattle.run.specs.Calls.{fresh_on}
use Rattle.run.specs.declared.pair.Pair.{Pair}
use Rattle.session.specs.Law.{Row, emptied, no_law}
use Rattle.session.specs.Records.{State, record_fault, after_record, answered}
use Rattle.session.specs.Terms.{at_first}
use Rattle.session.specs.declared.cause.Cause.{Cause}
use Rattle.session.specs.declared.cause.Cause.TheVariants.{Feed}
use Rattle.session.specs.declared.entry.Answered.{Answered}
use Rattle.session.specs.declared.entry.Entry.{Entry}
use Rattle.session.specs.declared.entry.Entry.TheVariants.{Answer as Tells, Fault as Refuses}
use Rattle.session.specs.declared.fault.SessionFault.{SessionFault}
use Rattle.session.specs.declared.fault.SessionFault.TheVariants.{LogFull}
use Rattle.session.specs.declared.session.Progress.{Progress}
use Rattle.session.specs.declared.session.Progress.TheVariants.{Stepped, Ended}
use Rattle.units.specs.declared.Weight.{Weight}

-- a bound on the steps to come that take something: one for each byte, and one for a fault
abbrev pub remaining : Walk → ℕ
remaining walk = left walk + cond walk.ended 0 1

-- a session: its place in the feed, what the records work on, and the log
pub record View : Type 0 where
  pub walk : Walk
  pub state : State
  pub log : Row Entry

-- a roll of slots, none of them filled
abbrev pub blank_row : {A : Type 0} → List A → Row A
blank_row slots = record { slots = slots; filled = 0 }

-- a session begins with no law, an unopened run, plain, any-ruin, allowance 0 and limit 4,095
abbrev pub at_start : List ℕ → List Weight → List Pair → List Pair → List Entry → View
at_start feed weights board spare log = record {
  walk = begun feed;
  state = record { law = no_law; weights = blank_row weights; agreed = at_first; held = fresh_on board spare };
  log = blank_row log;
}

-- the log with one entry more, if there is one
abbrev pub logged : Row Entry → Option Entry → Row Entry
logged log None = log
logged log (Some entry) =
    record { slots = put_slots log.slots log.filled entry; filled = put_filled log.slots log.filled }

-- a refusal with the offset of its record, or what the record is answered with
abbrev pub entry_of : ℕ → Option Cause → Option Answered → Option Entry
entry_of offset (Some cause) answer = Some (Refuses (record { cause = cause; offset = offset }))
entry_of offset None None = None
entry_of offset None (Some answer) = Some (Tells answer)

-- what a record tells
abbrev pub told : Record → ℕ → State → Option Entry
told r offset s = entry_of offset (record_fault r s) (answered r s)

-- what stands next in the feed: what it tells, and what it makes of what the records work on
abbrev pub told_found : Found → State → Option Entry
told_found (Some (Ok taken)) s = told taken.0 taken.1 s
told_found (Some (Err stop)) s = Some (Refuses (record { cause = Feed stop.0; offset = stop.1 }))
told_found None s = None

abbrev pub state_found : Found → State → State
state_found (Some (Ok taken)) s = after_record taken.0 s
state_found (Some (Err stop)) s = s
state_found None s = s

abbrev pub taken : Step → View → View
taken next view = record {
  walk = next.after;
  state = state_found next.found view.state;
  log = logged view.log (told_found next.found view.state);
}

abbrev pub is_full : {A : Type 0} → Row A → Bool
is_full row = not (has_room row.slots row.filled)

-- the end of the feed is told even with a full log; with a full log nothing is read
abbrev pub step_answer : View → Result Progress SessionFault
step_answer view = cond (over view.walk) (Ok Ended) (cond (is_full view.log) (Err LogFull) (Ok Stepped))

abbrev pub after_step : View → View
after_step view =
    cond (over view.walk) view
    (cond (is_full view.log) view (taken (next_record view.walk) view))

abbrev pub with_log_emptied : View → View
with_log_emptied view = record { walk = view.walk; state = view.state; log = emptied view.log }

-- a step that takes something comes nearer to the end
abbrev pub Nearer : Result Progress SessionFault → Walk → Walk → Type 0
Nearer (Ok Stepped) before after = remaining after < remaining before
Nearer (Ok Ended) before after = Unit {0}
Nearer (Err fault) before after = Unit {0}
