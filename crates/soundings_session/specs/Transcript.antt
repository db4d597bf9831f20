-- What the program writes of a feed. Assumes nothing.
use Rattle.std.specs.Prelude.{◌≡◌, ℕ, List, [], ◌++◌, length, Ok}
use Rattle.report.specs.Lines.{answer_line_lem, refusal_line_lem, end_line_lem}
use Rattle.run.specs.Calls.{Call}
use Rattle.run.specs.History.{Ledger, ledger_of}
use Rattle.run.specs.declared.pair.Pair.{Pair}
use Rattle.session.specs.Fault.{cause_number}
use Rattle.session.specs.Histories.{calls_after, StepFaithful}
use Rattle.session.specs.Law.{items}
use Rattle.session.specs.Step.{View, at_start, step_answer, after_step, with_log_emptied}
use Rattle.session.specs.declared.entry.Entry.{Entry}
use Rattle.session.specs.declared.entry.Entry.TheVariants.{Answer, Fault}
use Rattle.session.specs.declared.session.Progress.TheVariants.{Stepped, Ended}
use Rattle.std.specs.List.{flat_map}
use Rattle.units.specs.declared.Weight.{Weight}

abbrev pub line_of : Entry → List ℕ
line_of (Answer told) = answer_line_lem told.level.0 told.answer
line_of (Fault told) = refusal_line_lem (cause_number told.cause) told.offset

abbrev pub lines_of : List Entry → List ℕ
lines_of entries = flat_map line_of entries

-- the ledger of the run's calls so far, the latest first
abbrev pub ledger_in : View → List Call → Ledger
ledger_in view calls = ledger_of (length view.state.held.board) (length view.state.held.spare) calls

-- the text of a session from here to its end: after each step the lines of what is logged, the log then emptied, and at
-- the end the count of whole records; what an ask is answered with is faithful to the ledger of the calls that records made before
pub data Tells : View → List Call → List ℕ → Type 0 where
  ends : {view : View} {calls : List Call} → step_answer view ≡ Ok Ended → Tells view calls (end_line_lem view.walk.whole)
  steps :
      {view : View} {calls : List Call} {later : List ℕ} → step_answer view ≡ Ok Stepped
      → StepFaithful (ledger_in view calls) view
      → Tells (with_log_emptied (after_step view)) (calls_after view calls) later
      → Tells view calls (lines_of (items (after_step view).log) ++ later)

-- the whole text of a feed: a session from its beginning, on lists that are as long as a session can use
pub record Transcript (feed text : List ℕ) : Type 0 where
  pub weights : List Weight
  pub board : List Pair
  pub spare : List Pair
  pub log : List Entry
  pub slots : length weights ≡ 4096
  pub pairs : length board ≡ 8192
  pub spares : length spare ≡ 8192
  pub entries : length log ≡ 1
  pub tells : Tells (at_start feed weights board spare log) [] text
