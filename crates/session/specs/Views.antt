-- A session of the code as the definitions read it. Assumes nothing.
use Rattle.std.specs.Prelude.{◌≡◌, Option, Result}
use Rattle.feed.specs.Walk.{walk_of}
use Rattle.feed.specs.declared.record.Record.{Record}
use Rattle.session.specs.Parts.{law_of, agreed_by, held_in}
use Rattle.session.specs.Stages.{row_of}
use Rattle.session.specs.Records.{State, done, answered}
use Rattle.session.specs.Step.{View}
use Rattle.session.specs.declared.cause.Cause.{Cause}
use Rattle.session.specs.declared.entry.Answered.{Answered}
use Rattle.session.specs.declared.session.Session.{Session}
use Rattle.units.specs.Checks.{answer_unless, left_unless}

abbrev pub state_of : Session → State
state_of session = record {
  law = law_of session.book;
  weights = row_of session.book.weights;
  agreed = agreed_by session.terms;
  held = held_in session.desk;
}

abbrev pub view_of : Session → View
view_of session =
    record { walk = walk_of session.reader; state = state_of session; log = row_of session.log }

-- the lists stay those that were lent, so that the lender knows what they hold
pub record SameLists (before after : Session) : Type 0 where
  pub weights : after.book.weights.slots.ghost_name ≡ before.book.weights.slots.ghost_name
  pub board : after.desk.board.ghost_name ≡ before.desk.board.ghost_name
  pub spare : after.desk.spare.ghost_name ≡ before.desk.spare.ghost_name
  pub log : after.log.slots.ghost_name ≡ before.log.slots.ghost_name

-- what a record is answered with and leaves, given why it is refused, if it is; it touches neither feed nor log
pub record Acts (r : Record) (fault : Option Cause) (before after : Session) (answer : Result (Option Answered) Cause) : Type 0 where
  pub answers : answer ≡ answer_unless fault (answered r (state_of before))
  pub leaves : state_of after ≡ left_unless fault (done r (state_of before)) (state_of before)
  pub walk : walk_of after.reader ≡ walk_of before.reader
  pub log : row_of after.log ≡ row_of before.log
  pub lists : SameLists before after
