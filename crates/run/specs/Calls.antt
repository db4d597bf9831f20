-- What open, advance and ask answer and leave. Assumes nothing.
use Rattle.std.specs.Prelude.{ℕ, ◌+◌, ◌^◌, Bool, true, false, not, ◌||◌, List, [], ◌∷◌, ◌++◌, length, drop, replicate, Option, Result, ◌==◌, nat_le, nat_lt, slice_index_or}
use Rattle.run.specs.Advance.{nil, known_after, board_after, spare_after}
use Rattle.run.specs.Period.{Period, dropped}
use Rattle.run.specs.declared.answer.Answer.{Answer}
use Rattle.run.specs.declared.fault.RunFault.{RunFault}
use Rattle.run.specs.declared.fault.RunFault.TheVariants.{
  LengthRange,
  ListShort,
  Unopened,
  AllowanceRange,
  NoneKnown,
  LevelUnknown,
  PeriodsFull,
}
use Rattle.run.specs.declared.pair.Pair.{Pair}
use Rattle.std.specs.Result.{result_and}
use Rattle.units.specs.Checks.{first_failing, outside, answer_unless, left_unless}

-- what a run keeps: whether it is open, the length of its row, the levels known, periods and dropped total
pub record Kept : Type 0 where
  pub is_open : Bool
  pub long : ℕ
  pub known : ℕ
  pub periods : ℕ
  pub total : ℕ

-- a run with the board and the spare that its caller hands to every call
pub record Held : Type 0 where
  pub run : Kept
  pub board : List Pair
  pub spare : List Pair

abbrev pub fresh : Kept
fresh = record { is_open = false; long = 0; known = 0; periods = 0; total = 0 }

-- a fresh run, and lists of any length and content
abbrev pub fresh_on : List Pair → List Pair → Held
fresh_on board spare = record { run = fresh; board = board; spare = spare }

-- whether a list of the two has fewer pairs than the row
abbrev pub too_short : ℕ → Held → Bool
too_short long held = nat_lt (length held.board) long || nat_lt (length held.spare) long

abbrev pub open_fault : ℕ → Held → Option RunFault
open_fault long held =
    first_failing ((outside 2 8192 long, LengthRange) ∷ ((too_short long held, ListShort) ∷ []))

abbrev pub opened : ℕ → Held → Held
opened long held = record {
  run = record { is_open = true; long = long; known = long; periods = 0; total = 0 };
  board = replicate long nil ++ drop long held.board;
  spare = held.spare;
}

abbrev pub advance_fault : Period → Held → Option RunFault
advance_fault period held =
    first_failing
    ((not held.run.is_open, Unopened)
    ∷ ((too_short held.run.long held, ListShort)
    ∷ ((nat_le 4095 held.run.periods, PeriodsFull)
    ∷ ((nat_lt (2 ^ 20) period.allowance, AllowanceRange)
    ∷ (((known_after held.run.long held.run.known period == 0), NoneKnown) ∷ [])))))

abbrev pub advanced : Period → Held → Held
advanced period held = record {
  run = record {
    is_open = true;
    long = held.run.long;
    known = known_after held.run.long held.run.known period;
    periods = held.run.periods + 1;
    total = held.run.total + dropped period;
  };
  board = board_after held.run.long held.run.known period held.board;
  spare = spare_after held.run.long held.board held.spare;
}

abbrev pub ask_fault : ℕ → Held → Option RunFault
ask_fault level held =
    first_failing
    ((not held.run.is_open, Unopened)
    ∷ ((too_short held.run.long held, ListShort) ∷ ((nat_le held.run.known level, LevelUnknown) ∷ [])))

abbrev pub answer_at : ℕ → Held → Answer
answer_at level held = record {
  pair = slice_index_or held.board level nil;
  periods = record { 0 = held.run.periods };
  dropped = record { 0 = held.run.total };
}

abbrev pub open_answer : ℕ → Held → Result (Unit {0}) RunFault
open_answer long held = answer_unless (open_fault long held) tt

abbrev pub advance_answer : Period → Held → Result (Unit {0}) RunFault
advance_answer period held = answer_unless (advance_fault period held) tt

abbrev pub ask_answer : ℕ → Held → Result Answer RunFault
ask_answer level held = answer_unless (ask_fault level held) (answer_at level held)

-- a call by its arguments
pub data Call : Type 0 where
  opens : ℕ → Call
  advances : Period → Call
  asks : ℕ → Call

-- what a call leaves, refused or not
abbrev pub after : Call → Held → Held
after (opens long) held = left_unless (open_fault long held) (opened long held) held
after (advances period) held = left_unless (advance_fault period held) (advanced period held) held
after (asks level) held = held

-- the answer of open, advance and ask one after the other, up to the first that is refused
abbrev pub one_answer : ℕ → Period → ℕ → Held → Result Answer RunFault
one_answer long period level held =
    result_and (open_answer long held)
    (result_and (advance_answer period (after (opens long) held))
    (ask_answer level (after (advances period) (after (opens long) held))))
