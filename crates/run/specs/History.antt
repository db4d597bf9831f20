-- Histories of calls, the ledger that follows their arguments, and answers that are faithful to it. Assumes nothing.
use Rattle.std.specs.Prelude.{◌≡◌, ℕ, ◌+◌, ◌*◌, ◌^◌, ◌≤◌, Bool, cond, ◌&&◌, ◌||◌, List, [], ◌∷◌, length, replicate, Ok, Err, sum_by, Result, nat_le, nat_lt, slice_index_or}
use Rattle.run.specs.Advance.{nil, known_after, row_after}
use Rattle.run.specs.Calls.{Held, Call, opens, advances, asks, after, fresh_on}
use Rattle.run.specs.Exact.{exact_value, stays_on}
use Rattle.run.specs.Period.{Period, Meaningful, dropped}
use Rattle.run.specs.declared.answer.Answer.{Answer}
use Rattle.run.specs.declared.fault.RunFault.{RunFault}
use Rattle.run.specs.declared.fault.RunFault.TheVariants.{Unopened, LevelUnknown}
use Rattle.run.specs.declared.pair.Pair.{Pair}
use Rattle.units.specs.Checks.{outside}
use Rattle.units.specs.One.{one}

-- an advance may bring any law, rule and penalty that keep what their interfaces promise
abbrev pub Proper : Call → Type 0
Proper (opens long) = Unit {0}
Proper (advances period) = Meaningful period
Proper (asks level) = Unit {0}

-- the calls, the latest first, that lead from a fresh run on one board and one spare to what is held
pub data LeadTo : List Call → Held → Type 0 where
  begins : (board spare : List Pair) → LeadTo [] (fresh_on board spare)
  then : {calls : List Call} {held : Held} (call : Call) → Proper call → LeadTo calls held → LeadTo (call ∷ calls) (after call held)

-- blank, or the length and the periods, the first in time first
pub data Ledger : Type 0 where
  blank : Ledger
  holds : ℕ → List Period → Ledger

-- whether the path without claims from level 0 stays on the board with the period in front, and its allowance and count are allowed
abbrev pub addable : ℕ → Period → List Period → Bool
addable long period periods =
    nat_le period.allowance (2 ^ 20) && (nat_lt (length periods) 4095 && stays_on long (period ∷ periods) 0)

-- a board and a spare of the given lengths; no answer counts, nor what the run keeps
abbrev pub noted : ℕ → ℕ → Call → Ledger → Ledger
noted board_length spare_length (opens long) ledger =
    cond (outside 2 8192 long || (nat_lt board_length long || nat_lt spare_length long)) ledger (holds long [])
noted board_length spare_length (advances period) blank = blank
noted board_length spare_length (advances period) (holds long periods) =
    cond (addable long period periods) (holds long (period ∷ periods)) (holds long periods)
noted board_length spare_length (asks level) ledger = ledger

abbrev pub ledger_of : ℕ → ℕ → List Call → Ledger
ledger_of board_length spare_length [] = blank
ledger_of board_length spare_length (call ∷ calls) =
    noted board_length spare_length call (ledger_of board_length spare_length calls)

-- the levels known, and the row, after open and the advances of the periods, the last in time first
abbrev pub known_with : ℕ → List Period → ℕ
known_with long [] = long
known_with long (period ∷ later) = known_after long (known_with long later) period

abbrev pub row_with : ℕ → List Period → List Pair
row_with long [] = replicate long nil
row_with long (period ∷ later) = row_after long (known_with long later) period (row_with long later)

abbrev pub dropped_by : List Period → ℕ
dropped_by periods = sum_by dropped periods

abbrev pub ledger_pair : ℕ → List Period → ℕ → Pair
ledger_pair long periods level = slice_index_or (row_with long periods) level nil

-- what the ledger has for a level: unopened, unknown, or its pair, its count and its dropped total
abbrev pub ledger_answer : Ledger → ℕ → Result Answer RunFault
ledger_answer blank level = Err Unopened
ledger_answer (holds long periods) level =
    cond (stays_on long periods level)
    (Ok (record {
      pair = ledger_pair long periods level;
      periods = record { 0 = length periods };
      dropped = record { 0 = dropped_by periods };
    }))
    (Err LevelUnknown)

-- the pair encloses the exact value, and is no wider than the count and the dropped total
pub record Encloses (periods : List Period) (level : ℕ) (pair : Pair) : Type 0 where
  pub lower : pair.lower * one ^ length periods ≤ exact_value periods level
  pub upper : exact_value periods level ≤ pair.upper * one ^ length periods
  pub width : pair.upper ≤ pair.lower + (length periods + dropped_by periods)

-- an answered pair encloses the exact value of the ledger's periods
abbrev pub PairEncloses : Ledger → ℕ → Result Answer RunFault → Type 0
PairEncloses blank level answer = Unit {0}
PairEncloses (holds long periods) level (Ok answer) = Encloses periods level answer.pair
PairEncloses (holds long periods) level (Err fault) = Unit {0}

-- an answer is the ledger's, and its pair encloses the exact value
pub record Faithful (ledger : Ledger) (level : ℕ) (answer : Result Answer RunFault) : Type 0 where
  pub same : answer ≡ ledger_answer ledger level
  pub bounded : PairEncloses ledger level answer
