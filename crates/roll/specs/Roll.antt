-- What a roll's calls answer. Assumes nothing.
use Rattle.std.specs.Prelude.{ℕ, ◌+◌, ◌-◌, max, Bool, cond, List, ◌++◌, length, take, drop, replicate, Ok, Err, Result, nat_le, nat_lt, slice_set}
use Rattle.roll.specs.declared.fault.RollFault.{RollFault}
use Rattle.roll.specs.declared.fault.RollFault.TheVariants.{Full, NotFilled}
use Rattle.std.specs.Option.{ok_or}
use Rattle.std.specs.List.{slice_get}

abbrev pub has_room : {A : Type 0} → List A → ℕ → Bool
has_room slots filled = nat_lt filled (length slots)

abbrev pub put_answer : {A : Type 0} → List A → ℕ → Result (Unit {0}) RollFault
put_answer slots filled = cond (has_room slots filled) (Ok tt) (Err Full)

abbrev pub put_slots : {A : Type 0} → List A → ℕ → A → List A
put_slots slots filled item = cond (has_room slots filled) (slice_set slots filled item) slots

abbrev pub put_filled : {A : Type 0} → List A → ℕ → ℕ
put_filled slots filled = cond (has_room slots filled) (filled + 1) filled

-- whether there are as many slots
abbrev pub has_slots : {A : Type 0} → List A → ℕ → Bool
has_slots slots count = nat_le count (length slots)

abbrev pub pad_answer : {A : Type 0} → List A → ℕ → Result (Unit {0}) RollFault
pad_answer slots count = cond (has_slots slots count) (Ok tt) (Err Full)

-- the filled slots, copies of the item up to the count, and the slots behind them
abbrev pub padded : {A : Type 0} → List A → ℕ → ℕ → A → List A
padded slots filled count item = take filled slots ++ (replicate (count - filled) item ++ drop (max filled count) slots)

abbrev pub pad_slots : {A : Type 0} → List A → ℕ → ℕ → A → List A
pad_slots slots filled count item = cond (has_slots slots count) (padded slots filled count item) slots

abbrev pub pad_filled : {A : Type 0} → List A → ℕ → ℕ → ℕ
pad_filled slots filled count = cond (has_slots slots count) (max filled count) filled

abbrev pub read_answer : {A : Type 0} → List A → ℕ → Result A RollFault
read_answer items place = ok_or (slice_get items place) NotFilled
