-- Calls that are refused by the first of their checks that fails. Assumes nothing.
use Rattle.std.specs.Prelude.{ℕ, Bool, cond, ◌||◌, List, [], ◌∷◌, Some, None, Ok, Err, Option, Result, nat_lt}

-- whether a number lies outside a range, both ends of which are in it
abbrev pub outside : ℕ → ℕ → ℕ → Bool
outside least most n = nat_lt n least || nat_lt most n

-- checks in their order: whether each fails, and what it then tells
abbrev pub first_failing : {F : Type 0} → List (Bool × F) → Option F
first_failing [] = None
first_failing (check ∷ later) = cond check.0 (Some check.1) (first_failing later)

-- the answer of a call, given its first failing check
abbrev pub answer_unless : {F A : Type 0} → Option F → A → Result A F
answer_unless None answer = Ok answer
answer_unless (Some fault) answer = Err fault

-- what a call leaves, given its first failing check: a refusal alters nothing
abbrev pub left_unless : {F A : Type 0} → Option F → A → A → A
left_unless None after before = after
left_unless (Some fault) after before = before
