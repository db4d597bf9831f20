-- Figures worked by hand, and what it is for the definitions to give them. Assumes nothing.
use Rattle.std.specs.Prelude.{◌≡◌, ℕ, ◌-◌, ◌^◌, List, [], ◌∷◌, ◌++◌, map, replicate, Ok, Err}
use Rattle.capital.specs.Meanings.{plain_level, floor_level, barrier_level, any_ruin_price, below_price}
use Rattle.claims.specs.Retained.{retained_weights}
use Rattle.run.specs.Advance.{nil}
use Rattle.run.specs.Calls.{Call, opens, advances, Held, fresh_on, after, advance_answer}
use Rattle.run.specs.History.{ledger_of, ledger_answer}
use Rattle.run.specs.Period.{Period, period_of}
use Rattle.run.specs.declared.fault.RunFault.TheVariants.{NoneKnown, LevelUnknown}
use Rattle.units.specs.One.{one}
use Rattle.units.specs.declared.Weight.{Weight}

abbrev pub weight : ℕ → Weight
weight n = record { 0 = n }

-- a half at nil and a half at two
abbrev pub law_a : List Weight
law_a = weight (2 ^ 29) ∷ weight 0 ∷ weight (2 ^ 29) ∷ []

-- one share of ONE at two
abbrev pub law_b : List Weight
law_b = weight (one - 1) ∷ weight 0 ∷ weight 1 ∷ []

abbrev pub plainly : List Weight → Period
plainly law = period_of law plain_level any_ruin_price 0

abbrev pub floored : ℕ → Period
floored floor = period_of law_a (floor_level floor) any_ruin_price 0

abbrev pub barred : ℕ → Period
barred barrier = period_of law_a (barrier_level barrier) any_ruin_price 0

-- a run opened with a length, and its periods, the first in time first; what is then asked, and what comes
pub data Figure : Type 0 where
  bounds : ℕ → List Period → (level lower upper count dropped : ℕ) → Figure
  unknown : ℕ → List Period → (level : ℕ) → Figure
  none_known : ℕ → List Period → Period → Figure
  knows : ℕ → List Period → (known : ℕ) → Figure

-- the calls of such a run, the latest first
abbrev pub calls_of : ℕ → List Period → List Call
calls_of long periods = map advances periods ++ (opens long ∷ [])

-- what the calls leave of a fresh run on lists of the length
abbrev pub held_after : ℕ → List Call → Held
held_after long [] = fresh_on (replicate long nil) (replicate long nil)
held_after long (call ∷ earlier) = after call (held_after long earlier)

abbrev pub Comes : Figure → Type 0
Comes (bounds long periods level lower upper count dropped) =
    ledger_answer (ledger_of long long (calls_of long periods)) level
    ≡ Ok (record {
      pair = record { lower = lower; upper = upper };
      periods = record { 0 = count };
      dropped = record { 0 = dropped };
    })
Comes (unknown long periods level) =
    ledger_answer (ledger_of long long (calls_of long periods)) level ≡ Err LevelUnknown
Comes (none_known long periods period) =
    advance_answer period (held_after long (calls_of long periods)) ≡ Err NoneKnown
Comes (knows long periods known) = (held_after long (calls_of long periods)).run.known ≡ known

abbrev pub AllCome : List Figure → Type 0
AllCome [] = Unit {0}
AllCome (figure ∷ others) = Comes figure × AllCome others

abbrev pub figures : List Figure
figures =
    bounds 4 (plainly law_a ∷ []) 0 536870912 536870912 1 0
    ∷ bounds 4 (plainly law_a ∷ []) 1 536870912 536870912 1 0
    ∷ bounds 4 (plainly law_a ∷ []) 2 0 0 1 0
    ∷ unknown 4 (plainly law_a ∷ []) 3
    ∷ bounds 4 (replicate 2 (plainly law_a)) 0 805306368 805306368 2 0
    ∷ unknown 4 (replicate 2 (plainly law_a)) 2
    ∷ bounds 4 (replicate 3 (plainly law_a)) 0 805306368 805306368 3 0
    ∷ none_known 4 (replicate 3 (plainly law_a)) (plainly law_a)
    ∷ bounds 4 (replicate 2 (period_of law_a plain_level (below_price 1) 0)) 0 268435456 268435456 2 0
    ∷ bounds 5 (replicate 2 (floored 1)) 0 805306368 805306368 2 0
    ∷ bounds 5 (replicate 2 (floored 3)) 0 536870912 536870912 2 0
    ∷ knows 5 (floored 4 ∷ []) 4
    ∷ none_known 5 [] (floored 5)
    ∷ knows 4 (barred 2 ∷ plainly law_a ∷ []) 4
    ∷ knows 4 (barred 2 ∷ replicate 2 (plainly law_a)) 1
    ∷ bounds 4 (replicate 2 (plainly law_b)) 0 1 2 2 0
    ∷ bounds 4 (period_of law_b plain_level any_ruin_price 1 ∷ []) 0 0 1 1 1
    ∷ bounds 4 (plainly law_b ∷ []) 0 1 1 1 0
    ∷ bounds 4 (plainly (retained_weights (record { 0 = 1 }) law_a) ∷ []) 1 0 0 1 0
    ∷ []
