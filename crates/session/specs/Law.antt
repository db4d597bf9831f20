-- The law that a session is given, and the roll of its weights. Assumes nothing.
use Rattle.std.specs.Prelude.{ℕ, ◌+◌, ◌-◌, List, [], ◌∷◌, ◌++◌, length, take, drop, replicate, Some, None, Option, nat_le}
use Rattle.claims.specs.Draft.{Given, nothing_given, give_fault, given_also}
use Rattle.roll.specs.declared.fault.RollFault.TheVariants.{Full}
use Rattle.session.specs.declared.cause.Cause.{Cause}
use Rattle.session.specs.declared.cause.Cause.TheVariants.{Roll}
use Rattle.session.specs.declared.cause.Cause.TheVariants.{Law as OfLaw}
use Rattle.std.specs.Option.{option_map}
use Rattle.units.specs.Checks.{first_failing}
use Rattle.units.specs.declared.Amount.{Amount}
use Rattle.units.specs.declared.Weight.{Weight}

-- a roll by its slots and how many of them are filled
pub record Row (A : Type 0) : Type 0 where
  pub slots : List A
  pub filled : ℕ

abbrev pub items : {A : Type 0} → Row A → List A
items row = take row.filled row.slots

abbrev pub emptied : {A : Type 0} → Row A → Row A
emptied row = record { slots = row.slots; filled = 0 }

-- the stages: no law, a law of which a part is given, and a whole law by its weights
pub data Law : Type 0 where
  no_law : Law
  part_law : Given → Law
  whole_law : List Weight → Law

-- outside part law a weight begins a new law, with nothing given and the roll emptied
abbrev pub given_in : Law → Given
given_in no_law = nothing_given
given_in (part_law given) = given
given_in (whole_law weights) = nothing_given

abbrev pub row_in : Law → Row Weight → Row Weight
row_in no_law row = emptied row
row_in (part_law given) row = row
row_in (whole_law weights) row = emptied row

-- the first that is told
abbrev pub or_else : {A : Type 0} → Option A → Option A → Option A
or_else None later = later
or_else (Some fault) later = Some fault

-- a w record: 304, 305, 302, and 101 where there are fewer slots than the amount plus 1
abbrev pub claim_fault : Law → Row Weight → Amount → Weight → Option Cause
claim_fault law row amount weight =
    or_else (option_map OfLaw (give_fault (given_in law) amount weight))
    (first_failing ((nat_le (length row.slots) amount.0, Roll Full) ∷ []))

abbrev pub claimed_law : Law → Amount → Weight → Law
claimed_law law amount weight = part_law (given_also (given_in law) amount weight)

-- the weight at its amount, and nothing at the amounts between that were not given
abbrev pub placed : Row Weight → ℕ → Weight → Row Weight
placed row amount weight = record {
  slots =
      take row.filled row.slots
      ++ (replicate (amount - row.filled) (record { 0 = 0 }) ++ (weight ∷ drop (amount + 1) row.slots));
  filled = amount + 1;
}

abbrev pub claimed_row : Law → Row Weight → Amount → Weight → Row Weight
claimed_row law row amount weight = placed (row_in law row) amount.0 weight
