-- What an advance of a session works with, beside the law. Assumes nothing.
use Rattle.std.specs.Prelude.{ℕ, ◌^◌, List, [], ◌∷◌, Option, nat_lt}
use Rattle.capital.specs.Meanings.{plain_level, any_ruin_price}
use Rattle.claims.specs.Retained.{retained_weights}
use Rattle.run.specs.Period.{Period, period_of}
use Rattle.run.specs.declared.fault.RunFault.{RunFault}
use Rattle.run.specs.declared.fault.RunFault.TheVariants.{AllowanceRange}
use Rattle.units.specs.Checks.{first_failing}
use Rattle.units.specs.declared.Amount.{Amount}
use Rattle.units.specs.declared.Weight.{Weight}

-- rule and penalty by what they mean, the allowance, and the limit of the retained law
pub record Agreed : Type 0 where
  pub carried : ℕ → ℕ
  pub priced : ℕ → ℕ
  pub allowance : ℕ
  pub limit : Amount

-- plain, any-ruin, nothing dropped, all that a claim can be retained
abbrev pub at_first : Agreed
at_first = record { carried = plain_level; priced = any_ruin_price; allowance = 0; limit = record { 0 = 4095 } }

-- each record sets one of them
abbrev pub with_rule : Agreed → (ℕ → ℕ) → Agreed
with_rule agreed carried =
    record { carried = carried; priced = agreed.priced; allowance = agreed.allowance; limit = agreed.limit }

abbrev pub with_price : Agreed → (ℕ → ℕ) → Agreed
with_price agreed priced =
    record { carried = agreed.carried; priced = priced; allowance = agreed.allowance; limit = agreed.limit }

abbrev pub with_allowance : Agreed → ℕ → Agreed
with_allowance agreed allowance =
    record { carried = agreed.carried; priced = agreed.priced; allowance = allowance; limit = agreed.limit }

abbrev pub with_limit : Agreed → Amount → Agreed
with_limit agreed limit =
    record { carried = agreed.carried; priced = agreed.priced; allowance = agreed.allowance; limit = limit }

abbrev pub allowance_fault : Weight → Option RunFault
allowance_fault weight = first_failing ((nat_lt (2 ^ 20) weight.0, AllowanceRange) ∷ [])

-- the period that an advance adds: what is retained of the law, by the terms
abbrev pub period_by : Agreed → List Weight → Period
period_by agreed weights =
    period_of (retained_weights agreed.limit weights) agreed.carried agreed.priced agreed.allowance
