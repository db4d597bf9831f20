-- One period by its meanings, its cut, and what the end of it costs. Assumes nothing.
use Rattle.std.specs.Prelude.{ℕ, suc, ◌<◌, ◌≤◌, cond, List, [], ◌∷◌, drop, ℤ, nat_le, slice_index_or}
use Rattle.capital.specs.Laws.{Within, Rising, Bounded}
use Rattle.claims.specs.Law.{Lawful, total}
use Rattle.units.specs.Surplus.{at_end}
use Rattle.units.specs.declared.Weight.{Weight}

-- a claim law, a capital rule and a penalty by what they mean, and an allowance
pub record Period : Type 0 where
  pub weights : List Weight
  pub carried : ℕ → ℕ
  pub priced : ℕ → ℕ
  pub allowance : ℕ

abbrev pub period_of : List Weight → (ℕ → ℕ) → (ℕ → ℕ) → ℕ → Period
period_of weights carried priced allowance =
    record { weights = weights; carried = carried; priced = priced; allowance = allowance }

-- what the interfaces promise of every claim law, capital rule and penalty
pub record Meaningful (period : Period) : Type 0 where
  pub lawful : Lawful period.weights
  pub within : Within period.carried
  pub rising : Rising period.carried
  pub bounded : Bounded period.priced

-- the weight of an amount as a number, 0 past the last amount
abbrev pub weight_at : List Weight → ℕ → ℕ
weight_at weights j = (slice_index_or weights j (record { 0 = 0 })).0

-- the least number such that the weights of the amounts from it on sum to at most the allowance
abbrev pub cut : ℕ → List Weight → ℕ
cut allowance [] = 0
cut allowance (weight ∷ later) = cond (nat_le (total (weight ∷ later)) allowance) 0 (suc (cut allowance later))

-- what the cut is meant to be, and is proved to be
pub record LeastCut (allowance : ℕ) (weights : List Weight) (amounts : ℕ) : Type 0 where
  pub rest : total (drop amounts weights) ≤ allowance
  pub least : (k : ℕ) → k < amounts → allowance < total (drop k weights)

-- the weight of the amounts from the cut on
abbrev pub dropped : Period → ℕ
dropped period = total (drop (cut period.allowance period.weights) period.weights)

-- what a surplus costs: ruin its penalty, else the bound of the level that the rule carries it to
abbrev pub cost_by : (ℕ → ℕ) → (ℕ → ℕ) → (ℕ → ℕ) → ℤ → ℕ
cost_by carried priced bound surplus = at_end priced (λ s. bound (carried s)) surplus

abbrev pub cost : Period → (ℕ → ℕ) → ℤ → ℕ
cost period bound surplus = cost_by period.carried period.priced bound surplus
