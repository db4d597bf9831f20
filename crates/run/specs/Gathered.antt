-- The arrays that advance works from: what the law, the rule and the penalty answered, once each. Assumes nothing.
use Rattle.std.specs.Prelude.{ℕ, ◌+◌, ◌*◌, Bool, true, cond, List, length, ℤ, Some, None, Option, ◌==◌, nat_lt, slice_index, slice_index_or}
use Rattle.run.specs.Advance.{sum_below, nil, rounded_down, rounded_up, known_after}
use Rattle.run.specs.Period.{Period, cost_by, dropped}
use Rattle.run.specs.declared.pair.Pair.{Pair}
use Rattle.run.specs.declared.run.Worked.{Worked}
use Rattle.units.specs.One.{one}
use Rattle.units.specs.Surplus.{at_end}

-- a surplus that is ruin, or that the rule carries to a known level
abbrev pub reaches : (ℕ → ℕ) → ℕ → ℤ → Bool
reaches carried known surplus = at_end (λ d. true) (λ s. nat_lt (carried s) known) surplus

-- what a surplus costs by both bounds of the old row
abbrev pub cost_pair : (ℕ → ℕ) → (ℕ → ℕ) → List Pair → ℤ → Pair
cost_pair carried priced old surplus = record {
  lower = cost_by carried priced (λ v. (slice_index_or old v nil).lower) surplus;
  upper = cost_by carried priced (λ v. (slice_index_or old v nil).upper) surplus;
}

-- the pair that weights, last amount first, make of the costs from a place on
abbrev pub pair_from : List ℕ → List Pair → ℕ → ℕ → Pair
pair_from weights costs dropped place = record {
  lower = rounded_down (sum_below (length weights) (λ i. slice_index weights i * (slice_index_or costs (place + i) nil).lower));
  upper = rounded_up (sum_below (length weights) (λ i. slice_index weights i * (slice_index_or costs (place + i) nil).upper) + dropped * one);
}

-- what working a period comes to, or leaves, if a level is known then
abbrev pub where_known : {A : Type 0} → (known : ℕ) (after before : A) → A
where_known known after before = cond (known == 0) before after

abbrev pub worked_of : ℕ → ℕ → Period → Option Worked
worked_of long known period =
    where_known (known_after long known period)
    (Some (record { known = known_after long known period; dropped = dropped period })) None
