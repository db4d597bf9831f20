-- What a period in front of those on a board makes of it. Assumes nothing.
use Rattle.std.specs.Prelude.{ℕ, zero, suc, ◌+◌, ◌-◌, ◌*◌, ◌/◌, List, ◌++◌, map, take, drop, replicate, count_by, nat_lt, slice_index_or}
use Rattle.run.specs.Period.{Period, weight_at, cut, cost, dropped}
use Rattle.run.specs.declared.pair.Pair.{Pair}
use Rattle.std.specs.List.{range_with_len}
use Rattle.units.specs.One.{one}
use Rattle.units.specs.Surplus.{surplus_of}

-- the sum of f over the numbers below n
abbrev pub sum_below : ℕ → (ℕ → ℕ) → ℕ
sum_below zero f = 0
sum_below (suc n) f = sum_below n f + f n

abbrev pub nil : Pair
nil = record { lower = 0; upper = 0 }

-- the costs of the amounts below the cut, each by its weight
abbrev pub weighed : Period → (ℕ → ℕ) → ℕ → ℕ
weighed period bound u =
    sum_below (cut period.allowance period.weights) (λ j. weight_at period.weights j * cost period bound (surplus_of u j))

abbrev pub rounded_down : ℕ → ℕ
rounded_down n = n / one

abbrev pub rounded_up : ℕ → ℕ
rounded_up n = (n + (one - 1)) / one

abbrev pub lower_bound : Period → (ℕ → ℕ) → ℕ → ℕ
lower_bound period bound u = rounded_down (weighed period bound u)

abbrev pub upper_bound : Period → (ℕ → ℕ) → ℕ → ℕ
upper_bound period bound u = rounded_up (weighed period bound u + dropped period * one)

-- the pair of level u, with the period in front of those of the old row
abbrev pub pair_at : Period → List Pair → ℕ → Pair
pair_at period old u = record {
  lower = lower_bound period (λ v. (slice_index_or old v nil).lower) u;
  upper = upper_bound period (λ v. (slice_index_or old v nil).upper) u;
}

-- the number of levels below the length that the rule carries, one premium on, to a known level
abbrev pub known_by : ℕ → ℕ → (ℕ → ℕ) → ℕ
known_by long known carried = count_by (λ u. nat_lt (carried (u + 1)) known) (range_with_len 0 long)

abbrev pub known_after : ℕ → ℕ → Period → ℕ
known_after long known period = known_by long known period.carried

-- a row of known pairs, then 0 and 0
abbrev pub row_after : ℕ → ℕ → Period → List Pair → List Pair
row_after long known period old =
    map (pair_at period old) (range_with_len 0 (known_after long known period))
    ++ replicate (long - known_after long known period) nil

-- the row in front of what stands past it
abbrev pub board_after : ℕ → ℕ → Period → List Pair → List Pair
board_after long known period board = row_after long known period board ++ drop long board

-- the former row in front of what stands past it
abbrev pub spare_after : ℕ → List Pair → List Pair → List Pair
spare_after long board spare = take long board ++ drop long spare
