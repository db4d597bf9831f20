-- What every claim law means: a list of weights, the first of amount 0. Assumes nothing.
use Rattle.std.specs.Prelude.{◌≡◌, ℕ, ◌-◌, ◌≤◌, List, length, sum_by}
use Rattle.units.specs.One.{one}
use Rattle.units.specs.declared.Weight.{Weight}

abbrev pub total : List Weight → ℕ
total weights = sum_by (λ w. w.0) weights

abbrev pub last_amount : List Weight → ℕ
last_amount weights = length weights - 1

pub record Lawful (weights : List Weight) : Type 0 where
  pub some : 1 ≤ length weights
  pub few : length weights ≤ 4096
  pub whole : total weights ≡ one
