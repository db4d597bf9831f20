-- The bounds by recursion on the periods, for every level, known or not.
use Rattle.std.proofs.Common.{ℕ, List, [], ◌∷◌}
use Rattle.run.specs.Advance.{lower_bound, upper_bound}
use Rattle.run.specs.Period.{Period, Meaningful}

abbrev pub AllMeaningful : List Period → Type 0
AllMeaningful [] = Unit {0}
AllMeaningful (period ∷ later) = Meaningful period × AllMeaningful later

unfoldable pub lower_with : List Period → ℕ → ℕ
lower_with [] u = 0
lower_with (period ∷ later) u = lower_bound period (lower_with later) u

unfoldable pub upper_with : List Period → ℕ → ℕ
upper_with [] u = 0
upper_with (period ∷ later) u = upper_bound period (upper_with later) u
