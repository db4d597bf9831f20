-- The exact value of ruin, by all claim sequences, and the path without claims. Assumes nothing.
use Rattle.std.specs.Prelude.{ℕ, ◌+◌, ◌*◌, Bool, ◌&&◌, List, [], ◌∷◌, ◌++◌, map, length, ℤ, Some, None, sum_by, Option, nat_lt}
use Rattle.run.specs.Period.{Period, weight_at}
use Rattle.std.specs.List.{range_with_len}
use Rattle.std.specs.Option.{unwrap_or}
use Rattle.units.specs.Surplus.{surplus_of, at_end}

-- each amount in front of each sequence
abbrev pub in_front : List ℕ → List (List ℕ) → List (List ℕ)
in_front [] sequences = []
in_front (j ∷ amounts) sequences = map (λ sequence. j ∷ sequence) sequences ++ in_front amounts sequences

-- all claim sequences: for each period, first in time first, an amount from 0 to its law's last
abbrev pub all_sequences : List Period → List (List ℕ)
all_sequences [] = [] ∷ []
all_sequences (period ∷ later) = in_front (range_with_len 0 (length period.weights)) (all_sequences later)

-- the product of a sequence's weights; no sequence of `all_sequences` is shorter than the periods
abbrev pub weight_of : List Period → List ℕ → ℕ
weight_of [] sequence = 1
weight_of (period ∷ later) [] = 1
weight_of (period ∷ later) (j ∷ sequence) = weight_at period.weights j * weight_of later sequence

-- a surplus that is ruin gives its penalty, any other goes on from the level that the rule carries it to
abbrev pub ruin_or : Period → ℤ → (ℕ → Option ℕ) → Option ℕ
ruin_or period surplus onward = at_end (λ d. Some (period.priced d)) (λ s. onward (period.carried s)) surplus

-- the penalty of the first period of a sequence that ends in ruin, if one does
abbrev pub first_ruin : List Period → ℕ → List ℕ → Option ℕ
first_ruin [] u sequence = None
first_ruin (period ∷ later) u [] = None
first_ruin (period ∷ later) u (j ∷ sequence) = ruin_or period (surplus_of u j) (λ v. first_ruin later v sequence)

-- the sum of weight times penalty over the sequences that ruin the level
abbrev pub exact_value : List Period → ℕ → ℕ
exact_value periods u =
    sum_by (λ sequence. weight_of periods sequence * unwrap_or (first_ruin periods u sequence) 0) (all_sequences periods)

-- whether the path without claims from a level stays on a board of the length
abbrev pub stays_on : ℕ → List Period → ℕ → Bool
stays_on long [] u = nat_lt u long
stays_on long (period ∷ later) u = nat_lt u long && stays_on long later (period.carried (u + 1))
