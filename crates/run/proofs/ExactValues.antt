-- The exact value by recursion on the periods: all sequences weigh one ^ n in all, and the value with a period in front
-- is the sum of what its amounts lead to, each by its weight.
use Rattle.std.proofs.Common.{◌≡◌, ℕ, zero, suc, ◌+◌, ◌*◌, ◌^◌, ◌<◌, ◌≤◌, List, [], ◌∷◌, map, length}
use Rattle.std.proofs.Common.{ℤ, pos, negsuc, sum_by, unwrap_or, sym, refl, ap, ◌∙◌, ap₂, mul-le-mul_right, mul_assoc, zero-add, arith}
use native.Mathlib.Nat.{pow-succ'}
use Rattle.run.proofs.Costs.{cost-at-most}
use Rattle.run.proofs.Recursion.{AllMeaningful}
use Rattle.run.proofs.Sums.{below-same, below_scale, sum_counting, sum-map, sum-scaled, weighed-at-most, weights-total}
use Rattle.run.specs.Advance.{sum_below}
use Rattle.run.specs.Exact.{in_front, all_sequences, weight_of, ruin_or, first_ruin, exact_value}
use Rattle.run.specs.Period.{Period, Meaningful, weight_at, cost}
use Rattle.std.proofs.lemmas.List.Sums.{sum_by-append, sum_by-cons}
use Rattle.std.specs.List.{range_with_len}
use Rattle.units.specs.One.{one}
use Rattle.units.specs.Surplus.{surplus_of}

sum-in_front :
    (f : List ℕ → ℕ) (amounts : List ℕ) (sequences : List (List ℕ))
    → sum_by f (in_front amounts sequences) ≡ sum_by (λ j. sum_by (λ s. f (j ∷ s)) sequences) amounts
sum-in_front f [] sequences = refl
sum-in_front f (j ∷ amounts) sequences =
    omega (
      arith,
      sum_by-append f (map (λ s. j ∷ s) sequences) (in_front amounts sequences),
      sum-map f (λ s. j ∷ s) sequences,
      sum-in_front f amounts sequences,
      sum_by-cons (λ i. sum_by (λ s. f (i ∷ s)) sequences) j amounts,
    )

-- a sum over all sequences, by the amount of the first period
pub sum-by-amount :
    (f : List ℕ → ℕ) (p : Period) (later : List Period)
    → sum_by f (all_sequences (p ∷ later))
    ≡ sum_below (length p.weights) (λ j. sum_by (λ s. f (j ∷ s)) (all_sequences later))
sum-by-amount f p later =
    sum-in_front f (range_with_len 0 (length p.weights)) (all_sequences later)
    ∙ sum_counting rest 0 (length p.weights)
    ∙ below-same (length p.weights) (λ i. rest (0 + i)) rest (λ i h. ap rest (zero-add i))
  where
    rest : ℕ → ℕ
    rest j = sum_by (λ s. f (j ∷ s)) (all_sequences later)

pub weights-whole : (p : Period) → Meaningful p → sum_below (length p.weights) (weight_at p.weights) ≡ one
weights-whole p meaningful = weights-total p.weights ∙ meaningful.lawful.whole

pub total-mass :
    (periods : List Period) → AllMeaningful periods
    → sum_by (weight_of periods) (all_sequences periods) ≡ one ^ length periods
total-mass [] meaningful = refl
total-mass (p ∷ later) (front, rest) =
    sum-by-amount (weight_of (p ∷ later)) p later
    ∙ below-same (length p.weights) mass (λ j. weight_at p.weights j * onward) by-weight
    ∙ below_scale (length p.weights) (weight_at p.weights) onward
    ∙ ap₂ ◌*◌ (weights-whole p front) (total-mass later rest)
    ∙ sym (pow-succ' one (length later))
  where
    onward : ℕ
    onward = sum_by (weight_of later) (all_sequences later)

    mass : ℕ → ℕ
    mass j = sum_by (λ s. weight_at p.weights j * weight_of later s) (all_sequences later)

    by-weight : (j : ℕ) → j < length p.weights → mass j ≡ weight_at p.weights j * onward
    by-weight j h =
        sum-scaled (weight_at p.weights j) (weight_of later) (λ s. weight_at p.weights j * weight_of later s)
        (λ s. refl) (all_sequences later)

-- a period with its penalties in a unit m times smaller
abbrev pub scaled : ℕ → Period → Period
scaled m p = record {
  weights = p.weights;
  carried = p.carried;
  priced = λ d. p.priced d * m;
  allowance = p.allowance;
}

-- what a surplus costs exactly, in the unit of the later periods' exact value
abbrev pub exact_cost : Period → List Period → ℤ → ℕ
exact_cost p later s = cost (scaled (one ^ length later) p) (exact_value later) s

-- the sequences behind an amount of weight w
module _ (p : Period) (later : List Period) (meaningful : AllMeaningful later) (w : ℕ) where
  sum-at_ruin : (c : ℕ) → sum_by (λ s. w * weight_of later s * c) (all_sequences later) ≡ w * (c * one ^ length later)
  sum-at_ruin c =
      sum-scaled (w * c) (weight_of later) (λ s. w * weight_of later s * c) (λ s. omega arith) (all_sequences later)
      ∙ ap (λ m. w * c * m) (total-mass later meaningful)
      ∙ mul_assoc w c (one ^ length later)

  sum-onward :
      (v : ℕ)
      → sum_by (λ s. w * weight_of later s * unwrap_or (first_ruin later v s) 0) (all_sequences later)
      ≡ w * exact_value later v
  sum-onward v =
      sum-scaled w (λ s. weight_of later s * unwrap_or (first_ruin later v s) 0)
      (λ s. w * weight_of later s * unwrap_or (first_ruin later v s) 0) (λ s. omega arith) (all_sequences later)

  sum-at_surplus :
      (z : ℤ)
      → sum_by (λ s. w * weight_of later s * unwrap_or (ruin_or p z (λ v. first_ruin later v s)) 0) (all_sequences later)
      ≡ w * exact_cost p later z
  sum-at_surplus (pos zero) = sum-at_ruin (p.priced 0)
  sum-at_surplus (pos (suc s)) = sum-onward (p.carried (suc s))
  sum-at_surplus (negsuc d) = sum-at_ruin (p.priced (suc d))

pub exact_step :
    (p : Period) (later : List Period) → AllMeaningful later → (u : ℕ)
    → exact_value (p ∷ later) u
    ≡ sum_below (length p.weights) (λ j. weight_at p.weights j * exact_cost p later (surplus_of u j))
exact_step p later meaningful u =
    sum-by-amount value p later
    ∙ below-same (length p.weights) (λ j. sum_by (λ s. value (j ∷ s)) (all_sequences later))
    (λ j. weight_at p.weights j * exact_cost p later (surplus_of u j))
    (λ j h. sum-at_surplus p later meaningful (weight_at p.weights j) (surplus_of u j))
  where
    value : List ℕ → ℕ
    value sequence = weight_of (p ∷ later) sequence * unwrap_or (first_ruin (p ∷ later) u sequence) 0

-- no amount of a lawful period has a deficit past 4,095
pub exact_cost-at-most :
    (p : Period) (later : List Period) → Meaningful p → ((v : ℕ) → exact_value later v ≤ one * one ^ length later)
    → (u j : ℕ) → j < length p.weights → exact_cost p later (surplus_of u j) ≤ one * one ^ length later
exact_cost-at-most p later meaningful most u j h =
    cost-at-most (scaled (one ^ length later) p) (exact_value later) (one * one ^ length later) u j
    (λ d k. mul-le-mul_right (one ^ length later) (meaningful.bounded d (omega (arith, meaningful.lawful.few)))) most

pub exact_at_most :
    (periods : List Period) → AllMeaningful periods → (u : ℕ) → exact_value periods u ≤ one * one ^ length periods
exact_at_most [] meaningful u = omega arith
exact_at_most (p ∷ later) (front, rest) u =
    let each = exact_cost-at-most p later front (exact_at_most later rest) u in
    rw (exact_step p later rest u, pow-succ' one (length later))
    (rw (weights-whole p front) at
    (weighed-at-most (weight_at p.weights) (length p.weights) (λ j. exact_cost p later (surplus_of u j))
    (one * one ^ length later) each))
