-- The loop that weighs the costs of one level, and why its sums fit.
use Rattle.std.proofs.Common.{◌≡◌, ℕ, ◌+◌, ◌-◌, ◌*◌, ◌/◌, ◌^◌, ◌<◌, ◌≤◌, List, length, get_or, ap, ◌∙◌, ap₂, mul-le-mul_left, add-one, arith}
use Rattle.run.proofs.Sums.{below-front}
use Rattle.run.specs.Advance.{sum_below, nil}
use Rattle.run.specs.Gathered.{pair_from}
use Rattle.run.specs.declared.pair.Pair.{Pair}
use Rattle.units.specs.One.{one}

-- the largest bound that a board can hold
abbrev largest : ℕ
largest = 2 ^ 32 - 1

below_step : (i : ℕ) (f : ℕ → ℕ) → sum_below (i + 1) f ≡ sum_below i f + f i
below_step i f = rw (add-one i)

-- a sum of weights times bounds, and its weights' sum times the largest bound above it
pub record Summed (weights : List ℕ) (bound : ℕ → ℕ) (i sum : ℕ) : Type 0 where
  pub sum_is : sum ≡ sum_below i (λ k. get_or weights k 0 * bound k)
  pub fits : sum ≤ sum_below i (λ k. get_or weights k 0) * largest

summed_more :
    (weights : List ℕ) (bound : ℕ → ℕ) (i sum weight cost : ℕ) → weight ≡ get_or weights i 0 → cost ≡ bound i → cost < 2 ^ 32
    → Summed weights bound i sum → Summed weights bound (i + 1) (sum + weight * cost)
summed_more weights bound i sum weight cost weighs costs small inv =
    let below : cost ≤ largest = omega arith in
    record {
      sum_is = omega (arith, inv.sum_is, below_step i (λ k. get_or weights k 0 * bound k), ap₂ ◌*◌ weighs costs);
      fits = omega (arith, inv.fits, below_step i (λ k. get_or weights k 0), ap (λ w. w * largest) weighs, mul-le-mul_left weight below);
    }

-- with weights that sum to at most ONE no sum of the loop passes ONE times the largest bound
pub term_fits :
    (weights : List ℕ) (bound : ℕ → ℕ) (rest i sum weight cost : ℕ) → i < length weights
    → sum_below (length weights) (λ k. get_or weights k 0) + rest ≤ one
    → weight ≡ get_or weights i 0 → cost ≡ bound i → cost < 2 ^ 32 → Summed weights bound i sum → sum + weight * cost ≤ one * largest
term_fits weights bound rest i sum weight cost h whole weighs costs small inv =
    omega (arith, (summed_more weights bound i sum weight cost weighs costs small inv).fits, below-front (i + 1) (length weights) (λ k. get_or weights k 0) (omega arith))

-- both sums of a level after i terms
pub record Weighed (weights : List ℕ) (costs : List Pair) (place i lower upper : ℕ) : Type 0 where
  pub lowers : Summed weights (λ k. (get_or costs (place + k) nil).lower) i lower
  pub uppers : Summed weights (λ k. (get_or costs (place + k) nil).upper) i upper

module _ (weights : List ℕ) (costs : List Pair) (place : ℕ) where
  abbrev at : ℕ → Pair
  at k = get_or costs (place + k) nil

  module _ (i lower upper : ℕ) (inv : Weighed weights costs place i lower upper) where
    pub weighed_more :
        (weight : ℕ) (cost : Pair) → weight ≡ get_or weights i 0 → cost ≡ at i → cost.lower < 2 ^ 32 → cost.upper < 2 ^ 32
        → Weighed weights costs place (i + 1) (lower + weight * cost.lower) (upper + weight * cost.upper)
    weighed_more weight cost weighs is low high = record {
      lowers = summed_more weights (λ k. (at k).lower) i lower weight cost.lower weighs (ap (λ pair. pair.lower) is) low inv.lowers;
      uppers = summed_more weights (λ k. (at k).upper) i upper weight cost.upper weighs (ap (λ pair. pair.upper) is) high inv.uppers;
    }

    pub weighed_all :
        (dropped : ℕ) → i ≡ length weights
        → record { lower = lower / one; upper = (upper + dropped * one + (one - 1)) / one } ≡ pair_from weights costs dropped place
    weighed_all dropped all =
        let low : lower ≡ sum_below (length weights) (λ k. get_or weights k 0 * (at k).lower) =
        inv.lowers.sum_is ∙ ap (λ n. sum_below n (λ k. get_or weights k 0 * (at k).lower)) all in
        let high : upper ≡ sum_below (length weights) (λ k. get_or weights k 0 * (at k).upper) =
        inv.uppers.sum_is ∙ ap (λ n. sum_below n (λ k. get_or weights k 0 * (at k).upper)) all in
        ap₂ (λ l h. record { lower = l / one; upper = (h + dropped * one + (one - 1)) / one }) low high
