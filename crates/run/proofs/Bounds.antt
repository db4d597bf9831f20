-- Lower and upper bounds enclose the exact value and stay close: the rounding of one period over any scale m, weights w
-- and terms, then three inductions on the periods.
use Rattle.std.proofs.Common.{◌≡◌, ℕ, ◌+◌, ◌-◌, ◌*◌, ◌/◌, ◌^◌, ◌<◌, ◌≤◌, List, [], ◌∷◌, length, ℤ, sym, ◌∙◌, mul-le-mul_right, mul_assoc, div-lt_iff_lt-mul, div-mul-le_self, arith, lit<}
use native.Mathlib.Nat.{lt-div-mul-add, pow-succ'}
use Rattle.run.proofs.Costs.{cost_related}
use Rattle.run.proofs.ExactValues.{scaled, exact_cost, exact_cost-at-most, exact_at_most, exact_step}
use Rattle.run.proofs.Recursion.{AllMeaningful, lower_with, upper_with}
use Rattle.run.proofs.Sums.{
  below-front,
  weighed_order,
  weighed_raised,
  weighed-rest,
  weighed_scale,
  weights_split,
  weights-total,
  cut_le_length,
}
use Rattle.run.specs.Advance.{sum_below}
use Rattle.run.specs.Exact.{exact_value}
use Rattle.run.specs.History.{dropped_by}
use Rattle.run.specs.Period.{Period, weight_at, cut, cost, dropped}
use Rattle.std.proofs.lemmas.List.Sums.{sum_by-cons}
use Rattle.units.specs.One.{one}
use Rattle.units.specs.Surplus.{surplus_of}

module _ (m : ℕ) (positive : 0 < m) where
  pub floor_step : (a c e : ℕ) → a * c ≤ e → a / m * (m * c) ≤ e
  floor_step a c e h = omega (arith, mul-le-mul_right c (div-mul-le_self a m), mul_assoc (a / m) m c)

  pub ceiling_step : (a c e : ℕ) → e ≤ a * c → e ≤ (a + (m - 1)) / m * (m * c)
  ceiling_step a c e h = omega (arith, mul-le-mul_right c reached, mul_assoc ((a + (m - 1)) / m) m c)
    where
      reached : a ≤ (a + (m - 1)) / m * m
      reached = omega (arith, lt-div-mul-add {a = a + (m - 1)} positive)

  pub width_step : (a b k : ℕ) → b ≤ a + m * k → (b + (m - 1)) / m ≤ a / m + (k + 1)
  width_step a b k h = omega (arith, (div-lt_iff_lt-mul {x = b + (m - 1)} {y = a / m + (k + 1) + 1} positive).1 close)
    where
      close : b + (m - 1) < (a / m + (k + 1) + 1) * m
      close = omega (arith, lt-div-mul-add {a = a} positive)

  -- of the amounts below n, those below q count, each by its weight; the others, of the weight rest, are dropped
  module _ (w : ℕ → ℕ) (q : ℕ) where
    pub lower_step :
        (n : ℕ) (c e : ℕ → ℕ) (unit : ℕ) → q ≤ n → ((j : ℕ) → j < q → c j * unit ≤ e j)
        → sum_below q (λ j. w j * c j) / m * (m * unit) ≤ sum_below n (λ j. w j * e j)
    lower_step n c e unit within under =
        floor_step (sum_below q (λ j. w j * c j)) unit (sum_below n (λ j. w j * e j))
        (omega (
          arith,
          weighed_scale w q c unit,
          weighed_order w q (λ j. c j * unit) e under,
          below-front q n (λ j. w j * e j) within,
        ))

    pub upper_step :
        (n : ℕ) (c e : ℕ → ℕ) (unit top rest : ℕ) → q ≤ n → sum_below q w + rest ≡ sum_below n w
        → ((j : ℕ) → j < q → e j ≤ c j * unit) → ((j : ℕ) → j < n → e j ≤ top * unit)
        → sum_below n (λ j. w j * e j) ≤ (sum_below q (λ j. w j * c j) + rest * top + (m - 1)) / m * (m * unit)
    upper_step n c e unit top rest within weighs over most =
        ceiling_step (sum_below q (λ j. w j * c j) + rest * top) unit (sum_below n (λ j. w j * e j))
        (omega (
          arith,
          weighed_scale w q c unit,
          weighed_order w q e (λ j. c j * unit) over,
          weighed-rest w q n e (top * unit) rest within weighs most,
        ))

    pub narrow_step :
        (c d : ℕ → ℕ) (k x y : ℕ) → sum_below q w ≤ m → x ≤ m * y → ((j : ℕ) → j < q → d j ≤ c j + k)
        → (sum_below q (λ j. w j * d j) + x + (m - 1)) / m ≤ sum_below q (λ j. w j * c j) / m + (k + y + 1)
    narrow_step c d k x y light small near =
        width_step (sum_below q (λ j. w j * c j)) (sum_below q (λ j. w j * d j) + x) (k + y)
        (omega (arith, weighed_raised w q c d k near, mul-le-mul_right k light))

-- costs are as close as the bounds of the levels carried to
cost_under :
    (unit : ℕ) (p : Period) (b e : ℕ → ℕ) → ((v : ℕ) → b v * unit ≤ e v)
    → (s : ℤ) → cost p b s * unit ≤ cost (scaled unit p) e s
cost_under unit p b e under =
    cost_related (λ x y. x * unit ≤ y) p (scaled unit p) b e (λ d. omega arith) (λ s. under (p.carried s))

cost-over :
    (unit : ℕ) (p : Period) (b e : ℕ → ℕ) → ((v : ℕ) → e v ≤ b v * unit)
    → (s : ℤ) → cost (scaled unit p) e s ≤ cost p b s * unit
cost-over unit p b e over =
    cost_related (λ x y. y ≤ x * unit) p (scaled unit p) b e (λ d. omega arith) (λ s. over (p.carried s))

cost_near :
    (k : ℕ) (p : Period) (b c : ℕ → ℕ) → ((v : ℕ) → c v ≤ b v + k) → (s : ℤ) → cost p c s ≤ cost p b s + k
cost_near k p b c near = cost_related (λ x y. y ≤ x + k) p p b c (λ d. omega arith) (λ s. near (p.carried s))

pub encloses_lower :
    (periods : List Period) → AllMeaningful periods → (u : ℕ)
    → lower_with periods u * one ^ length periods ≤ exact_value periods u
unfolding lower_with
encloses_lower [] meaningful u = omega arith
encloses_lower (p ∷ later) (front, rest) u =
    let under = cost_under (one ^ length later) p (lower_with later) (exact_value later) (encloses_lower later rest) in
    rw (exact_step p later rest u, pow-succ' one (length later))
    (lower_step one (lit< tt) (weight_at p.weights) (cut p.allowance p.weights) (length p.weights)
    (λ j. cost p (lower_with later) (surplus_of u j)) (λ j. exact_cost p later (surplus_of u j)) (one ^ length later)
    (cut_le_length p.allowance p.weights) (λ j h. under (surplus_of u j)))

pub encloses_upper :
    (periods : List Period) → AllMeaningful periods → (u : ℕ)
    → exact_value periods u ≤ upper_with periods u * one ^ length periods
unfolding upper_with
encloses_upper [] meaningful u = omega arith
encloses_upper (p ∷ later) (front, rest) u =
    let over = cost-over (one ^ length later) p (upper_with later) (exact_value later) (encloses_upper later rest) in
    rw (exact_step p later rest u, pow-succ' one (length later))
    (upper_step one (lit< tt) (weight_at p.weights) (cut p.allowance p.weights) (length p.weights)
    (λ j. cost p (upper_with later) (surplus_of u j)) (λ j. exact_cost p later (surplus_of u j)) (one ^ length later) one
    (dropped p) (cut_le_length p.allowance p.weights)
    (weights_split (cut p.allowance p.weights) p.weights ∙ sym (weights-total p.weights))
    (λ j h. over (surplus_of u j))
    (exact_cost-at-most p later front (exact_at_most later rest) u))

pub no_wider :
    (periods : List Period) → AllMeaningful periods → (u : ℕ)
    → upper_with periods u ≤ lower_with periods u + (length periods + dropped_by periods)
unfolding lower_with upper_with
no_wider [] meaningful u = omega arith
no_wider (p ∷ later) (front, rest) u =
    let k = length later + dropped_by later in
    let near = cost_near k p (lower_with later) (upper_with later) (no_wider later rest) in
    let split = weights_split (cut p.allowance p.weights) p.weights in
    omega (
      arith,
      sum_by-cons dropped p later,
      narrow_step one (lit< tt) (weight_at p.weights) (cut p.allowance p.weights)
          (λ j. cost p (lower_with later) (surplus_of u j)) (λ j. cost p (upper_with later) (surplus_of u j)) k
          (dropped p * one) (dropped p) (omega (arith, split, front.lawful.whole)) (omega arith)
          (λ j h. near (surplus_of u j)),
    )
