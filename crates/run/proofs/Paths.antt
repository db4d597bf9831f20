-- Which levels are known: those whose path without claims stays on the board. Their pairs are the recursion's.
use Rattle.std.proofs.Common.{◌≡◌, ℕ, zero, suc, ◌+◌, ◌-◌, ◌*◌, ◌<◌, ◌≤◌, Bool, true, false, cond, ◌&&◌, ltb, List, [], ◌∷◌}
use Rattle.std.proofs.Common.{◌++◌, map, length, get_or, replicate, ℤ, pos, negsuc, count_by, sym, refl, ap, ◌∙◌, ap₂, add-one, arith, length-append}
use lib.ListN.{length-replicate}
use mathlib.Core.Path.{fun_ext}
use Rattle.capital.specs.Laws.{Rising}
use Rattle.run.proofs.Recursion.{AllMeaningful, lower_with, upper_with}
use Rattle.run.specs.Advance.{sum_below, nil, weighed, rounded_down, rounded_up, pair_at, known_after, row_after}
use Rattle.run.specs.Exact.{stays_on}
use Rattle.run.specs.History.{known_with, row_with}
use Rattle.run.specs.Period.{Period, Meaningful, weight_at, cut, cost, dropped}
use Rattle.run.specs.declared.pair.Pair.{Pair}
use Rattle.std.proofs.lemmas.List.FromFn.{length-range_with_len, length-map-range_with_len, get_or-map-range_with_len, fill_by_all, sum_by-map-range_with_len_more}
use Rattle.std.proofs.lemmas.List.{map-id, get_or_append_left, get_or-replicate}
use Rattle.std.proofs.lemmas.List.Sums.{count_by-le-length}
use Rattle.std.proofs.lemmas.Bool.{ltb-true, lt-ltb, and_parts}
use Rattle.std.proofs.lemmas.Bool.Decides.{nat_tests}
use Rattle.std.specs.List.{range_with_len}
use Rattle.units.specs.One.{one}
use Rattle.units.specs.Surplus.{surplus_of}

-- a test that holds below every number below n where it holds
abbrev pub Falling : ℕ → (ℕ → Bool) → Type 0
Falling n t = (u v : ℕ) → u ≤ v → v < n → t v ≡ true → t u ≡ true

module _ (t : ℕ → Bool) where
  one_more_counted : (n : ℕ) → count_by t (range_with_len 0 (suc n)) ≡ count_by t (range_with_len 0 n) + cond (t n) 1 0
  one_more_counted n =
      rw add-one at (simp map-id at (sum_by-map-range_with_len_more (λ v. cond (t v) 1 0) (λ v. v) 0 n n (omega arith)))

  all_counted : (n : ℕ) → ((u : ℕ) → u < n → t u ≡ true) → count_by t (range_with_len 0 n) ≡ n
  all_counted zero all = refl
  all_counted (suc n) all =
      let last = all n (omega arith) in
      let before = all_counted n (λ u h. all u (omega arith)) in
      one_more_counted n ∙ grind arith

  pub counting_falling : (n : ℕ) → Falling n t → (u : ℕ) → ltb u (count_by t (range_with_len 0 n)) ≡ (ltb u n && t u)
  counting_falling zero falling u = grind (arith, nat_tests)
  counting_falling (suc n) falling u =
      by_last (t n) refl (counting_falling n (λ v w h k. falling v w h (omega arith)) u)
    where
      by_last : (last : Bool) → t n ≡ last → ltb u (count_by t (range_with_len 0 n)) ≡ (ltb u n && t u)
          → ltb u (count_by t (range_with_len 0 (suc n))) ≡ (ltb u (suc n) && t u)
      by_last true e before =
          let here : u < suc n → t u ≡ true = λ h. falling u n (omega arith) (omega arith) e in
          rw (all_counted (suc n) (λ v h. falling v n (omega arith) (omega arith) e)) (grind (arith, nat_tests))
      by_last false e before =
          let there : u ≡ n → t u ≡ false = λ h. ap t h ∙ e in
          let same : count_by t (range_with_len 0 (suc n)) ≡ count_by t (range_with_len 0 n) = one_more_counted n ∙ grind arith in
          rw same (grind (arith, nat_tests))

-- a rule that rises carries no level above an unknown one to a known one
pub rising-falls : (carried : ℕ → ℕ) (known long : ℕ) → long ≤ 8192
    → Rising carried → Falling long (λ u. ltb (carried (u + 1)) known)
rising-falls carried known long most rising u v h k e =
    let higher = rising (u + 1) (v + 1) (omega arith) (omega arith) (omega arith) in
    lt-ltb (carried (u + 1)) known (omega (arith, ltb-true (carried (v + 1)) known e))

module _ {long : ℕ} {period : Period} (meaningful : Meaningful period) (most : long ≤ 8192) where
  pub known-after : (known u : ℕ)
      → ltb u (known_after long known period) ≡ (ltb u long && ltb (period.carried (u + 1)) known)
  known-after known =
      counting_falling (λ u. ltb (period.carried (u + 1)) known) long
      (rising-falls period.carried known long most meaningful.rising)

pub known-after_le : (long known : ℕ) (period : Period) → known_after long known period ≤ long
known-after_le long known period =
    let t : ℕ → Bool = λ u. ltb (period.carried (u + 1)) known in
    omega (arith, count_by-le-length t (range_with_len 0 long), length-range_with_len 0 long)

pub known_le : (long : ℕ) (periods : List Period) → known_with long periods ≤ long
known_le long [] = omega arith
known_le long (period ∷ later) = known-after_le long (known_with long later) period

pub known-stays : (long : ℕ) → long ≤ 8192 → (periods : List Period) → AllMeaningful periods → (u : ℕ)
    → ltb u (known_with long periods) ≡ stays_on long periods u
known-stays long most [] meaningful u = refl
known-stays long most (period ∷ later) meaningful u =
    known-after meaningful.0 most (known_with long later) u
    ∙ ap (λ b. ltb u long && b) (known-stays long most later meaningful.1 (period.carried (u + 1)))

-- an integer that is no number above n
abbrev AtMost : ℕ → ℤ → Type 0
AtMost n (pos s) = s ≤ n
AtMost n (negsuc d) = Unit {0}

surplus_at_most : (u j : ℕ) → AtMost (u + 1) (surplus_of u j)
surplus_at_most u zero = omega arith
surplus_at_most u (suc k) = either (ltb (u + 1) (suc k))
  where
    either : (b : Bool) → AtMost (u + 1) (cond b (negsuc (suc k - suc (u + 1))) (pos (u + 1 - suc k)))
    either true = tt
    either false = omega arith

abbrev rounded : Period → ℕ → ℕ → Pair
rounded period low high = record { lower = rounded_down low; upper = rounded_up (high + dropped period * one) }

-- the pair of a level with the period in front of the pairs of all levels, a row's or the recursion's
abbrev pub pair_by : Period → (ℕ → Pair) → ℕ → Pair
pair_by period pairs u =
    rounded period (weighed period (λ v. (pairs v).lower) u) (weighed period (λ v. (pairs v).upper) u)

-- a level that the rule carries, one premium on, to a known level needs the known levels alone
module _ {period : Period} (meaningful : Meaningful period) (known u : ℕ) (on : u < 8192)
    (leads : period.carried (u + 1) < known) where
  cost-same : (b c : ℕ → ℕ) → ((v : ℕ) → v < known → b v ≡ c v) → (z : ℤ) → AtMost (u + 1) z
      → cost period b z ≡ cost period c z
  cost-same b c same (pos zero) h = refl
  cost-same b c same (pos (suc s)) h =
      let lower = meaningful.rising (suc s) (u + 1) (omega arith) h (omega arith) in
      same (period.carried (suc s)) (omega arith)
  cost-same b c same (negsuc d) h = refl

  weighed-same : (b c : ℕ → ℕ) → ((v : ℕ) → v < known → b v ≡ c v) → weighed period b u ≡ weighed period c u
  weighed-same b c same =
      let weights = period.weights in
      ap (λ (costs : ℕ → ℕ). sum_below (cut period.allowance weights) (λ j. weight_at weights j * costs j))
      (fun_ext (λ j. cost-same b c same (surplus_of u j) (surplus_at_most u j)))

  pub pair_same : (f g : ℕ → Pair) → ((v : ℕ) → v < known → f v ≡ g v) → pair_by period f u ≡ pair_by period g u
  pair_same f g same =
      ap₂ (rounded period)
      (weighed-same (λ v. (f v).lower) (λ v. (g v).lower) (λ v h. ap (λ pair. pair.lower) (same v h)))
      (weighed-same (λ v. (f v).upper) (λ v. (g v).upper) (λ v h. ap (λ pair. pair.upper) (same v h)))

-- functions that give the same below n give the same list
pub map_same :
    (f g : ℕ → Pair) (n : ℕ) → ((u : ℕ) → u < n → f u ≡ g u) → map f (range_with_len 0 n) ≡ map g (range_with_len 0 n)
map_same f g n same =
    fill_by_all g (map f (range_with_len 0 n)) n nil (length-map-range_with_len f 0 n)
    (λ u h. get_or-map-range_with_len f 0 n u u nil h (omega arith) ∙ same u h)

-- what a function gives below k, then nothing up to n
module _ (k n : ℕ) where
  abbrev padded : (ℕ → Pair) → List Pair
  padded f = map f (range_with_len 0 k) ++ replicate (n - k) nil

  padded-at : (f : ℕ → Pair) (u : ℕ) → u < k → get_or (padded f) u nil ≡ f u
  padded-at f u h =
      let long : u < length (map f (range_with_len 0 k)) = omega (arith, length-map-range_with_len f 0 k) in
      get_or_append_left (map f (range_with_len 0 k)) (replicate (n - k) nil) nil u long
      ∙ get_or-map-range_with_len f 0 k u u nil h (omega arith)

  length-padded : (f : ℕ → Pair) → k ≤ n → length (padded f) ≡ n
  length-padded f h = simp (length-append, length-map-range_with_len, length-replicate) (omega arith)

  padded-same : (f g : ℕ → Pair) → ((u : ℕ) → u < k → f u ≡ g u) → padded f ≡ padded g
  padded-same f g same = ap (λ front. front ++ replicate (n - k) nil) (map_same f g k same)

module _ {long : ℕ} {period : Period} (meaningful : Meaningful period) (most : long ≤ 8192) (known : ℕ) where
  pub known-leads : (u : ℕ) → u < known_after long known period → (u < long) × (period.carried (u + 1) < known)
  known-leads u h =
      let both = sym (known-after meaningful most known u) ∙ lt-ltb u (known_after long known period) h in
      let parts = and_parts (ltb u long) (ltb (period.carried (u + 1)) known) both in
      (ltb-true u long parts.0, ltb-true (period.carried (u + 1)) known parts.1)

  pub pairs-same : (f g : ℕ → Pair) → ((v : ℕ) → v < known → f v ≡ g v) → (u : ℕ) → u < known_after long known period
      → pair_by period f u ≡ pair_by period g u
  pairs-same f g same u h =
      let leads = known-leads u h in
      pair_same meaningful known u (omega arith) leads.1 f g same

  -- a row depends on the known levels of the old row alone
  pub row_same : (old other : List Pair) → ((v : ℕ) → v < known → get_or old v nil ≡ get_or other v nil)
      → row_after long known period old ≡ row_after long known period other
  row_same old other same =
      padded-same (known_after long known period) long (pair_at period old) (pair_at period other)
      (pairs-same (λ v. get_or old v nil) (λ v. get_or other v nil) same)

pub length-row_after : (long known : ℕ) (period : Period) (old : List Pair)
    → length (row_after long known period old) ≡ long
length-row_after long known period old =
    length-padded (known_after long known period) long (pair_at period old) (known-after_le long known period)

pub length-row : (long : ℕ) (periods : List Period) → length (row_with long periods) ≡ long
length-row long [] = length-replicate long nil
length-row long (period ∷ later) = length-row_after long (known_with long later) period (row_with long later)

abbrev pub bounds_with : List Period → ℕ → Pair
bounds_with periods u = record { lower = lower_with periods u; upper = upper_with periods u }

pub written : (long : ℕ) → long ≤ 8192 → (periods : List Period) → AllMeaningful periods → (u : ℕ)
    → u < known_with long periods → get_or (row_with long periods) u nil ≡ bounds_with periods u
unfolding lower_with upper_with
written long most [] meaningful u h = get_or-replicate long u nil nil h
written long most (period ∷ later) meaningful u h =
    let known = known_with long later in
    let old = row_with long later in
    padded-at (known_after long known period) long (pair_at period old) u h
    ∙ pairs-same meaningful.0 most known (λ v. get_or old v nil) (bounds_with later)
    (written long most later meaningful.1) u h
