-- The loop that gathers what each surplus costs, and how many levels are known then.
use Rattle.std.proofs.Common.{◌≡◌, ℕ, zero, suc, ◌+◌, ◌-◌, ◌<◌, ◌≤◌, Bool, true, false, ltb, List, length, get_or}
use Rattle.std.proofs.Common.{ℤ, pos, neg_ℤ, Some, None, count_by, Option, sym, refl, ap, ◌∙◌, ⊎_elim, arith}
use Rattle.capital.specs.Laws.{Rising}
use Rattle.run.proofs.Costs.{surplus_left, surplus_ruined}
use Rattle.run.proofs.Paths.{Falling, counting_falling, rising-falls}
use Rattle.run.specs.Advance.{nil}
use Rattle.run.specs.Gathered.{reaches, cost_pair}
use Rattle.run.specs.declared.pair.Pair.{Pair}
use Rattle.std.proofs.lemmas.Bool.{cases_lt}
use Rattle.std.proofs.lemmas.Bool.Decides.{nat_tests}
use Rattle.std.proofs.lemmas.Option.{none-some}
use Rattle.std.specs.List.{range_with_len}
use Rattle.std.specs.Bool.{then_some}
use Rattle.units.specs.Surplus.{surplus_of}

-- the first number that fails a falling test is how many pass it
count_stops :
    (t : ℕ → Bool) (n k : ℕ) → Falling n t → k ≤ n → ((u : ℕ) → u < k → t u ≡ true) → (k < n → t k ≡ false)
    → count_by t (range_with_len 0 n) ≡ k
count_stops t n zero falling fits passes stops =
    let here = counting_falling t n falling zero in grind (arith, nat_tests)
count_stops t n (suc k) falling fits passes stops =
    let last = counting_falling t n falling k in let here = counting_falling t n falling (suc k) in
    let passed = passes k (omega arith) in grind (arith, nat_tests)

module _ (carried priced : ℕ → ℕ) (board : List Pair) (known largest : ℕ) where
  -- what a surplus is told to cost, if it leads to ruin or to a known level
  abbrev told : ℤ → Option Pair
  told end = then_some (reaches carried known end) (cost_pair carried priced board end)

  -- below `level` every surplus is ruin or leads to a known level, and its cost is in its place
  pub record Costing (level : ℕ) (costs : List Pair) : Type 0 where
    pub reached : (x : ℕ) → x < level → reaches carried known (surplus_of x largest) ≡ true
    pub gathered : (x : ℕ) → x < level → get_or costs x nil ≡ cost_pair carried priced board (surplus_of x largest)
    pub room : length costs ≡ 12288

  found : (reached : Bool) (cost pair : Pair) → Some pair ≡ then_some reached cost → (reached ≡ true) × (pair ≡ cost)
  found true cost pair there = (refl, cc)
  found false cost pair there = absurd (none-some pair (sym there))

  reaches-left : (u : ℕ) → reaches carried known (surplus_of (largest + u) largest) ≡ ltb (carried (u + 1)) known
  reaches-left u =
      ap (reaches carried known) (surplus_left (largest + u) largest (omega arith))
      ∙ ap (λ s. ltb (carried s) known) (omega arith)

  reaches_ruin : (x : ℕ) → x < largest → reaches carried known (surplus_of x largest) ≡ true
  reaches_ruin x h = ap (reaches carried known) (surplus_ruined x largest (omega arith)) ∙ at_deficit (largest - (x + 1))
    where
      at_deficit : (d : ℕ) → reaches carried known (neg_ℤ (pos d)) ≡ true
      at_deficit zero = refl
      at_deficit (suc d) = refl

  not_found : (reached : Bool) (cost : Pair) → None ≡ then_some reached cost → reached ≡ false
  not_found true cost none = absurd (none-some cost none)
  not_found false cost none = refl

  stops_at : (level : ℕ) (end : ℤ) → end ≡ surplus_of level largest → None ≡ told end → reaches carried known (surplus_of level largest) ≡ false
  stops_at level end is none =
      not_found (reaches carried known (surplus_of level largest)) (cost_pair carried priced board (surplus_of level largest)) (none ∙ ap told is)

  pub ruins_below : (level : ℕ) (end : ℤ) → end ≡ surplus_of level largest → None ≡ told end → largest ≤ level
  ruins_below level end is none =
      let stops = stops_at level end is none in
      ⊎_elim (λ h. let ruin = reaches_ruin level h in let never : ◌≡◌ {A = ℕ} 0 1 = cc in absurd (omega arith)) (λ h. h)
      (cases_lt level largest)

  module _ (long : ℕ) (costs : List Pair) (most : long ≤ 8192)
      (rising : Rising carried) where
    falls : Falling long (λ u. ltb (carried (u + 1)) known)
    falls = rising-falls carried known long most rising

    passes : (level : ℕ) → Costing level costs → (u : ℕ) → u < level - largest → ltb (carried (u + 1)) known ≡ true
    passes level inv u h = sym (reaches-left u) ∙ inv.reached (largest + u) (omega arith)

    pub known_all :
        (level : ℕ) → largest + long ≤ level → Costing level costs
        → long ≡ count_by (λ u. ltb (carried (u + 1)) known) (range_with_len 0 long)
    known_all level all inv =
        sym (count_stops (λ u. ltb (carried (u + 1)) known) long long falls (omega arith)
        (λ u h. passes level inv u (omega arith)) (λ h. absurd (omega arith)))

    pub known_stops :
        (level : ℕ) (end : ℤ) → end ≡ surplus_of level largest → level < largest + long → Costing level costs → None ≡ told end
        → level - largest ≡ count_by (λ u. ltb (carried (u + 1)) known) (range_with_len 0 long)
    known_stops level end is within inv none =
        let stops = stops_at level end is none in
        let ruins = ruins_below level end is none in
        let place : largest + (level - largest) ≡ level = omega arith in
        sym (count_stops (λ u. ltb (carried (u + 1)) known) long (level - largest) falls (omega arith) (passes level inv)
        (λ h. sym (reaches-left (level - largest)) ∙ (ap (λ x. reaches carried known (surplus_of x largest)) place ∙ stops)))
