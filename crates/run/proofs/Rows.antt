-- The row that the gathered weights and costs make is the row of the period in front of the old one.
use Rattle.std.proofs.Common.{◌≡◌, ℕ, ◌+◌, ◌-◌, ◌*◌, ◌/◌, ◌<◌, ◌≤◌, false, cond, eqb, List, ◌++◌, map, length, get_or, drop, replicate, ℤ, sym, refl, ap, ◌∙◌, ap₂, append_assoc, arith}
use borrow.Rule.Slice.PartMut.{put_mid}
use Rattle.claims.specs.Law.{Lawful, total}
use Rattle.run.proofs.Paths.{map_same}
use Rattle.run.proofs.Sums.{below-same, below-backward, weights_split}
use Rattle.run.specs.Advance.{sum_below, nil, weighed, pair_at}
use Rattle.run.specs.Gathered.{cost_pair, pair_from}
use Rattle.run.specs.Period.{Period, period_of, weight_at, cut, cost, dropped}
use Rattle.run.specs.declared.pair.Pair.{Pair}
use Rattle.std.proofs.lemmas.List.Edits.{length-between, get_or-between}
use Rattle.std.proofs.lemmas.List.{take_at, drop_at, drop-drop}
use Rattle.std.proofs.lemmas.Int.{ints}
use Rattle.std.proofs.lemmas.Bool.{cond-false}
use Rattle.std.proofs.lemmas.Bool.Decides.{nat_tests}
use Rattle.std.specs.List.{range_with_len, between}
use Rattle.units.specs.One.{one}
use Rattle.units.specs.Surplus.{surplus_of}
use Rattle.units.specs.declared.Weight.{Weight}

-- the surplus of a place in the array is that of its amount at the level
same_surplus : (u i q : ℕ) → i < q → surplus_of (u + i) (q - 1) ≡ surplus_of u (q - 1 - i)
same_surplus u i q h = omega (arith, ints)

module _ (ws : List Weight) (slots : List ℕ) (q : ℕ) (few : q ≤ 4096) (long : length slots ≡ 4096)
    (gathered : (j : ℕ) → j < q → get_or slots (4095 - j) 0 ≡ weight_at ws j) where
  abbrev part : List ℕ
  part = between (4096 - q) 4096 slots

  pub part_length : length part ≡ q
  part_length = omega (arith, length-between slots (4096 - q) 4096 (omega arith))

  part_at : (i : ℕ) → i < q → get_or part i 0 ≡ weight_at ws (q - 1 - i)
  part_at i h =
      let place : 4096 - q + i ≡ 4095 - (q - 1 - i) = omega arith in
      get_or-between slots (4096 - q) 4096 i 0 (omega arith)
      ∙ (ap (λ k. get_or slots k 0) place ∙ gathered (q - 1 - i) (omega arith))

  -- weights and terms by place, last amount first, sum to those by amount
  backward :
      (f g : ℕ → ℕ) → ((i : ℕ) → i < q → f i ≡ g (q - 1 - i)) → sum_below (length part) f ≡ sum_below q g
  backward f g same =
      ap (λ n. sum_below n f) part_length ∙ (below-same q f (λ i. g (q - 1 - i)) same ∙ sym (below-backward q g))

  -- with the weight left out they are no more than ONE
  pub part-whole :
      (left : ℕ) → left ≡ total (drop q ws) → Lawful ws → sum_below (length part) (λ i. get_or part i 0) + left ≤ one
  part-whole left is-left lawful =
      omega (arith, backward (λ i. get_or part i 0) (weight_at ws) part_at, weights_split q ws, lawful.whole)

  module _ (carried priced : ℕ → ℕ) (allowance known : ℕ) (old costs : List Pair) (is_cut : q ≡ cut allowance ws)
      (costed : (x : ℕ) → x < q - 1 + known → get_or costs x nil ≡ cost_pair carried priced old (surplus_of x (q - 1))) where
    abbrev period : Period
    period = period_of ws carried priced allowance

    module _ (side : Pair → ℕ)
        (told : (s : ℤ) → side (cost_pair carried priced old s) ≡ cost period (λ v. side (get_or old v nil)) s) where
      term :
          (u i : ℕ) → u < known → i < q
          → get_or part i 0 * side (get_or costs (u + i) nil) ≡ weight_at ws (q - 1 - i) * cost period (λ v. side (get_or old v nil)) (surplus_of u (q - 1 - i))
      term u i known h =
          ap₂ ◌*◌ (part_at i h)
          (ap side (costed (u + i) (omega arith))
          ∙ (told (surplus_of (u + i) (q - 1)) ∙ ap (cost period (λ v. side (get_or old v nil))) (same_surplus u i q h)))

      pub side_sum :
          (u : ℕ) → u < known
          → sum_below (length part) (λ i. get_or part i 0 * side (get_or costs (u + i) nil)) ≡ weighed period (λ v. side (get_or old v nil)) u
      side_sum u h =
          backward (λ i. get_or part i 0 * side (get_or costs (u + i) nil))
          (λ j. weight_at ws j * cost period (λ v. side (get_or old v nil)) (surplus_of u j)) (λ i k. term u i h k)
          ∙ ap (λ n. sum_below n (λ j. weight_at ws j * cost period (λ v. side (get_or old v nil)) (surplus_of u j))) is_cut

    pair_gathered :
        (left u : ℕ) → left ≡ dropped period → u < known → pair_from part costs left u ≡ pair_at period old u
    pair_gathered left u is-left h =
        ap₂ (λ l n. record { lower = l / one; upper = (n + (one - 1)) / one })
        (side_sum (λ pair. pair.lower) (λ s. refl) u h)
        (ap₂ (λ n d. n + d * one) (side_sum (λ pair. pair.upper) (λ s. refl) u h) is-left)

    pub row-gathered :
        (left n : ℕ) → left ≡ dropped period → n ≡ known
        → map (pair_from part costs left) (range_with_len 0 n) ≡ map (pair_at period old) (range_with_len 0 known)
    row-gathered left n is-left same =
        ap (λ k. map (pair_from part costs left) (range_with_len 0 k)) same
        ∙ map_same (pair_from part costs left) (pair_at period old) known (λ u h. pair_gathered left u is-left h)

-- a row of new pairs at the front of a board, and 0 and 0 after it up to the length
pub row_written :
    (long k : ℕ) (board row clear : List Pair) → k ≤ long → long ≤ length board → length row ≡ k
    → clear ≡ replicate (long - k) nil
    → put_mid k (long - k) (row ++ drop (k - 0) board) clear ≡ (row ++ replicate (long - k) nil) ++ drop long board
row_written long k board row clear fits within long-row is-clear =
    let front = take_at row (drop (k - 0) board) k long-row in
    let rest : drop (long - k) (drop k (row ++ drop (k - 0) board)) ≡ drop long board =
    ap (drop (long - k)) (drop_at row (drop (k - 0) board) k long-row)
    ∙ (drop-drop (long - k) (k - 0) board ∙ ap (λ n. drop n board) (omega arith)) in
    ap₂ ◌++◌ front (ap₂ ◌++◌ is-clear rest) ∙ sym (append_assoc row (replicate (long - k) nil) (drop long board))

-- the answer of work and what it leaves, where a level is known
pub where_known_is :
    {A : Type 0} (k K : ℕ) (before after x : A) → k ≡ K → (k ≡ 0 → ⊥) → x ≡ after → x ≡ cond (eqb K 0) before after
where_known_is k K before after x same some is =
    let none : eqb K 0 ≡ false = grind (arith, nat_tests) in is ∙ sym (cond-false (eqb K 0) before after none)

-- what the cut leaves out, by the amounts counted
pub same-dropped :
    (period : Period) (amounts left : ℕ) → amounts ≡ cut period.allowance period.weights
    → left ≡ total (drop amounts period.weights) → left ≡ dropped period
same-dropped period amounts left is_cut is-left = is-left ∙ ap (λ q. total (drop q period.weights)) is_cut
