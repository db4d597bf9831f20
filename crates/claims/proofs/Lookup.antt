-- What the list of the retained law holds at each amount.
use Rattle.std.proofs.Common.{◌≡◌, ℕ, zero, suc, ◌+◌, ◌<◌, ◌≤◌, List, [], ◌∷◌, ◌++◌, length, take, drop, Some, None, sym, refl, ap, ◌∙◌, arith}
use Rattle.claims.specs.Law.{Lawful, total}
use Rattle.claims.specs.Retained.{joined, retained_weights}
use Rattle.std.proofs.lemmas.Option.{get_or_from_slice_get, slice_get_within}
use Rattle.std.proofs.lemmas.List.Sums.{sum_by-drop_more, sum_by-take-drop}
use Rattle.std.specs.List.{slice_get}
use Rattle.units.specs.One.{one}
use Rattle.units.specs.declared.Amount.{Amount}
use Rattle.units.specs.declared.Weight.{Weight}

abbrev as_weight : ℕ → Weight
as_weight n = record { 0 = n }

nth-below : (limit i : ℕ) (weights : List Weight) → i < limit → slice_get weights i ≡ slice_get (take limit weights ++ joined (drop limit weights)) i
nth-below zero i weights h = absurd (omega arith)
nth-below (suc limit) i [] h = refl
nth-below (suc limit) zero (weight ∷ later) h = refl
nth-below (suc limit) (suc i) (weight ∷ later) h = nth-below limit i later (omega arith)

nth-limit :
    (limit : ℕ) (weights : List Weight) → limit < length weights
    → Some (as_weight (total (drop limit weights))) ≡ slice_get (take limit weights ++ joined (drop limit weights)) limit
nth-limit limit [] h = absurd (omega arith)
nth-limit zero (weight ∷ later) h = refl
nth-limit (suc limit) (weight ∷ later) h = nth-limit limit later (omega arith)

module _ (limit amount : Amount) (weights : List Weight) where
  pub retained_below : amount.0 < limit.0 → slice_get weights amount.0 ≡ slice_get (retained_weights limit weights) amount.0
  retained_below h = nth-below limit.0 amount.0 weights h

  pub retained_at :
      (weight : Weight) → weight.0 ≡ total (drop amount.0 weights) → amount.0 ≡ limit.0 → limit.0 < length weights
      → Some weight ≡ slice_get (retained_weights limit weights) amount.0
  retained_at weight tail same within =
      let number : weight.0 ≡ total (drop limit.0 weights) = tail ∙ ap (λ n. total (drop n weights)) same in
      ap (λ n. Some (as_weight n)) number ∙ (nth-limit limit.0 weights within ∙ ap (slice_get (retained_weights limit weights)) (sym same))

-- one more weight of a tail
pub tail_more :
    (weights : List Weight) (i : ℕ) (weight : Weight) → Some weight ≡ slice_get weights i
    → (i < length weights) × (total (drop i weights) ≡ weight.0 + total (drop (i + 1) weights))
tail_more weights i weight here =
    let within = slice_get_within weights i weight (sym here) in
    let same = get_or_from_slice_get weights i weight weight (sym here) in
    (within, sum_by-drop_more (λ w. w.0) weights i weight within ∙ ap (λ w. w.0 + total (drop (i + 1) weights)) same)

-- where a tail ends
pub tail_none : (weights : List Weight) (i : ℕ) → None ≡ slice_get weights i → total (drop i weights) ≡ 0
tail_none [] zero h = refl
tail_none [] (suc i) h = refl
tail_none (first ∷ later) zero h = let z : ◌≡◌ {A = ℕ} 0 1 = cc in absurd (omega arith)
tail_none (first ∷ later) (suc i) h = tail_none later i h

pub tail_whole : (weights : List Weight) (i : ℕ) → Lawful weights → total (drop i weights) ≤ one
tail_whole weights i lawful = omega (arith, sum_by-take-drop (λ w. w.0) weights i, lawful.whole)
