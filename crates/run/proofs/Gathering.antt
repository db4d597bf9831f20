-- The loop that gathers the weights below the cut: what it keeps, its start, a turn and its end.
use Rattle.std.proofs.Common.{◌≡◌, ℕ, zero, suc, ◌+◌, ◌-◌, ◌<◌, ◌≤◌, ◌≢◌, List, [], ◌∷◌, length}
use Rattle.std.proofs.Common.{get_or, drop, set, Some, sym, refl, ap, ◌∙◌, subst, arith, get_or-set_other, get_or-set_same, length-set, below_more}
use Rattle.claims.specs.Law.{Lawful, total}
use Rattle.claims.proofs.Lookup.{tail_more}
use Rattle.std.proofs.lemmas.Bool.Decides.{nat_tests}
use Rattle.std.proofs.lemmas.List.{drop_all}
use Rattle.std.proofs.lemmas.Option.{get_or_from_slice_get}
use Rattle.run.proofs.Sums.{cut-rest, before_cut}
use Rattle.run.specs.Period.{cut, LeastCut, weight_at}
use Rattle.std.specs.List.{slice_get}
use Rattle.units.specs.declared.Weight.{Weight}

-- after `amounts` amounts: the weight of the others, and the cut so far
pub record Weighing (weights : List Weight) (allowance amounts tail : ℕ) (slots : List ℕ) : Type 0 where
  pub tail_is : tail ≡ total (drop amounts weights)
  pub within : amounts ≤ length weights
  pub cut_is : cut allowance weights ≡ amounts + cut allowance (drop amounts weights)
  pub gathered : (j : ℕ) → j < amounts → get_or slots (4095 - j) 0 ≡ weight_at weights j
  pub room : length slots ≡ 4096

cut_on :
    (allowance : ℕ) (weights : List Weight) (i : ℕ) → i < length weights → allowance < total (drop i weights)
    → cut allowance (drop i weights) ≡ suc (cut allowance (drop (i + 1) weights))
cut_on allowance [] i within above = absurd (omega arith)
cut_on allowance (first ∷ later) zero within above = grind (arith, nat_tests)
cut_on allowance (first ∷ later) (suc i) within above =
    let next : suc (i + 1) ≡ suc i + 1 = omega arith in
    cut_on allowance later i (omega arith) above ∙ ap (λ n. suc (cut allowance (drop n (first ∷ later)))) next

cut_here : (allowance : ℕ) (weights : List Weight) → total weights ≤ allowance → cut allowance weights ≡ 0
cut_here allowance [] fits = refl
cut_here allowance (first ∷ later) fits = grind (arith, nat_tests)

module _ (weights : List Weight) (allowance : ℕ) (lawful : Lawful weights) where
  pub weighing_more :
      (amounts tail : ℕ) (slots : List ℕ) (weight : Weight) → Weighing weights allowance amounts tail slots
      → allowance < tail → Some weight ≡ slice_get weights amounts
      → Weighing weights allowance (amounts + 1) (tail - weight.0) (set slots (4095 - amounts) weight.0)
  weighing_more amounts tail slots weight inv above there =
      let more = tail_more weights amounts weight there in
      let on = cut_on allowance weights amounts more.0 (omega (arith, inv.tail_is)) in
      record {
        tail_is = omega (arith, inv.tail_is, more.1);
        within = omega (arith, more.0);
        cut_is = omega (arith, inv.cut_is, on);
        gathered =
            below_more _ _
            (λ j h. let ne : 4095 - j ≢ 4095 - amounts = omega (arith, more.0, lawful.few) in rw get_or-set_other (inv.gathered j h))
            (let lt : 4095 - amounts < length slots = omega (arith, inv.room) in
            let here = get_or_from_slice_get weights amounts weight (record { 0 = 0 }) (sym there) in
            rw get_or-set_same (ap (λ w. w.0) (sym here)));
        room = length-set slots (4095 - amounts) weight.0 ∙ inv.room;
      }

  pub weighing_all :
      (amounts tail : ℕ) (slots : List ℕ) → Weighing weights allowance amounts tail slots → tail ≤ allowance
      → amounts ≡ cut allowance weights
  weighing_all amounts tail slots inv fits =
      omega (arith, inv.cut_is, cut_here allowance (drop amounts weights) (omega (arith, inv.tail_is)))

  pub weighing_least :
      (amounts tail : ℕ) (slots : List ℕ) → Weighing weights allowance amounts tail slots → tail ≤ allowance
      → LeastCut allowance weights amounts
  weighing_least amounts tail slots inv fits =
      subst (LeastCut allowance weights) (sym (weighing_all amounts tail slots inv fits))
      (record { rest = cut-rest allowance weights; least = before_cut allowance weights })

  -- a law has no amount from 4,096 on, so that nothing is left after so many
  pub weighing_ends : (amounts tail : ℕ) (slots : List ℕ) → amounts ≡ 4096 → Weighing weights allowance amounts tail slots
      → Weighing weights allowance 4096 tail slots × (tail ≤ allowance)
  weighing_ends amounts tail slots all inv = (
    subst (λ n. Weighing weights allowance n tail slots) all inv,
    omega (arith, inv.tail_is, ap total (drop_all amounts weights (omega (arith, lawful.few)))),
  )
