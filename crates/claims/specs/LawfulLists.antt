-- That each law's list is lawful, which its ghost member has to show here. Assumes nothing.
use Rattle.std.specs.Prelude.{◌≡◌, ℕ, zero, suc, ◌+◌, ◌-◌, ◌≤◌, min, List, [], ◌∷◌, ◌++◌, length, take, drop, replicate, refl}
use Rattle.std.proofs.Common.{arith, length-append, length-take, length-drop}
use Rattle.std.proofs.lemmas.List.{length-replicate}
use Rattle.claims.specs.Law.{Lawful, total}
use Rattle.claims.specs.Retained.{joined, retained_weights}
use Rattle.claims.specs.SingleSize.{single_weights}
use Rattle.std.proofs.lemmas.List.Sums.{sum_by-cons, sum_by-append, sum_by-take-drop}
use Rattle.units.specs.One.{one}
use Rattle.units.specs.declared.Amount.{Amount}
use Rattle.units.specs.declared.Weight.{Weight}

pub table_lawful : (list : List Weight) → 1 ≤ length list → length list ≤ 4096 → total list ≡ one → Lawful list
table_lawful list some few whole = record { some = some; few = few; whole = whole }

abbrev pub nothing : Weight
nothing = record { 0 = 0 }

pub total-nothing : (n : ℕ) → total (replicate n nothing) ≡ 0
total-nothing zero = refl
total-nothing (suc n) =
    omega (arith, sum_by-cons (λ w. w.0) nothing (replicate n nothing), total-nothing n)

pub length_single : (size : Amount) (weight : Weight) → 1 ≤ size.0 → length (single_weights size weight) ≡ size.0 + 1
length_single size weight least =
    let between : List Weight = replicate (size.0 - 1) nothing in
    omega (arith, length-append between (weight ∷ []), length-replicate (size.0 - 1) nothing)

pub single_lawful : (size : Amount) (weight : Weight) → 1 ≤ size.0 → size.0 ≤ 4095 → weight.0 ≤ one → Lawful (single_weights size weight)
single_lawful size weight least most share =
    let between : List Weight = replicate (size.0 - 1) nothing in
    let rest : Weight = record { 0 = one - weight.0 } in
    let long = length_single size weight least in
    record {
      some = omega (arith, long);
      few = omega (arith, long);
      whole = omega (arith, sum_by-cons (λ w. w.0) rest (between ++ weight ∷ []), sum_by-append (λ w. w.0) between (weight ∷ []), total-nothing (size.0 - 1));
    }

length-joined : (weights : List Weight) → length (joined weights) ≡ min 1 (length weights)
length-joined [] = refl
length-joined (weight ∷ later) = omega arith

total-joined : (weights : List Weight) → total (joined weights) ≡ total weights
total-joined [] = refl
total-joined (weight ∷ later) = omega arith

module _ (limit : Amount) (weights : List Weight) where
  abbrev below : List Weight
  below = take limit.0 weights

  abbrev from : List Weight
  from = drop limit.0 weights

  pub length_retained : length (retained_weights limit weights) ≡ min limit.0 (length weights) + min 1 (length weights - limit.0)
  length_retained =
      omega (arith, length-append below (joined from), length-joined from, length-take limit.0 weights, length-drop limit.0 weights)

  pub retained_lawful : limit.0 ≤ 4095 → Lawful weights → Lawful (retained_weights limit weights)
  retained_lawful most lawful = record {
    some = omega (arith, length_retained);
    few = omega (arith, length_retained);
    whole = omega (arith, sum_by-append (λ w. w.0) below (joined from), total-joined from, sum_by-take-drop (λ w. w.0) weights limit.0);
  }
