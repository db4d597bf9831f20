-- What amount j costs from level u: ruin with the deficit j - (u + 1) from u + 1 on, else the surplus is u + 1 - j.
use Rattle.std.proofs.Common.{◌≡◌, ℕ, zero, suc, ◌+◌, ◌-◌, ◌<◌, ◌≤◌, ℤ, pos, negsuc, neg_ℤ, refl, ap, ◌∙◌, ⊎_elim, arith}
use Rattle.run.specs.Period.{Period, cost}
use Rattle.std.proofs.lemmas.Int.{ints}
use Rattle.std.proofs.lemmas.Bool.{cases_lt}
use Rattle.units.specs.Surplus.{surplus_of}

pub surplus_ruined : (u j : ℕ) → u + 1 ≤ j → surplus_of u j ≡ neg_ℤ (pos (j - (u + 1)))
surplus_ruined u j h = omega (arith, ints)

pub surplus_left : (u j : ℕ) → j ≤ u → surplus_of u j ≡ pos (suc (u - j))
surplus_left u j h = omega (arith, ints)

module _ (p : Period) where
  module _ (b : ℕ → ℕ) where
    cost-at_deficit : (d : ℕ) → cost p b (neg_ℤ (pos d)) ≡ p.priced d
    cost-at_deficit zero = refl
    cost-at_deficit (suc d) = refl

    pub cost_ruined : (u j : ℕ) → u + 1 ≤ j → cost p b (surplus_of u j) ≡ p.priced (j - (u + 1))
    cost_ruined u j h = ap (cost p b) (surplus_ruined u j h) ∙ cost-at_deficit (j - (u + 1))

    pub cost-carried : (u j : ℕ) → j ≤ u → cost p b (surplus_of u j) ≡ b (p.carried (u + 1 - j))
    cost-carried u j h = ap (cost p b) (surplus_left u j h) ∙ ap (λ s. b (p.carried s)) (omega arith)

    -- amounts up to j have deficits below j
    pub cost-at-most :
        (most u j : ℕ) → ((d : ℕ) → d < j → p.priced d ≤ most) → ((v : ℕ) → b v ≤ most)
        → cost p b (surplus_of u j) ≤ most
    cost-at-most most u j priced onward =
        ⊎_elim (λ h. rw (cost_ruined u j (omega arith)) (priced (j - (u + 1)) (omega arith)))
        (λ h. rw (cost-carried u j (omega arith)) (onward (p.carried (u + 1 - j)))) (cases_lt u j)

-- costs at one surplus are related as the penalties and the bounds of the levels carried to are
pub cost_related :
    (R : ℕ → ℕ → Type 0) (p q : Period) (b c : ℕ → ℕ) → ((d : ℕ) → R (p.priced d) (q.priced d))
    → ((s : ℕ) → R (b (p.carried s)) (c (q.carried s))) → (s : ℤ) → R (cost p b s) (cost q c s)
cost_related R p q b c priced onward (pos zero) = priced 0
cost_related R p q b c priced onward (pos (suc s)) = onward (suc s)
cost_related R p q b c priced onward (negsuc d) = priced (suc d)
