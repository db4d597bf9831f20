-- The scaled penalty never passes ONE, so that it fits its type.
use Rattle.std.specs.Prelude.{◌≡◌, ℕ, ◌+◌, ◌-◌, ◌*◌, ◌%◌, ◌^◌, ◌≤◌, min}
use Rattle.std.proofs.Common.{mul-le-mul_right, mod-eq_of_lt, arith, pow-add, sym, ap, ◌∙◌}
use Rattle.std.proofs.Math.Nat.{min-le_right}
use Rattle.std.proofs.lemmas.Nat.{one_shl}
use Rattle.units.specs.One.{one}

pub scaled-bounded : (d m : ℕ) → m ≤ 12 → min d (2 ^ m) * 2 ^ (30 - m) ≤ one
scaled-bounded d m small =
    let whole : m + (30 - m) ≡ 30 = omega arith in
    let parts : 2 ^ m * 2 ^ (30 - m) ≡ one = sym (pow-add 2 m (30 - m)) ∙ ap (λ k. 2 ^ k) whole in
    omega (arith, mul-le-mul_right (2 ^ (30 - m)) (min-le_right d (2 ^ m)), parts)

-- the price as the shifts of the code make it
pub scaled_shifted : (d m counted : ℕ) → m ≤ 12 → counted ≡ min d ((1 * 2 ^ m) % 2 ^ 32) → (counted * 2 ^ (30 - m)) % 2 ^ 32 ≡ min d (2 ^ m) * 2 ^ (30 - m)
scaled_shifted d m counted small is =
    let same : counted ≡ min d (2 ^ m) = is ∙ ap (λ n. min d n) (one_shl m 32 (omega arith)) in
    ap (λ n. (n * 2 ^ (30 - m)) % 2 ^ 32) same ∙ mod-eq_of_lt (omega (arith, scaled-bounded d m small))
