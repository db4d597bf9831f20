-- The quotient of two doubles that are whole numbers, and that a bound divided by 2^30 is a double.
use Rattle.std.proofs.Common.{◌≡◌, ℕ, ◌*◌, ◌^◌, ◌<◌, ◌≤◌, Bool, true, false, cond, eqb, pos, sym, ap}
use Rattle.std.proofs.Common.{◌∙◌, subst, true≢false, lt_of_lt_of_le, le_of_lt, lt_irrefl, mul_assoc, mul_comm, mul-pos, mul-one}
use Rattle.std.proofs.Common.{lit≤, pow_pos, shl_lt, ne_eqb}
use lib.Ieee.{Float, nan, inf, fin, Format, binary64, up, down, round, div, of_int}
use lib.Ieee.Back.{round_whole}
use lib.Ieee.Exact.{HasValue, round_exact}
use lib.Ieee.Fits.{down_pos}
use lib.Ieee.Positive.{first_pos}
use lib.Ieee.Scale.{round_same}
use Rattle.report.specs.Chart.{IsShare}

-- m / e is the whole a, and n / d the whole b: so one divided by the other is a / b
cross : (m e n d a b : ℕ) → m * 1 ≡ a * e → n * 1 ≡ b * d → m * d * b ≡ a * (n * e)
cross m e n d a b is_a is_b =
    ap (λ (k : ℕ). k * d * b) (sym (mul-one m) ∙ is_a)
    ∙ mul_assoc (a * e) d b
    ∙ ap (λ (k : ℕ). a * e * k) (mul_comm d b ∙ sym is_b ∙ mul-one n)
    ∙ mul_assoc a e n
    ∙ ap (λ (k : ℕ). a * k) (mul_comm e n)

quotient : (f : Format) (x y : Float) (a b : ℕ) → 0 < b → HasValue x false a 1 → HasValue y false b 1 → div f x y ≡ round f false a b
unfolding div
quotient f nan y a b above is_a is_b = absurd is_a
quotient f (inf s) y a b above is_a is_b = absurd is_a
quotient f (fin true m e) y a b above is_a is_b = absurd (true≢false is_a.0)
quotient f (fin false m e) nan a b above is_a is_b = absurd is_b
quotient f (fin false m e) (inf t) a b above is_a is_b = absurd is_b
quotient f (fin false m e) (fin true n d) a b above is_a is_b = absurd (true≢false is_b.0)
quotient f (fin false m e) (fin false n d) a b above is_a is_b =
    let divisor : 0 < n * up d = subst (λ (k : ℕ). 0 < k) (sym is_b.1 ∙ mul-one (n * up d)) (mul-pos above (down_pos d)) in
    let some : 0 < n = first_pos n (up d) divisor in
    ap (λ (none : Bool). cond none (cond (eqb m 0) nan (inf false)) (round f false (m * up e * down d) (n * up d * down e)))
    (ne_eqb n 0 (λ nil. lt_irrefl 0 (subst (λ (k : ℕ). 0 < k) nil some)))
    ∙ round_same f false (m * up e * down d) (n * up d * down e) a b (mul-pos divisor (down_pos e)) above
    (cross (m * up e) (down e) (n * up d) (down d) a b is_a.1 is_b.1)

-- a whole number of at most 53 digits is a double
whole : (n : ℕ) → n ≤ 2 ^ 53 → HasValue (of_int binary64 (pos n)) false n 1
unfolding of_int
whole n small = round_whole binary64 false n small

-- a bound has at most 32 digits, so moving its point by 30 places loses none
moved : (bound : ℕ) → bound < 2 ^ 32 → IsShare (round binary64 false bound (2 ^ 30)) bound
moved bound small =
    round_exact binary64 false bound (2 ^ 30) bound 1044 (pow_pos 30) (lt_of_lt_of_le small (lit≤ tt))
    (lt_of_lt_of_le (shl_lt 32 1044 small) (lit≤ tt)) (sym (mul_assoc bound (2 ^ 1044) (2 ^ 30)))

pub divided : (bound : ℕ) → bound < 2 ^ 32 → IsShare (div binary64 (of_int binary64 (pos bound)) (of_int binary64 (pos (2 ^ 30)))) bound
divided bound small =
    let a_double = whole bound (le_of_lt (lt_of_lt_of_le small (lit≤ tt))) in
    subst (λ (x : Float). IsShare x bound)
    (sym (quotient binary64 _ _ bound (2 ^ 30) (pow_pos 30) a_double (whole (2 ^ 30) (lit≤ tt))))
    (moved bound small)
