-- What every capital rule and every penalty keeps. Assumes nothing.
use Rattle.std.specs.Prelude.{ℕ, ◌≤◌}
use Rattle.units.specs.One.{one}

-- a surplus of 1 to 8,192 is carried to a level of 1 to 8,192
abbrev pub Within : (ℕ → ℕ) → Type 0
Within carried = (s : ℕ) → 1 ≤ s → s ≤ 8192 → (1 ≤ carried s) × (carried s ≤ 8192)

-- and never to a lower level for a higher surplus
abbrev pub Rising : (ℕ → ℕ) → Type 0
Rising carried = (s t : ℕ) → 1 ≤ s → s ≤ t → t ≤ 8192 → carried s ≤ carried t

-- a deficit of 0 to 4,095 is priced at most ONE
abbrev pub Bounded : (ℕ → ℕ) → Type 0
Bounded priced = (d : ℕ) → d ≤ 4095 → priced d ≤ one
