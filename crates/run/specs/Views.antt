-- A run and a period of the code as the definitions read them. Assumes nothing.
use Rattle.std.specs.Prelude.{ℕ, true, List}
use Rattle.run.specs.Calls.{Kept, Held, fresh}
use Rattle.run.specs.Period.{Period, period_of}
use Rattle.run.specs.declared.pair.Pair.{Pair}
use Rattle.run.specs.declared.period.Period.{Period as PeriodOf}
use Rattle.run.specs.declared.run.Opened.{Opened}
use Rattle.run.specs.declared.run.Run.{Run}
use Rattle.std.specs.Option.{option_map, unwrap_or}
use Rattle.units.specs.declared.Weight.{Weight}

abbrev pub kept_open : Opened → Kept
kept_open opened = record {
  is_open = true;
  long = opened.long;
  known = opened.known;
  periods = opened.periods;
  total = opened.dropped;
}

abbrev pub kept_by : Run → Kept
kept_by run = unwrap_or (option_map kept_open run.opened) fresh

abbrev pub held_by : Run → List Pair → List Pair → Held
held_by run board spare = record { run = kept_by run; board = board; spare = spare }

-- a period by what its law, its rule and its penalty mean
abbrev pub meant : {L R P : Type 0} → (L → List Weight) → (R → ℕ → ℕ) → (P → ℕ → ℕ) → PeriodOf L R P → Period
meant weights carried priced period =
    period_of (weights period.law.now) (carried period.rule.now) (priced period.penalty.now) period.allowance.0
