-- The bytes of a record: the letter of its kind, then its numbers, high byte first. Assumes nothing.
use Rattle.std.specs.Prelude.{ℕ, ◌/◌, ◌%◌, List, [], ◌∷◌, ◌++◌, codes}
use Rattle.feed.specs.declared.record.Record.{Record}
use Rattle.feed.specs.declared.record.Record.TheVariants.{Claim, EndLaw, ScrapLaw, SingleSize, Retain}
use Rattle.feed.specs.declared.record.Record.TheVariants.{Plain, Floor, Barrier, AnyRuin, BelowDeficit}
use Rattle.feed.specs.declared.record.Record.TheVariants.{Scaled, Allowance, Open, Advance, Ask}

abbrev pub two : ℕ → List ℕ
two n = n / 256 ∷ n % 256 ∷ []

abbrev pub four : ℕ → List ℕ
four n = n / 16777216 ∷ n / 65536 % 256 ∷ n / 256 % 256 ∷ n % 256 ∷ []

abbrev pub record_bytes : Record → List ℕ
record_bytes (Claim amount weight) = codes "w" ++ two amount.0 ++ four weight.0
record_bytes (EndLaw count) = codes "e" ++ two count
record_bytes ScrapLaw = codes "z"
record_bytes (SingleSize size weight) = codes "s" ++ two size.0 ++ four weight.0
record_bytes (Retain limit) = codes "c" ++ two limit.0
record_bytes Plain = codes "n"
record_bytes (Floor level) = codes "f" ++ two level.0
record_bytes (Barrier level) = codes "b" ++ two level.0
record_bytes AnyRuin = codes "p"
record_bytes (BelowDeficit deficit) = codes "y" ++ two deficit
record_bytes (Scaled scale) = codes "m" ++ scale ∷ []
record_bytes (Allowance weight) = codes "a" ++ four weight.0
record_bytes (Open size) = codes "o" ++ two size
record_bytes Advance = codes "t"
record_bytes (Ask level) = codes "u" ++ two level.0
