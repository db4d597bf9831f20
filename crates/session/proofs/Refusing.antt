-- What a record that is answered or refused tells.
use Rattle.std.proofs.Common.{◌≡◌, ℕ, Some, None, Ok, Err, Option, arith}
use Rattle.session.specs.Step.{entry_of}
use Rattle.session.specs.declared.cause.Cause.{Cause}
use Rattle.session.specs.declared.entry.Answered.{Answered}
use Rattle.session.specs.declared.entry.Entry.TheVariants.{Fault as Refuses}
use Rattle.units.specs.Checks.{answer_unless}

pub tells_ok : (offset : ℕ) (fault : Option Cause) (answer told : Option Answered) → Ok told ≡ answer_unless fault answer
    → entry_of offset None told ≡ entry_of offset fault answer
tells_ok offset fault answer told e = grind arith

pub tells_err : (offset : ℕ) (fault : Option Cause) (answer : Option Answered) (cause : Cause) → Err cause ≡ answer_unless fault answer
    → Some (Refuses (record { cause = cause; offset = offset })) ≡ entry_of offset fault answer
tells_err offset fault answer cause e = grind arith
