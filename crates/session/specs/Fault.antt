-- The numbers of refusals, each from the layer that found it. Assumes nothing.
use Rattle.std.specs.Prelude.{ℕ}
use Rattle.capital.specs.Fault.{fault_number as capital_number}
use Rattle.claims.specs.Fault.{fault_number as law_number}
use Rattle.feed.specs.Faults.{fault_number as feed_number}
use Rattle.roll.specs.Fault.{fault_number as roll_number}
use Rattle.run.specs.Fault.{fault_number as run_number}
use Rattle.session.specs.declared.cause.Cause.{Cause}
use Rattle.session.specs.declared.cause.Cause.TheVariants.{Roll, Feed, Law, Capital, Run, Session}
use Rattle.session.specs.declared.fault.SessionFault.{SessionFault}
use Rattle.session.specs.declared.fault.SessionFault.TheVariants.{NotTaken, LogFull}

abbrev pub fault_number : SessionFault → ℕ
fault_number NotTaken = 601
fault_number LogFull = 602

abbrev pub cause_number : Cause → ℕ
cause_number (Roll fault) = roll_number fault
cause_number (Feed fault) = feed_number fault
cause_number (Law fault) = law_number fault
cause_number (Capital fault) = capital_number fault
cause_number (Run fault) = run_number fault
cause_number (Session fault) = fault_number fault
