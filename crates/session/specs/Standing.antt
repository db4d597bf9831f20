-- The rule and the penalty that stand keep what every rule and penalty keeps.
use Rattle.std.proofs.Common.{arith}
use Rattle.capital.specs.Scale.{scaled-bounded}
use Rattle.capital.specs.Laws.{Within, Rising, Bounded}
use Rattle.session.specs.Parts.{carried_by, priced_by}
use Rattle.session.specs.declared.terms.Price.{Price}
use Rattle.session.specs.declared.terms.Price.TheVariants.{AnyRuin, Below, Scaled}
use Rattle.session.specs.declared.terms.Rule.{Rule}
use Rattle.session.specs.declared.terms.Rule.TheVariants.{Plain, Floor, Barrier}
use Rattle.std.proofs.lemmas.Bool.Decides.{nat_tests}

pub carried-within : (rule : Rule) → Within (carried_by rule)
carried-within Plain s least most = (least, most)
carried-within (Floor floor) s least most = let low = floor.level.least in let high = floor.level.most in (omega arith, omega arith)
carried-within (Barrier barrier) s least most = let low = barrier.level.least in let high = barrier.level.most in (omega arith, omega arith)

pub carried-rising : (rule : Rule) → Rising (carried_by rule)
carried-rising Plain s t least higher most = higher
carried-rising (Floor floor) s t least higher most = omega arith
carried-rising (Barrier barrier) s t least higher most = omega arith

pub priced-bounded : (price : Price) → Bounded (priced_by price)
priced-bounded AnyRuin d most = omega arith
priced-bounded (Below below) d most = grind (arith, nat_tests)
priced-bounded (Scaled scaled) d most = scaled-bounded d scaled.m.value scaled.m.most
