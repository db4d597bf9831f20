use Rattle.std.proofs.Common.{rules}
use Rattle.capital.specs.Scale.{scaled_shifted}
use Rattle.capital.proofs.scaled.ScaledPenalty.price.Goals as goal

pub returns : goal.returns
returns c = search (rules, scaled_shifted)
