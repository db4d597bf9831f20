-- The law of what stays with the club, up to a limit, of the claims of another law. Assumes nothing.
use Rattle.std.specs.Prelude.{List, [], ◌∷◌, ◌++◌, take, drop}
use Rattle.claims.specs.Law.{total}
use Rattle.units.specs.declared.Amount.{Amount}
use Rattle.units.specs.declared.Weight.{Weight}

-- all the weights as one, if there are any
abbrev pub joined : List Weight → List Weight
joined [] = []
joined (weight ∷ later) = record { 0 = total (weight ∷ later) } ∷ []

-- amounts below the limit keep their weight, and the limit has the weight of all from it on
abbrev pub retained_weights : Amount → List Weight → List Weight
retained_weights limit weights = take limit.0 weights ++ joined (drop limit.0 weights)
