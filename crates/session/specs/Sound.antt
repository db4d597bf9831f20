-- What a session keeps of its law and the roll of its weights. Assumes nothing.
use Rattle.std.specs.Prelude.{◌≡◌, ℕ, ◌≤◌, length}
use Rattle.claims.specs.Law.{total}
use Rattle.session.specs.Law.{Law, no_law, part_law, whole_law, Row, items}
use Rattle.units.specs.One.{one}
use Rattle.units.specs.declared.Weight.{Weight}

-- in part law, the least amount that may come next; else the number given
abbrev pub next_in : Law → ℕ → ℕ
next_in no_law other = other
next_in (part_law given) other = given.next
next_in (whole_law weights) other = other

-- in part law, the sum of the weights given; else the number given
abbrev pub sum_in : Law → ℕ → ℕ
sum_in no_law other = other
sum_in (part_law given) other = given.sum
sum_in (whole_law weights) other = other

-- the sum of a whole law's weights
abbrev pub whole_in : Law → ℕ
whole_in no_law = one
whole_in (part_law given) = one
whole_in (whole_law weights) = total weights

-- how many weights a whole law has
abbrev pub long_in : Law → ℕ
long_in no_law = 0
long_in (part_law given) = 0
long_in (whole_law weights) = length weights

-- the slots below the next amount are filled and weigh what is given; a whole law sums to ONE and is not too long
pub record Sound (law : Law) (row : Row Weight) : Type 0 where
  pub fits : row.filled ≤ length row.slots
  pub few : row.filled ≤ 4096
  pub next : next_in law row.filled ≡ row.filled
  pub sum : sum_in law (total (items row)) ≡ total (items row)
  pub whole : whole_in law ≡ one
  pub short : long_in law ≤ 4096
