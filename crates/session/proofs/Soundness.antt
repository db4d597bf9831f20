-- What a session keeps of its law and the roll of its weights stays so, whatever a record does.
use Rattle.std.proofs.Common.{◌≡◌, ◌+◌, ◌<◌, ◌≤◌, List, [], ◌∷◌, length}
use Rattle.std.proofs.Common.{sym, refl, ap, ◌∙◌, arith}
use Rattle.claims.specs.Law.{Lawful, total}
use Rattle.session.specs.Law.{Law, no_law, part_law, whole_law, Row, items, given_in, row_in, claimed_law, claimed_row}
use Rattle.session.proofs.Placing.{length-placed, total-placed}
use Rattle.session.specs.Sound.{Sound}
use Rattle.units.specs.One.{one}
use Rattle.units.specs.declared.Amount.{Amount}
use Rattle.units.specs.declared.Weight.{Weight}

pub aligned : (law : Law) (row : Row Weight) → Sound law row → (row_in law row).filled ≡ (given_in law).next
aligned no_law row sound = refl
aligned (part_law given) row sound = sym sound.next
aligned (whole_law weights) row sound = refl

-- the row that a weight is put on weighs what is given
base_sum : (law : Law) (row : Row Weight) → Sound law row → (given_in law).sum ≡ total (items (row_in law row))
base_sum no_law row sound = refl
base_sum (part_law given) row sound = sound.sum
base_sum (whole_law weights) row sound = refl

base_slots : (law : Law) (row : Row Weight) → (row_in law row).slots ≡ row.slots
base_slots no_law row = refl
base_slots (part_law given) row = refl
base_slots (whole_law weights) row = refl

-- a weight that is taken
pub claimed_sound : (law : Law) (row : Row Weight) (amount : Amount) (weight : Weight) → Sound law row
    → amount.0 ≤ 4095 → (given_in law).next ≤ amount.0 → amount.0 < length row.slots
    → Sound (claimed_law law amount weight) (claimed_row law row amount weight)
claimed_sound law row amount weight sound small above room =
    let base : Row Weight = row_in law row in
    let below : base.filled ≤ amount.0 = omega (arith, aligned law row sound) in
    let roomy : amount.0 < length base.slots = omega (arith, ap length (base_slots law row)) in
    record {
      fits = omega (arith, length-placed base.slots base.filled amount.0 weight below roomy);
      few = omega arith;
      next = refl;
      sum = ap (λ n. n + weight.0) (base_sum law row sound) ∙ sym (total-placed base.slots base.filled amount.0 weight below roomy);
      whole = refl;
      short = omega arith;
    }

-- a whole law can be loaded
pub whole_lawful : (weights : List Weight) → total weights ≡ one → length weights ≤ 4096 → Lawful weights
whole_lawful [] whole short = grind arith
whole_lawful (w ∷ later) whole short = record { some = omega arith; few = short; whole = whole }
