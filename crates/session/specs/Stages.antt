-- A roll, and the law by its stage in the code, as the definitions read them. Assumes nothing.
use Rattle.std.specs.Prelude.{List}
use Rattle.claims.specs.Drafts.{given_by}
use Rattle.claims.specs.SingleSize.{single_weights}
use Rattle.roll.specs.declared.roll.Roll.{Roll}
use Rattle.session.specs.Law.{Row, Law, no_law, part_law, whole_law}
use Rattle.session.specs.declared.book.Source.{Source}
use Rattle.session.specs.declared.book.Source.TheVariants.{Listed, Single}
use Rattle.session.specs.declared.book.Stage.{Stage}
use Rattle.session.specs.declared.book.Stage.TheVariants.{NoLaw, PartLaw, WholeLaw}
use Rattle.units.specs.declared.Weight.{Weight}

abbrev pub row_of : {A : Type 0} → Roll A → Row A
row_of roll = record { slots = roll.slots.now; filled = roll.filled }

abbrev pub weights_from : Source → List Weight → List Weight
weights_from Listed listed = listed
weights_from (Single single) listed = single_weights (record { 0 = single.size.value }) single.weight

abbrev pub law_by : Stage → List Weight → Law
law_by NoLaw listed = no_law
law_by (PartLaw draft) listed = part_law (given_by draft)
law_by (WholeLaw source) listed = whole_law (weights_from source listed)
