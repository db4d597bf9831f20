-- The parts of a session as the definitions read them. Assumes nothing.
use Rattle.std.specs.Prelude.{ℕ}
use Rattle.capital.specs.Meanings.{plain_level, floor_level, barrier_level, any_ruin_price, below_price, scaled_price}
use Rattle.run.specs.Calls.{Held}
use Rattle.run.specs.Views.{held_by}
use Rattle.session.specs.Law.{items, Law}
use Rattle.session.specs.Stages.{row_of, law_by}
use Rattle.session.specs.Terms.{Agreed}
use Rattle.session.specs.declared.book.Book.{Book}
use Rattle.session.specs.declared.desk.Desk.{Desk}
use Rattle.session.specs.declared.terms.Rule.{Rule}
use Rattle.session.specs.declared.terms.Rule.TheVariants.{Plain, Floor, Barrier}
use Rattle.session.specs.declared.terms.Price.{Price}
use Rattle.session.specs.declared.terms.Price.TheVariants.{AnyRuin, Below, Scaled}
use Rattle.session.specs.declared.terms.Terms.{Terms}

abbrev pub law_of : Book → Law
law_of book = law_by book.stage (items (row_of book.weights))

abbrev pub carried_by : Rule → ℕ → ℕ
carried_by Plain = plain_level
carried_by (Floor floor) = floor_level floor.level.value
carried_by (Barrier barrier) = barrier_level barrier.level.value

abbrev pub priced_by : Price → ℕ → ℕ
priced_by AnyRuin = any_ruin_price
priced_by (Below below) = below_price below.y.value
priced_by (Scaled scaled) = scaled_price scaled.m.value

abbrev pub agreed_by : Terms → Agreed
agreed_by terms = record {
  carried = carried_by terms.rule;
  priced = priced_by terms.price;
  allowance = terms.allowance.0;
  limit = record { 0 = terms.limit.amount.value };
}

abbrev pub held_in : Desk → Held
held_in desk = held_by desk.run desk.board.now desk.spare.now
