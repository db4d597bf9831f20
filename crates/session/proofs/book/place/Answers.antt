use Rattle.session.proofs.Placing.{placing}
use Rattle.session.proofs.book.place.Goals as goal

pub returns-clause-weights : goal.returns-clause-weights
returns-clause-weights c =
    placing c.args.weights.now.slots.now c.args.weights.now.filled c.args.amount.0 c.args.weight c.requires.below c.requires.room
    _ _ _ _ (rw c.from.ensures at c.pad.ensures.slots) (rw c.from.ensures at c.pad.ensures.filled) c.put.ensures.slots c.put.ensures.filled
