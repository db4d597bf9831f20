use Rattle.std.proofs.Common.{rules, of_calls}
use Rattle.roll.proofs.Filling.{filled_with, padded_by}
use Rattle.roll.proofs.roll.Roll.pad.Goals as goal

pub returns-then-self-count-clause-slots : goal.returns-then-self-count-clause-slots
returns-then-self-count-clause-slots g c =
    let filled = c.fill_with in
    let copies = filled_with _ (λ f. f.0.now) (λ f item next step. (search of_calls, search of_calls)) filled.new.self _ _ filled.ensures.ran.1 in
    let whole =
    padded_by c.args.self.now.slots.now _ c.args.self.now.filled c.args.count c.args.item
    (search rules) (search rules) filled.ensures.len copies in
    search rules
