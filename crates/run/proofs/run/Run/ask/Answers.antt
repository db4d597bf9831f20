use Rattle.run.proofs.Faith.{answer_faithful}
use Rattle.run.proofs.run.Run.ask.Goals as goal
use Rattle.run.specs.Views.{held_by}

pub returns-clause-faithful : goal.returns-clause-faithful
returns-clause-faithful c =
    answer_faithful (held_by c.args.self.now c.args.board.now c.args.spare.now) c.args.level.0 c.look_up.result c.look_up.ensures
