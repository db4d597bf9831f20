use Rattle.session.proofs.Leading.{leads-on, tells_faithfully}
use Rattle.session.proofs.Nearing.{step_nearer}
use Rattle.session.proofs.session.Session.step.Goals as goal
use Rattle.session.specs.Views.{view_of}

pub returns : goal.returns
returns c =
    let stepped = c.take_step.ensures in
    record {
      answer = stepped.answer;
      view = stepped.view;
      lists = stepped.lists;
      nearer = step_nearer (view_of c.args.self.now) c.take_step.result (view_of c.take_step.new.self) stepped.answer stepped.view;
      leads_on = leads-on c.args.self.now (view_of c.take_step.new.self) stepped.view;
      faithful = tells_faithfully c.args.self.now;
    }
