use Rattle.std.proofs.Common.{string_bytes, rules}
use Rattle.session.specs.Views.{view_of}
use Rattle.soundings_session.proofs.Telling.{telling_more, telling_last}
use Rattle.soundings_session.proofs.tell.Goals as goal

pub loop-session-preserved : goal.loop-session-preserved
loop-session-preserved c =
    telling_more (view_of c.args.session.now) (view_of c.loop-session.session) (string_bytes c.loop-session.text) c.loop-session.invariant
    (view_of c.step.new.self) _ (string_bytes c.add_lines.new.text) (search rules) c.step.ensures.view
    (search rules) c.step.ensures.leads_on c.step.ensures.faithful (search rules)

pub returns-in-Ok-Ended : goal.returns-in-Ok-Ended
returns-in-Ok-Ended c =
    telling_last (view_of c.args.session.now) (view_of c.loop-session.session) (string_bytes c.loop-session.text) c.loop-session.invariant (string_bytes c.in_ok-end-in-Ok-Ended.end)
    (string_bytes c.push_str.new.self) (search rules) (search rules) (search rules)
