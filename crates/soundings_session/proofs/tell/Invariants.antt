use Rattle.session.specs.Step.{remaining}
use Rattle.session.specs.Views.{view_of}
use Rattle.soundings_session.proofs.Telling.{Telling}
use Rattle.soundings_session.proofs.tell.Given as goal
use Rattle.std.proofs.Common.{string_bytes}

abbrev pub invariant-loop-session : goal.invariant-loop-session
invariant-loop-session l = Telling (view_of l.initial.session) (view_of l.session) (string_bytes l.text)

abbrev pub decreases-loop-session : goal.decreases-loop-session
decreases-loop-session l = remaining (view_of l.session).walk
