use Rattle.session.specs.Views.{view_of}
use Rattle.soundings_session.proofs.Telling.{start_fresh}
use Rattle.soundings_session.proofs.transcript.Goals as goal
use Rattle.soundings_session.specs.Transcript.{Tells}
use Rattle.std.proofs.Common.{[], string_bytes, subst, rules}
use Rattle.std.proofs.lemmas.Result.{IfOk-weaker}

pub tell-requires-clause-fresh : goal.tell-requires-clause-fresh
tell-requires-clause-fresh c = start_fresh (view_of c.new-session.result) _ _ _ _ _ c.new-session.ensures.view

pub returns : goal.returns
returns c =
    IfOk-weaker c.tell.result _ _
    (λ text tells. record {
      weights = c.as_mut_slice.result.now;
      board = c.as_mut_slice-2.result.now;
      spare = c.as_mut_slice-3.result.now;
      log = _;
      slots = search rules;
      pairs = search rules;
      spares = search rules;
      entries = search rules;
      tells = subst (λ view. Tells view [] (string_bytes text)) c.new-session.ensures.view tells;
    })
    c.tell.ensures
