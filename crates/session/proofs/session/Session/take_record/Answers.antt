use Rattle.std.proofs.Common.{Some, None, rules}
use Rattle.session.proofs.Refusing.{tells_ok, tells_err}
use Rattle.session.proofs.session.Session.take_record.Goals as goal
use Rattle.session.specs.Records.{record_fault, answered}
use Rattle.session.specs.Views.{state_of}

pub returns-in-Ok-Some : goal.returns-in-Ok-Some
returns-in-Ok-Some c =
    let s = state_of c.args.self.now in
    let tells = tells_ok c.args.offset (record_fault c.args.record s) (answered c.args.record s) (Some c.in-Ok-Some.answered) (search rules) in
    search (rules, tells)

pub returns-in-Ok-None : goal.returns-in-Ok-None
returns-in-Ok-None c =
    let s = state_of c.args.self.now in
    let tells = tells_ok c.args.offset (record_fault c.args.record s) (answered c.args.record s) None (search rules) in
    search (rules, tells)

pub returns-in-Err : goal.returns-in-Err
returns-in-Err c =
    let s = state_of c.args.self.now in
    let tells = tells_err c.args.offset (record_fault c.args.record s) (answered c.args.record s) c.in-Err.cause c.in-Err.ensures.answers in
    search (rules, tells)
