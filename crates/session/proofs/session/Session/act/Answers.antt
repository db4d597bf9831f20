use Rattle.std.proofs.Common.{rules}
use Rattle.session.proofs.session.Session.act.Goals as goal

pub returns-in_err-add_period_from-in-Advance-WholeLaw : goal.returns-in_err-add_period_from-in-Advance-WholeLaw
returns-in_err-add_period_from-in-Advance-WholeLaw c =
    record { answers = search rules; leaves = search rules; walk = search rules; log = search rules; lists = search rules }
