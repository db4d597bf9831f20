use Rattle.std.proofs.Common.{◌≡◌, Some, None, rules, of_calls}
use Rattle.std.specs.Result.{result_err}
use Rattle.soundings.proofs.Finding.{finds}
use Rattle.soundings.proofs.walk.Goals as goal

pub returns-in_err-find : goal.returns-in_err-find
returns-in_err-find c =
    rw c.from_residual.ensures (finds _ (λ p x b q e. search of_calls) _ c.find.new.self _ None c.in_err-find.ensures.ran)

pub returns : goal.returns
returns c =
    let told : result_err c.in_ok-find.field-0 ≡ Some (c.in_ok-fault.fault, c.in_ok-fault.offset) = search rules in
    rw told at
    (finds _ (λ p x b q e. search of_calls) _ c.find.new.self _ (Some c.in_ok-find.field-0) c.in_ok-find.ensures.ran)
