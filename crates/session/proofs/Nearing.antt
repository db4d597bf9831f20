-- Each step that takes something comes nearer to the end of the feed.
use Rattle.std.proofs.Common.{◌≡◌, ℕ, ◌<◌, ◌≤◌, Bool, false, cond, List}
use Rattle.std.proofs.Common.{length, drop, Ok, Err, Result, sym, refl, subst₂, arith, length-drop}
use Rattle.feed.specs.Bytes.{record_bytes}
use Rattle.feed.specs.FirstRecord.{Outcome, nothing, whole, stopped, first_record}
use Rattle.feed.specs.Walk.{Walk, left, over, taken, next_record}
use Rattle.feed.specs.declared.record.Record.{Record}
use Rattle.session.specs.Step as step
use Rattle.session.specs.Step.{View, remaining, is_full, step_answer, after_step, Nearer}
use Rattle.session.specs.declared.fault.SessionFault.{SessionFault}
use Rattle.session.specs.declared.fault.SessionFault.TheVariants.{LogFull}
use Rattle.session.specs.declared.session.Progress.{Progress}
use Rattle.session.specs.declared.session.Progress.TheVariants.{Stepped, Ended}
use Rattle.std.proofs.lemmas.Bool.Decides.{nat_tests}

-- a record has at least the letter of its kind
some_bytes : (r : Record) → 1 ≤ length (record_bytes r)
some_bytes r = grind arith

-- a letter is a record or a fault, never nothing
nothing_left : (bytes : List ℕ) → first_record bytes ≡ nothing → length bytes ≡ 0
nothing_left bytes e = grind arith

at_outcome : (w : Walk) (outcome : Outcome) → w.ended ≡ false → 1 ≤ left w → first_record (drop w.place w.feed) ≡ outcome
    → remaining (taken w outcome).after < remaining w
at_outcome w nothing runs more e = let none = nothing_left (drop w.place w.feed) e in grind (arith, length-drop)
at_outcome w (whole r rest) runs more e = let some = some_bytes r in grind arith
at_outcome w (stopped fault) runs more e = grind arith

pub nearer : (w : Walk) → over w ≡ false → remaining (next_record w).after < remaining w
nearer w on = grind (arith, nat_tests, at_outcome)

-- of what a step answers
pub step_nearer : (view : View) (answer : Result Progress SessionFault) (left : View) → answer ≡ step_answer view → left ≡ after_step view
    → Nearer answer view.walk left.walk
step_nearer view answer left is leaves =
    subst₂ (λ (a : Result Progress SessionFault) (v : View). Nearer a view.walk v.walk) (sym is) (sym leaves)
    (by_answer (over view.walk) (is_full view.log) refl)
  where
    by_answer : (ended full : Bool) → over view.walk ≡ ended
        → Nearer (cond ended (Ok Ended) (cond full (Err LogFull) (Ok Stepped))) view.walk
        (cond ended view (cond full view (step.taken (next_record view.walk) view))).walk
    by_answer false false e = nearer view.walk e
    by_answer ended full e = grind arith
