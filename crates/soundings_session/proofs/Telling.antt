-- The text that is made step by step is the text of the session.
use Rattle.std.proofs.Common.{◌≡◌, ℕ, ◌≤◌, Bool, false, cond, List, [], ◌++◌, length, Ok, Option, sym, refl, ap, ◌∙◌, subst, arith}
use Rattle.feed.specs.Walk.{over, next_record}
use Rattle.report.specs.Lines.{end_line_lem}
use Rattle.run.specs.Calls.{Call}
use Rattle.run.specs.History.{LeadTo, begins}
use Rattle.run.specs.declared.pair.Pair.{Pair}
use Rattle.session.specs.Histories.{calls_after, StepFaithful}
use Rattle.session.specs.Law.{Row, items}
use Rattle.session.specs.Step.{View, at_start, is_full, logged, taken, told_found, step_answer, after_step, with_log_emptied}
use Rattle.session.specs.declared.entry.Entry.{Entry}
use Rattle.session.specs.declared.session.Progress.TheVariants.{Stepped, Ended}
use Rattle.soundings_session.specs.Transcript.{lines_of, ledger_in, Tells, ends, steps}
use Rattle.std.proofs.lemmas.List.{append_assoc, length-set}
use Rattle.units.specs.declared.Weight.{Weight}

-- what is told so far, with the calls that lead to here: whatever is told from here on is then told from the beginning
pub record Telling (first view : View) (text : List ℕ) : Type 0 where
  pub calls : List Call
  pub leads : LeadTo calls view.state.held
  pub on : (later : List ℕ) → Tells view calls later → Tells first [] (text ++ later)
  pub empty : view.log.filled ≡ 0
  pub slots : 1 ≤ length view.log.slots

length-logged : (log : Row Entry) (told : Option Entry) → length (logged log told).slots ≡ length log.slots
length-logged log told = grind (arith, length-set)

as_many_slots : (view : View) → length (after_step view).log.slots ≡ length view.log.slots
as_many_slots view = either (over view.walk) (is_full view.log)
  where
    either : (ended full : Bool)
        → length (cond ended view (cond full view (taken (next_record view.walk) view))).log.slots ≡ length view.log.slots
    either false false = length-logged view.log (told_found (next_record view.walk).found view.state)
    either ended full = grind arith

module _ (first view : View) (text : List ℕ) (so_far : Telling first view text) where
  pub telling_more :
      (left emptied : View) (longer : List ℕ) → Ok Stepped ≡ step_answer view → left ≡ after_step view → emptied ≡ with_log_emptied left
      → ((calls : List Call) → LeadTo calls view.state.held → LeadTo (calls_after view calls) left.state.held)
      → ((calls : List Call) → LeadTo calls view.state.held → StepFaithful (ledger_in view calls) view)
      → longer ≡ text ++ lines_of (items left.log) → Telling first emptied longer
  telling_more left emptied longer stepped leaves empties leads faithful adds =
      let calls = so_far.calls in
      let next : View = with_log_emptied (after_step view) in
      let same : emptied ≡ next = empties ∙ ap with_log_emptied leaves in
      let lines : longer ≡ text ++ lines_of (items (after_step view).log) = adds ∙ ap (λ (v : View). text ++ lines_of (items v.log)) leaves in
      let led : LeadTo (calls_after view calls) (after_step view).state.held =
      subst (λ (v : View). LeadTo (calls_after view calls) v.state.held) leaves (leads calls so_far.leads) in
      let further : (later : List ℕ) → Tells next (calls_after view calls) later
      → Tells first [] ((text ++ lines_of (items (after_step view).log)) ++ later) =
      λ later tells. subst (Tells first []) (sym (append_assoc text (lines_of (items (after_step view).log)) later))
      (so_far.on (lines_of (items (after_step view).log) ++ later) (steps (sym stepped) (faithful calls so_far.leads) tells)) in
      let there : Telling first next (text ++ lines_of (items (after_step view).log)) = record {
        calls = calls_after view calls;
        leads = led;
        on = further;
        empty = refl;
        slots = subst (λ n. 1 ≤ n) (sym (as_many_slots view)) so_far.slots;
      } in
      subst (λ (v : View). Telling first v longer) (sym same) (subst (λ t. Telling first next t) (sym lines) there)

  pub telling_last : (end whole : List ℕ) → Ok Ended ≡ step_answer view → whole ≡ text ++ end
      → end ≡ end_line_lem view.walk.whole → Tells first [] whole
  telling_last end whole ended adds is =
      subst (Tells first []) (sym (adds ∙ ap (λ l. text ++ l) is)) (so_far.on _ (ends (sym ended)))

-- a session at its beginning
pub start_fresh : (view : View) (feed : List ℕ) (weights : List Weight) (board spare : List Pair) (log : List Entry)
    → view ≡ at_start feed weights board spare log → LeadTo [] view.state.held
start_fresh view feed weights board spare log begun = subst (λ (v : View). LeadTo [] v.state.held) (sym begun) (begins board spare)
