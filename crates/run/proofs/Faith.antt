-- The main theorem: what ask answers is faithful to the ledger of every history that leads to what it finds.
use Rattle.std.proofs.Common.{◌≡◌, ℕ, List, [], ◌∷◌, length, IfOk, Ok, Err, Result, sym, ap, ◌∙◌, subst}
use Rattle.run.proofs.Bounds.{encloses_lower, encloses_upper, no_wider}
use Rattle.run.proofs.Histories.{ask_faithful}
use Rattle.run.specs.Calls.{Kept, Held, Call, opens, advances, fresh, fresh_on, after, open_answer, advance_answer, ask_answer, one_answer}
use Rattle.run.specs.History.{Ledger, Proper, LeadTo, begins, then, Faithful, ledger_of}
use Rattle.run.specs.Period.{Period}
use Rattle.run.specs.declared.answer.Answer.{Answer}
use Rattle.run.specs.declared.fault.RunFault.{RunFault}
use Rattle.run.specs.declared.pair.Pair.{Pair}
use Rattle.std.specs.Result.{result_and}

pub answer_faithful :
    (held : Held) (level : ℕ) (answer : Result Answer RunFault) → answer ≡ ask_answer level held
    → (calls : List Call) → LeadTo calls held
    → Faithful (ledger_of (length held.board) (length held.spare) calls) level answer
answer_faithful held level answer is calls leads =
    subst (Faithful (ledger_of (length held.board) (length held.spare) calls) level) (sym is)
    (ask_faithful (record { lower = encloses_lower; upper = encloses_upper; width = no_wider }) calls held leads level)

-- a history goes on with what a call leaves
pub led_on :
    {calls : List Call} {held : Held} (call : Call) (left : Held) → Proper call → LeadTo calls held → left ≡ after call held
    → LeadTo (call ∷ calls) left
led_on {calls} call left proper leads is = subst (LeadTo (call ∷ calls)) (sym is) (then call proper leads)

-- and begins with a fresh run, whatever its lists hold
pub fresh-held :
    (run : Kept) (board spare : List Pair) → run ≡ fresh
    → ◌≡◌ {A = Held} (record { run = run; board = board; spare = spare }) (fresh_on board spare)
fresh-held run board spare is = ap {B = Held} (λ kept. record { run = kept; board = board; spare = spare }) is

pub led_first :
    (run : Kept) (board spare : List Pair) → run ≡ fresh → LeadTo [] (record { run = run; board = board; spare = spare })
led_first run board spare is = subst (LeadTo []) (sym (fresh-held run board spare is)) (begins board spare)

-- what is faithful at the lengths and the level that ask was handed is so at those that they equal
pub same_lengths :
    (calls : List Call) (b c s t asked level : ℕ) (answer : Result Answer RunFault)
    → Faithful (ledger_of b s calls) asked answer → b ≡ c → s ≡ t → asked ≡ level
    → Faithful (ledger_of c t calls) level answer
same_lengths calls b c s t asked level answer faithful boards spares levels =
    subst (λ n. Faithful (ledger_of n t calls) level answer) boards
    (subst (λ n. Faithful (ledger_of b n calls) level answer) spares
    (subst (λ n. Faithful (ledger_of b s calls) n answer) levels faithful))

-- open, advance and ask one after the other, each on what the one before it left
module _ (long level : ℕ) (period : Period) (first held opened left : Held) (begun : held ≡ first)
    (opens-to : opened ≡ after (opens long) held) (advances-to : left ≡ after (advances period) opened)
    (taken : open_answer long held ≡ Ok tt) where
  pub left_is : left ≡ after (advances period) (after (opens long) first)
  left_is = advances-to ∙ ap (after (advances period)) (opens-to ∙ ap (after (opens long)) begun)

  advance_is : advance_answer period opened ≡ advance_answer period (after (opens long) first)
  advance_is = ap (advance_answer period) (opens-to ∙ ap (after (opens long)) begun)

  open_is : open_answer long first ≡ Ok tt
  open_is = sym (ap (open_answer long) begun) ∙ taken

  pub one-answered :
      (answer : Result Answer RunFault) → advance_answer period opened ≡ Ok tt → answer ≡ ask_answer level left
      → answer ≡ one_answer long period level first
  one-answered answer added is =
      let last = ask_answer level (after (advances period) (after (opens long) first)) in
      is
      ∙ (ap (ask_answer level) left_is
      ∙ sym (ap (λ r. result_and r (result_and (advance_answer period (after (opens long) first)) last)) open_is
      ∙ ap (λ r. result_and r last) (sym advance_is ∙ added)))

pub made_faithful :
    (ledger : Ledger) (level : ℕ) (answer : Result Answer RunFault) → Faithful ledger level answer
    → IfOk answer (λ told. Faithful ledger level (Ok told))
made_faithful ledger level (Ok told) faithful = faithful
made_faithful ledger level (Err fault) faithful = tt
