-- Histories: what is held follows the ledger of the calls, so that every answer to ask is faithful to it.
use Rattle.std.proofs.Common.{◌≡◌, ℕ, ◌+◌, ◌*◌, ◌^◌, ◌<◌, ◌≤◌, Bool, true, false, cond, not, ◌&&◌, ◌||◌, eqb, ltb, leb, List, [], ◌∷◌, ◌++◌, length}
use Rattle.std.proofs.Common.{get_or, take, drop, replicate, is_some, Some, None, Ok, Err, Option, Result, sym, refl, ap, ◌∙◌, subst, ap₂, subst₂, arith, length-append, length-drop}
use lib.ListN.{length-replicate}
use mathlib.Core.Path.{subst⁻¹}
use Rattle.run.proofs.Paths.{known_le, known-stays, length-row_after, row_same, written}
use Rattle.run.proofs.Recursion.{AllMeaningful, lower_with, upper_with}
use Rattle.run.specs.Advance.{nil, row_after}
use Rattle.run.specs.Calls.{Kept, Held, Call, opens, advances, asks, fresh, after, too_short}
use Rattle.run.specs.Calls.{open_fault, opened, advance_fault, advanced, ask_answer}
use Rattle.run.specs.Exact.{exact_value, stays_on}
use Rattle.run.specs.History.{Proper, LeadTo, begins, then, Ledger, blank, holds, addable, noted, ledger_of}
use Rattle.run.specs.History.{known_with, row_with, dropped_by, ledger_pair, ledger_answer, Encloses, PairEncloses, Faithful}
use Rattle.run.specs.Period.{Period, Meaningful, dropped}
use Rattle.run.specs.declared.answer.Answer.{Answer}
use Rattle.run.specs.declared.fault.RunFault.{RunFault}
use Rattle.run.specs.declared.fault.RunFault.TheVariants.{ListShort, AllowanceRange}
use Rattle.run.specs.declared.fault.RunFault.TheVariants.{NoneKnown, LevelUnknown, PeriodsFull}
use Rattle.run.specs.declared.pair.Pair.{Pair}
use Rattle.std.proofs.lemmas.List.{get_or-take, length-take-le, take_at}
use Rattle.std.proofs.lemmas.List.Sums.{sum_by-cons}
use Rattle.std.proofs.lemmas.Bool.{true≢false, false≢true, not-false, and_parts, or_parts, or_from, ltb-true, ltb-false, le-ltb}
use Rattle.std.proofs.lemmas.Bool.Decides.{nat_tests}
use Rattle.units.specs.Checks.{first_failing, outside, answer_unless, left_unless}
use Rattle.units.specs.One.{one}

-- that the recursion's bounds enclose the exact value, no wider than the count and the dropped total
pub record Enclosing : Type 0 where
  pub lower : (periods : List Period) → AllMeaningful periods → (u : ℕ)
      → lower_with periods u * one ^ length periods ≤ exact_value periods u
  pub upper : (periods : List Period) → AllMeaningful periods → (u : ℕ)
      → exact_value periods u ≤ upper_with periods u * one ^ length periods
  pub width : (periods : List Period) → AllMeaningful periods → (u : ℕ)
      → upper_with periods u ≤ lower_with periods u + (length periods + dropped_by periods)

-- Lengths

-- a list whose front is written over stays as long as it was
length_over : (n : ℕ) (front old : List Pair) → length front ≡ n → n ≤ length old
    → length (front ++ drop n old) ≡ length old
length_over n front old long room = simp (length-append, length-drop) (omega arith)

-- a board and a spare that are as long as those of another
abbrev pub AsLong : Held → Held → Type 0
AsLong held other = (length held.board ≡ length other.board) × (length held.spare ≡ length other.spare)

abbrev Room : ℕ → Held → Type 0
Room long held = (long ≤ length held.board) × (long ≤ length held.spare)

room-from : (long : ℕ) (held : Held) → too_short long held ≡ false → Room long held
room-from long held e =
    let parts = or_parts (ltb (length held.board) long) (ltb (length held.spare) long) e in
    (ltb-false (length held.board) long parts.0, ltb-false (length held.spare) long parts.1)

room-tells : (long : ℕ) (held : Held) → Room long held → too_short long held ≡ false
room-tells long held room =
    or_from (ltb (length held.board) long) (ltb (length held.spare) long)
    (le-ltb (length held.board) long room.0) (le-ltb (length held.spare) long room.1)

opened_as_long : (long : ℕ) (held : Held) → Room long held → AsLong (opened long held) held
opened_as_long long held room =
    (length_over long (replicate long nil) held.board (length-replicate long nil) room.0, refl)

advanced_as_long : (period : Period) (held : Held) → Room held.run.long held → AsLong (advanced period held) held
advanced_as_long period held room =
    let long = held.run.long in (
      length_over long (row_after long held.run.known period held.board) held.board
          (length-row_after long held.run.known period held.board) room.0,
      length_over long (take long held.board) held.spare (length-take-le long held.board room.0) room.1,
    )

-- checks that find no fault have passed the second of them, which both calls ask of the lengths
second_passed : {F : Type 0} (first second : Bool) (f g : F) (later : Option F)
    → cond first (Some f) (cond second (Some g) later) ≡ None → second ≡ false
second_passed first second f g later e = grind arith

left-either : {F A : Type 0} (P : A → Type 0) (fault : Option F) (next before : A) → (fault ≡ None → P next) → P before
    → P (left_unless fault next before)
left-either P None next before h k = h refl
left-either P (Some fault) next before h k = k

pub lengths_stay : (call : Call) (held : Held) → AsLong (after call held) held
lengths_stay (opens long) held =
    left-either (λ left. AsLong left held) (open_fault long held) (opened long held) held
    (λ e. opened_as_long long held (room-from long held (second_passed _ _ _ _ _ e))) (refl, refl)
lengths_stay (advances period) held =
    left-either (λ left. AsLong left held) (advance_fault period held) (advanced period held) held
    (λ e. advanced_as_long period held (room-from held.run.long held (second_passed _ _ _ _ _ e))) (refl, refl)
lengths_stay (asks level) held = (refl, refl)

-- The invariant

-- what a run keeps by the ledger
abbrev pub kept_by : Ledger → Kept
kept_by blank = fresh
kept_by (holds long periods) = record {
  is_open = true;
  long = long;
  known = known_with long periods;
  periods = length periods;
  total = dropped_by periods;
}

-- what a length and periods of the ledger say of the board and the spare
pub record Stands (long : ℕ) (periods : List Period) (board spare : List Pair) : Type 0 where
  pub least : 2 ≤ long
  pub most : long ≤ 8192
  pub room : (long ≤ length board) × (long ≤ length spare)
  pub few : length periods ≤ 4095
  pub meaningful : AllMeaningful periods
  pub row : take long board ≡ row_with long periods

abbrev pub Standing : Ledger → List Pair → List Pair → Type 0
Standing blank board spare = Unit {0}
Standing (holds long periods) board spare = Stands long periods board spare

pub record Follows (ledger : Ledger) (held : Held) : Type 0 where
  pub run : held.run ≡ kept_by ledger
  pub standing : Standing ledger held.board held.spare

-- what holds of a run that is as the ledger has it
by-kept : (P : Held → Type 0) (ledger : Ledger) (held : Held) → Follows ledger held
    → P (record { run = kept_by ledger; board = held.board; spare = held.spare }) → P held
by-kept P ledger held follows h =
    subst⁻¹ (λ run. P (record { run = run; board = held.board; spare = held.spare })) follows.run h

-- a known level of the board is the row's
known_at : (long : ℕ) (periods : List Period) (board spare : List Pair) → Stands long periods board spare → (u : ℕ)
    → u < known_with long periods → get_or board u nil ≡ ledger_pair long periods u
known_at long periods board spare stands u known =
    let on : u < long = omega (arith, known_le long periods) in
    sym (get_or-take long board u nil on) ∙ ap (λ row. get_or row u nil) stands.row

-- a call that is refused leaves what is held and the ledger, and any other leads on from both
either_follows : {F : Type 0} (fault : Option F) (refused : Bool) (ledger next : Ledger) (held later : Held)
    → is_some fault ≡ refused → Follows ledger held → (refused ≡ false → Follows next later)
    → Follows (cond refused ledger next) (left_unless fault later held)
either_follows None true ledger next held later e old new = absurd (false≢true e)
either_follows None false ledger next held later e old new = new refl
either_follows (Some fault) true ledger next held later e old new = old
either_follows (Some fault) false ledger next held later e old new = absurd (true≢false e)

module _ (long : ℕ) (held : Held) where
  open_refused : is_some (open_fault long held) ≡ (outside 2 8192 long || too_short long held)
  open_refused = grind (arith, nat_tests)

  opened_follows : (outside 2 8192 long || too_short long held) ≡ false → Follows (holds long []) (opened long held)
  opened_follows e =
      let parts = or_parts (outside 2 8192 long) (too_short long held) e in
      let range = or_parts (ltb long 2) (ltb 8192 long) parts.0 in
      let room = room-from long held parts.1 in
      let same = opened_as_long long held room in
      record {
        run = refl;
        standing = record {
          least = ltb-false long 2 range.0;
          most = ltb-false 8192 long range.1;
          room = omega arith;
          few = omega arith;
          meaningful = tt;
          row = take_at (replicate long nil) (drop long held.board) long (length-replicate long nil);
        };
      }

  open_follows : (ledger : Ledger) → Follows ledger held
      → Follows (noted (length held.board) (length held.spare) (opens long) ledger) (after (opens long) held)
  open_follows ledger follows =
      either_follows (open_fault long held) (outside 2 8192 long || too_short long held) ledger (holds long [])
      held (opened long held) open_refused follows opened_follows

cond-not : (t : Bool) (x y : Ledger) → cond (not t) x y ≡ cond t y x
cond-not t x y = grind arith

-- the checks of an advance on an open run, by numbers
refused_by_numbers : (periods allowance known : ℕ) (short stays : Bool) → short ≡ false → ltb 0 known ≡ stays
    → is_some (first_failing
    ((short, ListShort)
    ∷ ((leb 4095 periods, PeriodsFull)
    ∷ ((ltb (2 ^ 20) allowance, AllowanceRange) ∷ ((eqb known 0, NoneKnown) ∷ [])))))
    ≡ not (leb allowance (2 ^ 20) && (ltb periods 4095 && stays))
refused_by_numbers periods allowance known short stays e f = grind (arith, nat_tests)

abbrev held_as : ℕ → List Period → List Pair → List Pair → Held
held_as long periods board spare = record { run = kept_by (holds long periods); board = board; spare = spare }

module _ (period : Period) (meaningful : Meaningful period)
    (long : ℕ) (periods : List Period) (board spare : List Pair) where
  abbrev before : Held
  before = held_as long periods board spare

  advance_refused : Stands long periods board spare
      → is_some (advance_fault period before) ≡ not (addable long period periods)
  advance_refused stands =
      refused_by_numbers (length periods) period.allowance (known_with long (period ∷ periods)) (too_short long before)
      (stays_on long (period ∷ periods) 0) (room-tells long before stands.room)
      (known-stays long stands.most (period ∷ periods) (meaningful, stands.meaningful) 0)

  kept_more : (advanced period before).run ≡ kept_by (holds long (period ∷ periods))
  kept_more =
      let kept : ℕ → ℕ → Kept = λ count total. record {
        is_open = true;
        long = long;
        known = known_with long (period ∷ periods);
        periods = count;
        total = total;
      } in
      ap₂ kept (omega arith) (omega (arith, sum_by-cons dropped period periods))

  row_more : Stands long periods board spare → take long (advanced period before).board ≡ row_with long (period ∷ periods)
  row_more stands =
      let known = known_with long periods in
      take_at (row_after long known period board) (drop long board) long (length-row_after long known period board)
      ∙ row_same meaningful stands.most known board (row_with long periods) (known_at long periods board spare stands)

  advanced_follows : Stands long periods board spare → not (addable long period periods) ≡ false
      → Follows (holds long (period ∷ periods)) (advanced period before)
  advanced_follows stands e =
      let stays = stays_on long (period ∷ periods) 0 in
      let added = not-false (addable long period periods) e in
      let parts = and_parts (leb period.allowance (2 ^ 20)) (ltb (length periods) 4095 && stays) added in
      let count = (and_parts (ltb (length periods) 4095) stays parts.1).0 in
      let same = advanced_as_long period before stands.room in
      record {
        run = kept_more;
        standing = record {
          least = stands.least;
          most = stands.most;
          room = omega arith;
          few = ltb-true (length periods) 4095 count;
          meaningful = (meaningful, stands.meaningful);
          row = row_more stands;
        };
      }

  advance_follows : Stands long periods board spare
      → Follows (noted (length board) (length spare) (advances period) (holds long periods))
      (after (advances period) before)
  advance_follows stands =
      subst (λ ledger. Follows ledger (after (advances period) before))
      (cond-not (addable long period periods) (holds long periods) (holds long (period ∷ periods)))
      (either_follows (advance_fault period before) (not (addable long period periods)) (holds long periods)
      (holds long (period ∷ periods)) before (advanced period before) (advance_refused stands)
      (record { run = refl; standing = stands }) (advanced_follows stands))

pub call_follows : (call : Call) → Proper call → (ledger : Ledger) (held : Held) → Follows ledger held
    → Follows (noted (length held.board) (length held.spare) call ledger) (after call held)
call_follows (opens long) proper ledger held follows = open_follows long held ledger follows
call_follows (advances period) proper blank held follows =
    by-kept (λ h. Follows blank (after (advances period) h)) blank held follows (record { run = refl; standing = tt })
call_follows (advances period) proper (holds long periods) held follows =
    by-kept (λ h. Follows (noted (length h.board) (length h.spare) (advances period) (holds long periods))
    (after (advances period) h))
    (holds long periods) held follows
    (advance_follows period proper long periods held.board held.spare follows.standing)
call_follows (asks level) proper ledger held follows = follows

pub history_follows : {calls : List Call} {held : Held} → LeadTo calls held
    → Follows (ledger_of (length held.board) (length held.spare) calls) held
history_follows (begins board spare) = record { run = refl; standing = tt }
history_follows (then {calls} {held} call proper history) =
    let stay = lengths_stay call held in
    subst₂ (λ b s. Follows (ledger_of b s (call ∷ calls)) (after call held)) (sym stay.0) (sym stay.1)
    (call_follows call proper (ledger_of (length held.board) (length held.spare) calls) held
    (history_follows history))

-- Answers

-- an ask on an open run with room is refused unless the path from its level stays
answered : (short past stays : Bool) (answer other : Answer) → short ≡ false → past ≡ not stays
    → (stays ≡ true → answer ≡ other)
    → answer_unless (cond short (Some ListShort) (cond past (Some LevelUnknown) None)) answer
    ≡ cond stays (Ok other) (Err LevelUnknown)
answered short past true answer other e f same = rw (e, f) (ap Ok (same refl))
answered short past false answer other e f same = rw (e, f)

-- the ledger's answer is bounded if its pair encloses wherever the path from its level stays
bounded-by : (long : ℕ) (periods : List Period) (level : ℕ) (stays : Bool) (answer : Answer)
    → (stays ≡ true → Encloses periods level answer.pair)
    → PairEncloses (holds long periods) level (cond stays (Ok answer) (Err LevelUnknown))
bounded-by long periods level true answer encloses = encloses refl
bounded-by long periods level false answer encloses = tt

module _ (level long : ℕ) (periods : List Period) (board spare : List Pair)
    (stands : Stands long periods board spare) where
  known-by_path : ltb level (known_with long periods) ≡ stays_on long periods level
  known-by_path = known-stays long stands.most periods stands.meaningful level

  past_unless_stays : leb (known_with long periods) level ≡ not (stays_on long periods level)
  past_unless_stays = let known = known-by_path in grind (arith, nat_tests)

  known_if_stays : stays_on long periods level ≡ true → level < known_with long periods
  known_if_stays stays = ltb-true level (known_with long periods) (known-by_path ∙ stays)

  ask_same : ask_answer level (held_as long periods board spare) ≡ ledger_answer (holds long periods) level
  ask_same =
      let answer : Pair → Answer = λ pair. record {
        pair = pair;
        periods = record { 0 = length periods };
        dropped = record { 0 = dropped_by periods };
      } in
      answered (too_short long (held_as long periods board spare)) (leb (known_with long periods) level)
      (stays_on long periods level) (answer (get_or board level nil)) (answer (ledger_pair long periods level))
      (room-tells long (held_as long periods board spare) stands.room) past_unless_stays
      (λ stays. ap answer (known_at long periods board spare stands level (known_if_stays stays)))

  row_encloses : Enclosing → stays_on long periods level ≡ true → Encloses periods level (ledger_pair long periods level)
  row_encloses enclosing stays =
      subst⁻¹ (Encloses periods level)
      (written long stands.most periods stands.meaningful level (known_if_stays stays))
      (record {
        lower = enclosing.lower periods stands.meaningful level;
        upper = enclosing.upper periods stands.meaningful level;
        width = enclosing.width periods stands.meaningful level;
      })

  ledger_bounded : Enclosing → PairEncloses (holds long periods) level (ledger_answer (holds long periods) level)
  ledger_bounded enclosing = bounded-by long periods level (stays_on long periods level) _ (row_encloses enclosing)

faithful_from : (ledger : Ledger) (level : ℕ) (answer : Result Answer RunFault) → answer ≡ ledger_answer ledger level
    → PairEncloses ledger level (ledger_answer ledger level) → Faithful ledger level answer
faithful_from ledger level answer same bounded =
    record { same = same; bounded = subst⁻¹ (PairEncloses ledger level) same bounded }

held_faithful : Enclosing → (ledger : Ledger) (held : Held) → Follows ledger held → (level : ℕ)
    → Faithful ledger level (ask_answer level held)
held_faithful enclosing blank held follows level =
    by-kept (λ h. Faithful blank level (ask_answer level h)) blank held follows (record { same = refl; bounded = tt })
held_faithful enclosing (holds long periods) held follows level =
    by-kept (λ h. Faithful (holds long periods) level (ask_answer level h)) (holds long periods) held follows
    (faithful_from (holds long periods) level _
    (ask_same level long periods held.board held.spare follows.standing)
    (ledger_bounded level long periods held.board held.spare follows.standing enclosing))

pub ask_faithful : Enclosing → (calls : List Call) (held : Held) → LeadTo calls held → (level : ℕ)
    → Faithful (ledger_of (length held.board) (length held.spare) calls) level (ask_answer level held)
ask_faithful enclosing calls held history level =
    held_faithful enclosing (ledger_of (length held.board) (length held.spare) calls) held
    (history_follows history) level
