-- What stands first in some bytes. Assumes nothing.
use Rattle.std.specs.Prelude.{◌≡◌, ℕ, cond, List, [], ◌∷◌, ◌++◌, length, take, drop, Some, None, Option, Ok, Err, Result, nat_le}
use Rattle.std.specs.Borrow.{Bor}
use Rattle.feed.specs.Bytes.{record_bytes}
use Rattle.feed.specs.Kinds.{Kind, kind_of}
use Rattle.feed.specs.declared.fault.FeedFault.{FeedFault}
use Rattle.feed.specs.declared.fault.FeedFault.TheVariants.{UnknownKind, CutShort}
use Rattle.feed.specs.declared.record.Record.{Record}

-- a reading, with the rest as the bytes that it holds
pub data Outcome : Type 0 where
  nothing : Outcome
  whole : Record → List ℕ → Outcome
  stopped : FeedFault → Outcome

abbrev pub outcome_of : Result (Option (Record × Bor (List ℕ))) FeedFault → Outcome
outcome_of (Ok None) = nothing
outcome_of (Ok (Some taken)) = whole taken.0 taken.1.now
outcome_of (Err fault) = stopped fault

-- the bytes behind a letter, as the body of its kind and the rest
abbrev pub opened : Option Kind → List ℕ → Outcome
opened None bytes = stopped UnknownKind
opened (Some k) bytes =
    cond (nat_le k.body_length (length bytes))
    (whole (k.says (take k.body_length bytes)) (drop k.body_length bytes))
    (stopped CutShort)

abbrev pub first_record : List ℕ → Outcome
first_record [] = nothing
first_record (letter ∷ bytes) = opened (kind_of letter) bytes

-- a record that was read, written again, gives the same bytes
abbrev pub WritesBack : Outcome → List ℕ → Type 0
WritesBack nothing bytes = Unit {0}
WritesBack (whole r rest) bytes = record_bytes r ++ rest ≡ bytes
WritesBack (stopped fault) bytes = Unit {0}
