-- A walk over a feed, record by record. Assumes nothing.
use Rattle.std.specs.Prelude.{◌≡◌, ℕ, ◌+◌, ◌-◌, ◌<◌, Bool, true, false, cond, ◌||◌, List, length, drop, ◌==◌, nat_lt}
use Rattle.std.specs.Prelude.{Some, None, Option, Ok, Err, Result}
use Rattle.feed.specs.Bytes.{record_bytes}
use Rattle.feed.specs.FirstRecord.{Outcome, nothing, whole, stopped, first_record}
use Rattle.feed.specs.declared.fault.FeedFault.{FeedFault}
use Rattle.feed.specs.declared.fault.FeedFault.TheVariants.{TooLong}
use Rattle.feed.specs.declared.reader.Reader.{Reader}
use Rattle.feed.specs.declared.record.Record.{Record}

-- the bytes, the place of the next record, how many whole ones were read, and whether the feed has ended
pub record Walk : Type 0 where
  pub feed : List ℕ
  pub place : ℕ
  pub whole : ℕ
  pub ended : Bool

abbrev pub walk_of : Reader → Walk
walk_of r = record { feed = r.feed.now; place = r.place; whole = r.whole; ended = r.ended }

abbrev pub begun : List ℕ → Walk
begun bytes = record { feed = bytes; place = 0; whole = 0; ended = false }

abbrev pub behind : Walk → ℕ → Walk
behind w size = record { feed = w.feed; place = w.place + size; whole = w.whole + 1; ended = w.ended }

abbrev pub halted : Walk → Walk
halted w = record { feed = w.feed; place = w.place; whole = w.whole; ended = true }

-- how many bytes are not read yet
abbrev pub left : Walk → ℕ
left w = length w.feed - w.place

-- whether nothing more is to come: the feed has ended, or its last byte is read
abbrev pub over : Walk → Bool
over w = w.ended || left w == 0

-- what a reader answers: a record or a fault, each with the offset of its first byte, or none where the feed has ended;
-- the code's `Found` is the one of the first two, and it answers an Option of that
abbrev pub Found : Type 0
Found = Option (Result (Record × ℕ) (FeedFault × ℕ))

-- an answer, and the walk after it
pub record Step : Type 0 where
  pub found : Found
  pub after : Walk

-- what stands at the place, and what it makes of the walk
abbrev pub taken : Walk → Outcome → Step
taken w nothing = record { found = None; after = w }
taken w (whole r rest) = record { found = Some (Ok (r, w.place)); after = behind w (length (record_bytes r)) }
taken w (stopped fault) = record { found = Some (Err (fault, w.place)); after = halted w }

abbrev pub at_place : Walk → Step
at_place w = taken w (first_record (drop w.place w.feed))

-- a feed of more than 65,535 bytes is told of in place of its first record
abbrev pub next_record : Walk → Step
next_record w =
    cond w.ended (record { found = None; after = w })
    (cond (nat_lt 65535 (length w.feed)) (record { found = Some (Err (TooLong, 65535)); after = halted w }) (at_place w))

-- fewer bytes are left after a record
abbrev pub Nearer : Found → Walk → Walk → Type 0
Nearer (Some (Ok taken)) before after = left after < left before
Nearer (Some (Err stop)) before after = Unit {0}
Nearer None before after = Unit {0}

-- an answer and the walk after it are the next ones, and after a record fewer bytes are left
abbrev pub Takes : Walk → Found → Walk → Type 0
Takes before found after =
    (found ≡ (next_record before).found) × (after ≡ (next_record before).after) × Nearer found before after

-- no more records and faults than this can still be answered
abbrev pub most_left : Walk → ℕ
most_left w = cond w.ended 0 (left w + 1)
