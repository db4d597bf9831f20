-- Bytes written to the front of a buffer. Assumes nothing.
use Rattle.std.specs.Prelude.{ℕ, Bool, cond, List, ◌++◌, length, drop, Ok, Err, Result, nat_le}
use Rattle.feed.specs.declared.fault.FeedFault.{FeedFault}
use Rattle.feed.specs.declared.fault.FeedFault.TheVariants.{BufferShort}

abbrev fits : List ℕ → List ℕ → Bool
fits bytes buffer = nat_le (length bytes) (length buffer)

-- how many bytes were written
abbrev pub written_count : List ℕ → List ℕ → Result ℕ FeedFault
written_count bytes buffer = cond (fits bytes buffer) (Ok (length bytes)) (Err BufferShort)

-- the bytes, then what stood behind them before
abbrev pub buffer_after : List ℕ → List ℕ → List ℕ
buffer_after bytes buffer = cond (fits bytes buffer) (bytes ++ drop (length bytes) buffer) buffer
