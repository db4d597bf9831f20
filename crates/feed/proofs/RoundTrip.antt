-- Bytes that begin with those of a record are that record and the rest.
use Rattle.std.proofs.Common.{◌≡◌, ℕ, List, ◌++◌, arith}
use Rattle.std.proofs.lemmas.Bool.Decides.{nat_tests}
use Rattle.feed.specs.Bytes.{record_bytes}
use Rattle.feed.specs.FirstRecord.{first_record, whole}
use Rattle.feed.specs.declared.record.Record.{Record}

pub stands_first : (r : Record) (rest bytes : List ℕ) → record_bytes r ++ rest ≡ bytes → whole r rest ≡ first_record bytes
stands_first r rest bytes parts = rw (← parts) (grind (arith, nat_tests))
