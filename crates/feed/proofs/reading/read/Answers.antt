use Rattle.std.proofs.Common.{◌≡◌, ◌++◌, arith}
use Rattle.std.proofs.lemmas.Grind.{common_steps}
use Rattle.feed.specs.Bytes.{record_bytes}
use Rattle.feed.proofs.RoundTrip.{stands_first}
use Rattle.feed.proofs.reading.read.Goals as goal
use Rattle.feed.proofs.reading.read.Goals.{in-0-len1-up, in-1-len2-up, in-2-len3-up, in-4-len5-up, in-6-len7-up}
use Rattle.feed.proofs.reading.read.Goals.{in_default-2-via-in-0+then-bytes-lt1-2, in_default-2-via-in-1+then-this-lt2}
use Rattle.feed.proofs.reading.read.Goals.{in_default-2-via-in-2+then-this-lt3, in_default-2-via-in-4+then-this-lt5}
use Rattle.feed.proofs.reading.read.Goals.{in_default-2-via-in-6+then-this-lt7, in_default-2-via-in_default}

pub returns-clause-first : goal.returns-clause-first
returns-clause-first c =
    let taken = c.match-length.record in
    let parts : record_bytes taken.0 ++ taken.1.now ≡ c.args.bytes.now = elim c.match-length.branch [
      | in-0-len1-up w ↦ grind (arith, common_steps)
      | in-1-len2-up w ↦ grind (arith, common_steps)
      | in-2-len3-up w ↦ grind (arith, common_steps)
      | in-4-len5-up w ↦ grind (arith, common_steps)
      | in-6-len7-up w ↦ grind (arith, common_steps)
    ] in
    stands_first taken.0 taken.1.now c.args.bytes.now parts

pub returns-in_default-2-clause-first : goal.returns-in_default-2-clause-first
returns-in_default-2-clause-first c = elim c.in_default-2.branch [
  | in_default-2-via-in-0+then-bytes-lt1-2 w ↦ grind (arith, common_steps)
  | in_default-2-via-in-1+then-this-lt2 w ↦ grind (arith, common_steps)
  | in_default-2-via-in-2+then-this-lt3 w ↦ grind (arith, common_steps)
  | in_default-2-via-in-4+then-this-lt5 w ↦ grind (arith, common_steps)
  | in_default-2-via-in-6+then-this-lt7 w ↦ grind (arith, common_steps)
  | in_default-2-via-in_default w ↦ grind (arith, common_steps)
]
