use Rattle.std.proofs.Common.{◌≡◌, ◌++◌, take, string_bytes}
use Rattle.soundings_session.proofs.add_lines.Given as goal
use Rattle.soundings_session.specs.Transcript.{lines_of}

abbrev pub invariant-loop-entry : goal.invariant-loop-entry
invariant-loop-entry l = string_bytes l.text ≡ string_bytes l.initial.text ++ lines_of (take l.entry-index l.entries)
