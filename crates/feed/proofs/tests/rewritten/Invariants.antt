use Rattle.feed.specs.Walk.{walk_of, left}
use Rattle.feed.proofs.tests.rewritten.Given as goal

abbrev pub decreases-loop-record : goal.decreases-loop-record
decreases-loop-record g l = left (walk_of l.reader)
