-- A walk over a feed to its end. Assumes nothing.
use Rattle.std.specs.Prelude.{◌≡◌, ℕ, Some, None, Option, Ok, Err}
use Rattle.feed.specs.Walk.{Walk, next_record}
use Rattle.feed.specs.declared.fault.FeedFault.{FeedFault}
use Rattle.feed.specs.declared.record.Record.{Record}

-- the walk before, the fault that stopped it, if any, and the walk at its end: record after record is taken
pub data Walked : Walk → Option (FeedFault × ℕ) → Walk → Type 0 where
  over : {w end : Walk} → None ≡ (next_record w).found → end ≡ (next_record w).after → Walked w None end
  stopped :
      {w end : Walk} {fault : FeedFault × ℕ} → Some (Err fault) ≡ (next_record w).found → end ≡ (next_record w).after
      → Walked w (Some fault) end
  further :
      {w next end : Walk} {taken : Record × ℕ} {stop : Option (FeedFault × ℕ)}
      → Some (Ok taken) ≡ (next_record w).found → next ≡ (next_record w).after → Walked next stop end → Walked w stop end
