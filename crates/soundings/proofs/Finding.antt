-- A search for the first fault takes record after record.
use Rattle.std.proofs.Common.{◌≡◌, ℕ, List, [], ◌∷◌, Bool, true, false, Option, Some, None, Result, Ok, Err, is_err, sym, subst}
use Rattle.std.specs.Fn.{CalledAt, Mut}
use Rattle.std.specs.Borrow.{Bor}
use Rattle.std.specs.Iterator.{Yields, FindsItem}
use Rattle.std.specs.List.{FoldsTo}
use Rattle.std.specs.Option.{option_and_then}
use Rattle.std.specs.Result.{result_err}
use Rattle.feed.specs.Walk.{Walk, Found, Takes, walk_of}
use Rattle.feed.specs.declared.fault.FeedFault.{FeedFault}
use Rattle.feed.specs.declared.reader.Reader.{Reader}
use Rattle.feed.specs.declared.record.Record.{Record}
use Rattle.soundings.specs.Walked.{Walked, over, stopped, further}

abbrev Item : Type 0
Item = Result (Record × ℕ) (FeedFault × ℕ)

abbrev steps : Reader → Found → Reader → Type 0
steps s found t = Takes (walk_of s) found (walk_of t)

module _ {F : Type 0} (g : Mut F (Bor Item × Unit {0}) Bool)
    (asks : (p : F) (x : Item) (b : Bool) (q : F) → CalledAt g p x b q → b ≡ is_err x) where
  on_from : (xs : List Item) (s t : Reader) (f h : F) (stop : Option (FeedFault × ℕ)) (end : Walk) → Yields steps s xs t
      → FoldsTo (λ p x q. CalledAt g p x false q) f xs h → Walked (walk_of t) stop end → Walked (walk_of s) stop end
  on_from [] s t f h stop end led asked on = subst (λ (r : Reader). Walked (walk_of r) stop end) (sym led) on
  on_from (Ok taken ∷ xs) s t f h stop end led asked on =
      further led.1.0 led.1.1 (on_from xs led.0 t asked.0 h stop end led.2 asked.2 on)
  on_from (Err fault ∷ xs) s t f h stop end led asked on = cc (asks f (Err fault) false asked.0 asked.1)

  pub finds : (s u : Reader) (f : F) (r : Found) → FindsItem steps g s f r u → Walked (walk_of s) (option_and_then result_err r) (walk_of u)
  finds s u f None ran = on_from ran.0 s ran.2.0 f ran.1 None (walk_of u) ran.2.1 ran.3 (over ran.2.2.0 ran.2.2.1)
  finds s u f (Some (Ok taken)) ran = cc (asks ran.1 (Ok taken) true ran.4.0 ran.4.1)
  finds s u f (Some (Err stop)) ran =
      on_from ran.0 s ran.2.0 f ran.1 (Some stop) (walk_of u) ran.2.1 ran.3 (stopped ran.2.2.0 ran.2.2.1)
