use Rattle.std.proofs.Common.{◌≡◌, ℕ, List, [], ◌++◌, take, Option, Some, None, IfSome}
use Rattle.std.specs.Option.{option_map}
use Rattle.feed.proofs.taking.take_feed.Goals as goal

front : (known : Option (List ℕ)) (n : ℕ) (bytes before : List ℕ) → before ≡ []
    → IfSome (option_map (take n) known) (λ xs. bytes ≡ before ++ xs) → IfSome known (λ xs. bytes ≡ take n xs)
front None n bytes before nil read = tt
front (Some xs) n bytes before nil read = rw nil at read

pub returns : goal.returns
returns g c =
    front (g.R.Read.remaining c.args.input) 65536 _ _ c.new-bytes.ensures.items
    (rw (c.take.ensures.limit, c.take.ensures.inner) at c.in_ok-read_to_end.ensures.bytes)
