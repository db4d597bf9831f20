use Rattle.std.proofs.Common.{◌≡◌, ℕ, ◌+◌, ◌-◌, ◌*◌, ◌^◌, ◌<◌, ◌≤◌, length, get_or, take, drop, ◌∙◌, ap, arith, rules, get_or-drop, get_or-take, length-take, length-drop, length-append}
use Rattle.run.proofs.Weighing.{Summed, term_fits, weighed_more, weighed_all}
use Rattle.run.proofs.run.advance.weigh.Goals as goal
use Rattle.run.proofs.run.advance.weigh.Goals.{In-Some, In-None}
use Rattle.run.specs.Advance.{nil}
use Rattle.run.specs.declared.pair.Pair.{Pair}
use Rattle.std.proofs.lemmas.Slice.Zip.{zip_turn, zip_end}
use Rattle.units.specs.One.{one}

turn : (c : In-Some) → (length c.loop-weight.yielded < length c.args.weights.now)
    × (c.in-Some.weight.now ≡ get_or c.args.weights.now (length c.loop-weight.yielded) 0)
    × (c.in-Some.cost.now ≡ get_or c.args.costs.now (c.args.place + length c.loop-weight.yielded) nil)
turn c =
    let from = take ((c.args.place + length c.args.weights.now) - c.args.place) (drop c.args.place c.args.costs.now) in
    let this = zip_turn c.args.weights.now from c.loop-weight.yielded c.into_iter-weight-iterator.result c.loop-weight.weight-iterator
    c.next.new.self c.next.result (search rules) (search rules) c.loop-weight.yielded_by _ c.in-Some.is c.next.ensures.steps in
    let within : c.args.place + length c.args.weights.now ≤ length c.args.costs.now = c.requires.within in
    let below : length c.loop-weight.yielded < length c.args.weights.now = this.0 in
    let there : length c.loop-weight.yielded < (c.args.place + length c.args.weights.now) - c.args.place = omega arith in
    (below, this.2 0, this.3 nil ∙ rw (get_or-take, get_or-drop))

-- the sum of either side fits with one more term
more_fits :
    (c : In-Some) (side : Pair → ℕ) (sum : ℕ) → side c.in-Some.cost.now < 2 ^ 32
    → Summed c.args.weights.now (λ k. side (get_or c.args.costs.now (c.args.place + k) nil)) (length c.loop-weight.yielded) sum
    → sum + c.in-Some.weight.now * side c.in-Some.cost.now ≤ one * (2 ^ 32 - 1)
more_fits c side sum small inv =
    let t = turn c in
    term_fits c.args.weights.now (λ k. side (get_or c.args.costs.now (c.args.place + k) nil)) c.args.dropped
    (length c.loop-weight.yielded) sum c.in-Some.weight.now (side c.in-Some.cost.now) t.0 c.requires.whole t.1 (ap side t.2) small inv

pub overflow_add-lower : goal.overflow_add-lower
overflow_add-lower c =
    let fits = more_fits (goal.at.overflow_add-lower c).In-Some (λ pair. pair.lower) c.loop-weight.lower (search rules) c.loop-weight.invariant.lowers in
    search rules

pub overflow_add-upper : goal.overflow_add-upper
overflow_add-upper c =
    let fits = more_fits (goal.at.overflow_add-upper c).In-Some (λ pair. pair.upper) c.loop-weight.upper (search rules) c.loop-weight.invariant.uppers in
    search rules

pub loop-weight-preserved : goal.loop-weight-preserved
loop-weight-preserved c =
    let t = turn (goal.at.loop-weight-preserved c).In-Some in
    let more = weighed_more c.args.weights.now c.args.costs.now c.args.place (length c.loop-weight.yielded)
    c.loop-weight.lower c.loop-weight.upper c.loop-weight.invariant c.in-Some.weight.now c.in-Some.cost.now t.1 t.2 (search rules) (search rules) in
    simp length-append more

all : (c : In-None) → length c.loop-weight.yielded ≡ length c.args.weights.now
all c =
    let from = take ((c.args.place + length c.args.weights.now) - c.args.place) (drop c.args.place c.args.costs.now) in
    let ends = zip_end c.args.weights.now from c.loop-weight.yielded c.into_iter-weight-iterator.result c.loop-weight.weight-iterator
    c.next.new.self c.next.result (search rules) (search rules) c.loop-weight.yielded_by c.in-None.is c.next.ensures.steps in
    let within : c.args.place + length c.args.weights.now ≤ length c.args.costs.now = c.requires.within in
    omega (arith, ends, length-take ((c.args.place + length c.args.weights.now) - c.args.place) (drop c.args.place c.args.costs.now), length-drop c.args.place c.args.costs.now)

pub returns : goal.returns
returns c =
    let n = all (goal.at.returns c).In-None in
    let weighed = weighed_all c.args.weights.now c.args.costs.now c.args.place (length c.loop-weight.yielded) c.loop-weight.lower
    c.loop-weight.upper c.loop-weight.invariant c.args.dropped n in
    search rules
