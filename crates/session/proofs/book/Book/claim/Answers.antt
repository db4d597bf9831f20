use Rattle.claims.specs.Drafts.{given_by}
use Rattle.session.proofs.Soundness.{claimed_sound}
use Rattle.session.proofs.book.Book.claim.Goals as goal
use Rattle.session.specs.Law.{part_law, claimed_law, claimed_row, given_in}
use Rattle.session.specs.Parts.{law_of}
use Rattle.session.specs.Sound.{Sound}
use Rattle.session.specs.Stages.{row_of}
use Rattle.std.proofs.Common.{◌≡◌, ◌≤◌, ◌<◌, length, subst₂, rules, arith}
use Rattle.std.proofs.lemmas.Grind.{common_steps}

pub invariant_of-self : goal.invariant_of-self
invariant_of-self c =
    let book = c.args.self.now in
    let law : claimed_law (law_of book) c.args.amount c.args.weight ≡ part_law (given_by c.in_ok-claimed.claimed) = search rules in
    let row : claimed_row (law_of book) (row_of book.weights) c.args.amount c.args.weight ≡ row_of c.place.new.weights = search rules in
    let small : c.args.amount.0 ≤ 4095 = grind (arith, common_steps) in
    let above : (given_in (law_of book)).next ≤ c.args.amount.0 = grind (arith, common_steps) in
    let room : c.args.amount.0 < length book.weights.slots.now = grind (arith, common_steps) in
    record { sound = subst₂ Sound law row (claimed_sound _ _ c.args.amount c.args.weight book.sound small above room) }
