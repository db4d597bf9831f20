-- A weight put behind blanks stands at its amount, and adds to what the roll weighs.
use Rattle.std.proofs.Common.{◌≡◌, ℕ, ◌+◌, ◌-◌, ◌<◌, ◌≤◌, max, List, [], ◌∷◌, ◌++◌, length, get_or, take, drop, set, replicate, sym, ap, ◌∙◌, ap₂, arith, length-append, length-drop}
use lib.ListN.{length-replicate}
use Rattle.claims.specs.Law.{total}
use Rattle.claims.specs.LawfulLists.{nothing, total-nothing}
use Rattle.roll.specs.Roll.{padded, pad_slots, pad_filled, put_slots, put_filled}
use Rattle.session.specs.Law.{Row, items, placed}
use Rattle.std.proofs.lemmas.Bool.Decides.{nat_tests}
use Rattle.std.proofs.lemmas.List.{append_assoc, drop_more, length-take-le, set_at, take_at}
use Rattle.std.proofs.lemmas.List.Sums.{sum_by_push, sum_by-append}
use Rattle.units.specs.declared.Weight.{Weight}

module _ (slots : List Weight) (filled amount : ℕ) (weight : Weight) (below : filled ≤ amount) (room : amount < length slots) where
  -- the filled slots, and blanks up to the amount
  abbrev front : List Weight
  front = take filled slots ++ replicate (amount - filled) nothing

  abbrev behind : List Weight
  behind = drop (amount + 1) slots

  length_front : length front ≡ amount
  length_front =
      omega (arith, length-append (take filled slots) (replicate (amount - filled) nothing), length-take-le filled slots (omega arith), length-replicate (amount - filled) nothing)

  last : max filled amount ≡ amount
  last = omega arith

  -- the slots with blanks up to the amount
  blanks : padded slots filled amount nothing ≡ front ++ (get_or slots amount nothing ∷ behind)
  blanks =
      sym (append_assoc (take filled slots) (replicate (amount - filled) nothing) (drop (max filled amount) slots))
      ∙ ap (λ rest. front ++ rest) (ap (λ n. drop n slots) last ∙ drop_more slots amount nothing room)

  whole_row : (placed (record { slots = slots; filled = filled }) amount weight).slots ≡ front ++ (weight ∷ behind)
  whole_row = sym (append_assoc (take filled slots) (replicate (amount - filled) nothing) (weight ∷ behind))

  pub length-placed : length (placed (record { slots = slots; filled = filled }) amount weight).slots ≡ length slots
  length-placed =
      ap length whole_row ∙ (length-append front (weight ∷ behind) ∙ omega (arith, length_front, length-drop (amount + 1) slots))

  pub placing : (slots₁ slots₂ : List Weight) (filled₁ filled₂ : ℕ) → slots₁ ≡ pad_slots slots filled amount nothing
      → filled₁ ≡ pad_filled slots filled amount → slots₂ ≡ put_slots slots₁ filled₁ weight → filled₂ ≡ put_filled slots₁ filled₁
      → ◌≡◌ {A = Row Weight} (record { slots = slots₂; filled = filled₂ }) (placed (record { slots = slots; filled = filled }) amount weight)
  placing slots₁ slots₂ filled₁ filled₂ pads counts puts ends =
      let at : filled₁ ≡ amount = grind (arith, nat_tests) in
      let shows : slots₁ ≡ front ++ (get_or slots amount nothing ∷ behind) = grind (arith, nat_tests, blanks) in
      let roomy : amount < length slots₁ = omega (arith, ap length shows, length-append front (get_or slots amount nothing ∷ behind), length_front) in
      let there : slots₂ ≡ set slots₁ filled₁ weight = grind (arith, nat_tests) in
      let put : slots₂ ≡ front ++ (weight ∷ behind) =
      there ∙ (ap₂ (λ s n. set s n weight) shows at ∙ set_at front (get_or slots amount nothing) behind weight amount length_front) in
      let count : filled₂ ≡ amount + 1 = grind (arith, nat_tests) in
      ap₂ {C = Row Weight} (λ s n. record { slots = s; filled = n }) (put ∙ sym whole_row) count

  pub total-placed : total (items (placed (record { slots = slots; filled = filled }) amount weight)) ≡ total (take filled slots) + weight.0
  total-placed =
      ap total (ap (take (amount + 1)) (whole_row ∙ sym (append_assoc front (weight ∷ []) behind))
      ∙ take_at (front ++ weight ∷ []) behind (amount + 1) (grind (arith, length_front, length-append)))
      ∙ (sum_by_push (λ w. w.0) front weight
      ∙ omega (arith, sum_by-append (λ w. w.0) (take filled slots) (replicate (amount - filled) nothing), total-nothing (amount - filled)))
