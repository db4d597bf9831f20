-- What stands in a slice that a closure which answers one item has filled.
use Rattle.std.proofs.Common.{◌≡◌, ℕ, ◌+◌, ◌-◌, ◌<◌, ◌≤◌, max, List, [], ◌∷◌, ◌++◌, length, take, drop, replicate, refl, ap, ◌∙◌, ap₂, arith, length-take, length-drop}
use Rattle.std.specs.List.{FoldsTo}
use Rattle.std.proofs.lemmas.List.{drop-drop}
use Rattle.roll.specs.Roll.{padded}
use borrow.Rule.Slice.PartMut.{put_mid}

pub filled_with : {P A : Type 0} (answers : P → A → P → Type 0) (item_of : P → A)
    → ((p : P) (x : A) (q : P) → answers p x q → (x ≡ item_of p) × (item_of q ≡ item_of p))
    → (xs : List A) (p q : P) → FoldsTo answers p xs q → xs ≡ replicate (length xs) (item_of p)
filled_with answers item_of same [] p q ran = refl
filled_with answers item_of same (x ∷ xs) p q ran =
    let here = same p x ran.0 ran.1 in
    let later = filled_with answers item_of same xs ran.0 q ran.2 in
    ap₂ (λ y ys. y ∷ ys) here.0 (later ∙ ap (replicate (length xs)) here.1)

-- copies in the place of the slots from the filled ones to the count
pub padded_by : {A : Type 0} (slots copies : List A) (filled count : ℕ) (item : A)
    → filled < count → count ≤ length slots → length copies ≡ length (take (count - filled) (drop filled slots))
    → copies ≡ replicate (length copies) item → put_mid filled (count - filled) slots copies ≡ padded slots filled count item
padded_by slots copies filled count item more fits long same =
    let gap : length copies ≡ count - filled = omega (arith, long, length-take (count - filled) (drop filled slots), length-drop filled slots) in
    let last : filled + (count - filled) ≡ max filled count = omega arith in
    ap₂ (λ ys later. take filled slots ++ (ys ++ later)) (same ∙ ap (λ n. replicate n item) gap)
    (drop-drop (count - filled) filled slots ∙ ap (λ n. drop n slots) last)
