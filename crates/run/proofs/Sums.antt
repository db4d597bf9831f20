-- Sums over the numbers below n and over lists, sums by weights, and a law's weights before and after the cut.
use Rattle.std.proofs.Common.{◌≡◌, ℕ, zero, suc, ◌+◌, ◌-◌, ◌*◌, ◌<◌, ◌≤◌, leb, List, [], ◌∷◌, map, length}
use Rattle.std.proofs.Common.{drop, sum_by, sym, refl, ap, ◌∙◌, ap₂, add-zero, add-suc, mul_assoc, add-mul, mul-le-mul_left, mul-zero, zero-mul, arith}
use Rattle.claims.specs.Law.{total}
use Rattle.run.specs.Advance.{sum_below}
use Rattle.run.specs.Period.{weight_at, cut}
use Rattle.std.proofs.lemmas.List.{drop_all}
use Rattle.std.proofs.lemmas.List.Sums.{sum_by-cons}
use Rattle.std.proofs.lemmas.Bool.{leb-true, leb-false, cond_both}
use Rattle.std.specs.List.{range_with_len}
use Rattle.units.specs.declared.Weight.{Weight}

pub below-same : (n : ℕ) (f g : ℕ → ℕ) → ((j : ℕ) → j < n → f j ≡ g j) → sum_below n f ≡ sum_below n g
below-same zero f g same = refl
below-same (suc n) f g same =
    ap₂ ◌+◌ (below-same n f g (λ j h. same j (omega arith))) (same n (omega arith))

pub below_order : (n : ℕ) (f g : ℕ → ℕ) → ((j : ℕ) → j < n → f j ≤ g j) → sum_below n f ≤ sum_below n g
below_order zero f g order = omega arith
below_order (suc n) f g order =
    omega (arith, below_order n f g (λ j h. order j (omega arith)), order n (omega arith))

pub below_scale : (n : ℕ) (f : ℕ → ℕ) (c : ℕ) → sum_below n (λ j. f j * c) ≡ sum_below n f * c
below_scale zero f c = sym (zero-mul c)
below_scale (suc n) f c = ap (λ s. s + f n * c) (below_scale n f c) ∙ sym (add-mul (sum_below n f) (f n) c)

pub below_split : (m n : ℕ) (f : ℕ → ℕ) → sum_below (m + n) f ≡ sum_below m f + sum_below n (λ j. f (m + j))
below_split m zero f = rw (add-zero m) (omega arith)
below_split m (suc n) f = rw add-suc (omega (arith, below_split m n f))

pub below-from : (q n : ℕ) (f : ℕ → ℕ) → q ≤ n → sum_below n f ≡ sum_below q f + sum_below (n - q) (λ j. f (q + j))
below-from q n f h = ap (λ k. sum_below k f) (omega arith) ∙ below_split q (n - q) f

pub below-front : (q n : ℕ) (f : ℕ → ℕ) → q ≤ n → sum_below q f ≤ sum_below n f
below-front q n f h = omega (arith, below-from q n f h)

pub below-first : (n : ℕ) (f : ℕ → ℕ) → sum_below (suc n) f ≡ f 0 + sum_below n (λ j. f (suc j))
below-first zero f = omega arith
below-first (suc n) f = omega (arith, below-first n f)

pub below-backward : (n : ℕ) (f : ℕ → ℕ) → sum_below n f ≡ sum_below n (λ i. f (n - 1 - i))
below-backward zero f = refl
below-backward (suc n) f =
    omega (arith, below-backward n f, first, last, below-same n (λ i. f (n - 1 - i)) (λ i. f (suc n - 1 - suc i)) same)
  where
    first : sum_below (suc n) (λ i. f (suc n - 1 - i)) ≡ f (suc n - 1 - 0) + sum_below n (λ i. f (suc n - 1 - suc i))
    first = below-first n (λ i. f (suc n - 1 - i))

    last : f (suc n - 1 - 0) ≡ f n
    last = ap f (omega arith)

    same : (i : ℕ) → i < n → f (n - 1 - i) ≡ f (suc n - 1 - suc i)
    same i h = ap f (omega arith)

pub sum-scaled :
    {X : Type 0} (c : ℕ) (f g : X → ℕ) → ((x : X) → g x ≡ c * f x) → (xs : List X) → sum_by g xs ≡ c * sum_by f xs
sum-scaled c f g each [] = sym (mul-zero c)
sum-scaled c f g each (x ∷ xs) =
    omega (
      arith,
      sum_by-cons g x xs,
      each x,
      sum-scaled c f g each xs,
      ap (λ s. c * s) (sum_by-cons f x xs),
    )

pub sum-map : {X Y : Type 0} (f : Y → ℕ) (g : X → Y) (xs : List X) → sum_by f (map g xs) ≡ sum_by (λ x. f (g x)) xs
sum-map f g [] = refl
sum-map f g (x ∷ xs) = omega (arith, sum_by-cons f (g x) (map g xs), sum_by-cons (λ y. f (g y)) x xs, sum-map f g xs)

pub sum_counting : (f : ℕ → ℕ) (a n : ℕ) → sum_by f (range_with_len a n) ≡ sum_below n (λ i. f (a + i))
sum_counting f a zero = refl
sum_counting f a (suc n) =
    omega (
      arith,
      sum_by-cons f a (range_with_len (a + 1) n),
      sum_counting f (a + 1) n,
      below-first n (λ i. f (a + i)),
      ap f (add-zero a),
      below-same n (λ i. f (a + 1 + i)) (λ i. f (a + suc i)) (λ i h. ap f (omega arith)),
    )

-- sums of f by the weights w
module _ (w : ℕ → ℕ) where
  pub weighed_order :
      (n : ℕ) (f g : ℕ → ℕ) → ((j : ℕ) → j < n → f j ≤ g j) → sum_below n (λ j. w j * f j) ≤ sum_below n (λ j. w j * g j)
  weighed_order n f g order =
      below_order n (λ j. w j * f j) (λ j. w j * g j) (λ j h. mul-le-mul_left (w j) (order j h))

  pub weighed_scale : (n : ℕ) (f : ℕ → ℕ) (c : ℕ) → sum_below n (λ j. w j * (f j * c)) ≡ sum_below n (λ j. w j * f j) * c
  weighed_scale n f c =
      below-same n (λ j. w j * (f j * c)) (λ j. w j * f j * c) (λ j h. sym (mul_assoc (w j) (f j) c))
      ∙ below_scale n (λ j. w j * f j) c

  pub weighed-at-most :
      (n : ℕ) (f : ℕ → ℕ) (c : ℕ) → ((j : ℕ) → j < n → f j ≤ c) → sum_below n (λ j. w j * f j) ≤ sum_below n w * c
  weighed-at-most n f c most = omega (arith, weighed_order n f (λ j. c) most, below_scale n w c)

  pub weighed_raised :
      (n : ℕ) (f g : ℕ → ℕ) (c : ℕ) → ((j : ℕ) → j < n → g j ≤ f j + c)
      → sum_below n (λ j. w j * g j) ≤ sum_below n (λ j. w j * f j) + sum_below n w * c
  weighed_raised zero f g c raised = omega arith
  weighed_raised (suc n) f g c raised =
      omega
      (arith, weighed_raised n f g c (λ j h. raised j (omega arith)), mul-le-mul_left (w n) (raised n (omega arith)))

-- the terms from q on add at most their weight times the largest term
pub weighed-rest :
    (w : ℕ → ℕ) (q n : ℕ) (f : ℕ → ℕ) (c rest : ℕ) → q ≤ n → sum_below q w + rest ≡ sum_below n w → ((j : ℕ) → j < n → f j ≤ c)
    → sum_below n (λ j. w j * f j) ≤ sum_below q (λ j. w j * f j) + rest * c
weighed-rest w q n f c rest h weighs most =
    omega (arith, below-from q n (λ j. w j * f j) h, ap (λ s. s * c) weight, terms)
  where
    weight : sum_below (n - q) (λ j. w (q + j)) ≡ rest
    weight = omega (arith, below-from q n w h)

    terms : sum_below (n - q) (λ j. w (q + j) * f (q + j)) ≤ sum_below (n - q) (λ j. w (q + j)) * c
    terms = weighed-at-most (λ j. w (q + j)) (n - q) (λ j. f (q + j)) c (λ j k. most (q + j) (omega arith))

-- a law's weights: those below q, and those from q on
pub weights_split : (q : ℕ) (ws : List Weight) → sum_below q (weight_at ws) + total (drop q ws) ≡ total ws
weights_split zero ws = omega arith
weights_split (suc q) [] = omega (arith, weights_split q [])
weights_split (suc q) (v ∷ ws) =
    omega (arith, below-first q (weight_at (v ∷ ws)), weights_split q ws, sum_by-cons (λ x. x.0) v ws)

pub weights-total : (ws : List Weight) → sum_below (length ws) (weight_at ws) ≡ total ws
weights-total ws =
    omega (arith, weights_split (length ws) ws, ap total (drop_all (length ws) ws (omega arith)))

module _ (e : ℕ) where
  pub cut_le_length : (ws : List Weight) → cut e ws ≤ length ws
  cut_le_length [] = omega arith
  cut_le_length (v ∷ ws) =
      cond_both (leb (total (v ∷ ws)) e) 0 (suc (cut e ws)) (λ q. q ≤ suc (length ws)) (λ _. omega arith)
      (λ _. omega (arith, cut_le_length ws))

  pub cut-rest : (ws : List Weight) → total (drop (cut e ws) ws) ≤ e
  cut-rest [] = omega arith
  cut-rest (v ∷ ws) =
      cond_both (leb (total (v ∷ ws)) e) 0 (suc (cut e ws)) (λ q. total (drop q (v ∷ ws)) ≤ e)
      (leb-true (total (v ∷ ws)) e) (λ _. cut-rest ws)

  pub before_cut : (ws : List Weight) (k : ℕ) → k < cut e ws → e < total (drop k ws)
  before_cut [] = λ k h. omega arith
  before_cut (v ∷ ws) =
      cond_both (leb (total (v ∷ ws)) e) 0 (suc (cut e ws)) (λ q. (k : ℕ) → k < q → e < total (drop k (v ∷ ws)))
      (λ _ k h. omega arith)
      (λ t. elim [ zero ↦ λ _. leb-false (total (v ∷ ws)) e t | suc k ↦ λ h. before_cut ws k (omega arith) ])
