-- The kinds of record: letter, length of the body, and the record that a body of this length says. Assumes nothing.
use Rattle.std.specs.Prelude.{ℕ, ◌+◌, ◌*◌, cond, List, [], ◌∷◌, take, drop, Some, None, codes, fold, Option, ◌==◌, slice_index}
use Prim.Native.String.{String}
use Rattle.std.specs.Option.{option_map}
use Rattle.units.specs.declared.Amount.{Amount}
use Rattle.units.specs.declared.Level.{Level}
use Rattle.units.specs.declared.Weight.{Weight}
use Rattle.feed.specs.declared.record.Record.{Record}
use Rattle.feed.specs.declared.record.Record.TheVariants.{Claim, EndLaw, ScrapLaw, SingleSize, Retain}
use Rattle.feed.specs.declared.record.Record.TheVariants.{Plain, Floor, Barrier, AnyRuin, BelowDeficit}
use Rattle.feed.specs.declared.record.Record.TheVariants.{Scaled, Allowance, Open, Advance, Ask}

-- high byte first
abbrev pub number : List ℕ → ℕ
number bytes = fold (λ high byte. high * 256 + byte) 0 bytes

abbrev amount : List ℕ → Amount
amount bytes = record { 0 = number bytes }

abbrev level : List ℕ → Level
level bytes = record { 0 = number bytes }

abbrev weight : List ℕ → Weight
weight bytes = record { 0 = number bytes }

pub record Kind : Type 0 where
  pub letter : ℕ
  pub body_length : ℕ
  pub says : List ℕ → Record

abbrev kind : String → ℕ → (List ℕ → Record) → Kind
kind letter body_length says = record { letter = slice_index (codes letter) 0; body_length = body_length; says = says }

abbrev pub kinds : List Kind
kinds =
    kind "w" 6 (λ body. Claim (amount (take 2 body)) (weight (drop 2 body)))
    ∷ kind "e" 2 (λ body. EndLaw (number body))
    ∷ kind "z" 0 (λ body. ScrapLaw)
    ∷ kind "s" 6 (λ body. SingleSize (amount (take 2 body)) (weight (drop 2 body)))
    ∷ kind "c" 2 (λ body. Retain (amount body))
    ∷ kind "n" 0 (λ body. Plain)
    ∷ kind "f" 2 (λ body. Floor (level body))
    ∷ kind "b" 2 (λ body. Barrier (level body))
    ∷ kind "p" 0 (λ body. AnyRuin)
    ∷ kind "y" 2 (λ body. BelowDeficit (number body))
    ∷ kind "m" 1 (λ body. Scaled (number body))
    ∷ kind "a" 4 (λ body. Allowance (weight body))
    ∷ kind "o" 2 (λ body. Open (number body))
    ∷ kind "t" 0 (λ body. Advance)
    ∷ kind "u" 2 (λ body. Ask (level body))
    ∷ []

abbrev kind_in : List Kind → ℕ → Option Kind
kind_in [] letter = None
kind_in (k ∷ others) letter = cond (letter == k.letter) (Some k) (kind_in others letter)

abbrev pub kind_of : ℕ → Option Kind
kind_of letter = kind_in kinds letter

abbrev pub body_length_lem : ℕ → Option ℕ
body_length_lem letter = option_map (λ k. k.body_length) (kind_of letter)
