-- The bytes of the lines. Assumes nothing.
use Rattle.std.specs.Prelude.{ℕ, List, ◌++◌, codes, decimal}
use Rattle.run.specs.declared.answer.Answer.{Answer}

abbrev pub refusal_line_lem : ℕ → ℕ → List ℕ
refusal_line_lem number offset = codes "no " ++ (decimal number ++ (codes " " ++ (decimal offset ++ codes "\n")))

abbrev pub end_line_lem : ℕ → List ℕ
end_line_lem count = codes "end " ++ (decimal count ++ codes "\n")

-- the level, its lower and its upper bound, the periods, the weight left out
abbrev pub answer_line_lem : ℕ → Answer → List ℕ
answer_line_lem level answer =
    codes "u " ++ (decimal level
    ++ (codes " " ++ (decimal answer.pair.lower
    ++ (codes " " ++ (decimal answer.pair.upper
    ++ (codes " " ++ (decimal answer.periods.0
    ++ (codes " " ++ (decimal answer.dropped.0
    ++ codes "\n")))))))))
