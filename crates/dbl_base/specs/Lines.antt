-- The lines of a text.
use Rattle.std.specs.Prelude.{ℕ, ◌==◌, Bool, true, if◌then◌else◌, List, [], ◌∷◌, ◌++◌}
use Rattle.std.specs.List.{onto_first}

-- the lines of a text, each without its newline, which the last line may lack
abbrev pub lines_of : List ℕ → List (List ℕ)
lines_of [] = []
lines_of (c ∷ cs) = if c == 10 then [] ∷ lines_of cs else onto_first c (lines_of cs)

-- the line is empty or begins with `#`, and is ignored
abbrev pub is_passed_over : List ℕ → Bool
is_passed_over [] = true
is_passed_over (c ∷ cs) = c == 35

-- lines as a text, each followed by a newline
abbrev pub lines_text : List (List ℕ) → List ℕ
lines_text [] = []
lines_text (line ∷ lines) = line ++ 10 ∷ lines_text lines
