-- Words, and parts of words.
use Rattle.std.specs.Prelude.{ℕ, ◌==◌, if◌then◌else◌, Option, Some, None, option_map, List, [], ◌∷◌}
use Rattle.std.specs.List.{slice_split}

-- the bytes before the first separator, and those after it
abbrev pub cut_at : ℕ → List ℕ → Option (List ℕ × List ℕ)
cut_at separator [] = None
cut_at separator (b ∷ bs) = if b == separator then Some ([], bs)
    else option_map (λ (p : List ℕ × List ℕ). (b ∷ p.0, p.1)) (cut_at separator bs)

-- the parts of the bytes between separators, at least one
abbrev pub parts_at : ℕ → List ℕ → List (List ℕ)
parts_at separator bytes = slice_split (λ b. b == separator) bytes

-- the words of a line, separated by single spaces
abbrev pub words_of : List ℕ → List (List ℕ)
words_of line = parts_at 32 line

-- the parts of what is left after a separator, if anything is
abbrev pub parts_left : ℕ → Option (List ℕ) → List (List ℕ)
parts_left separator None = []
parts_left separator (Some bytes) = parts_at separator bytes
