-- The lines that a writer was given, wrote and buffered.
use Rattle.std.specs.Prelude.{◌≡◌, ℕ, List, ◌++◌, Option, Some, Result, Ok, Err}
use Rattle.dbl_base.specs.Lines.{lines_text}
use Rattle.dbl_lines.specs.declared.error.PrintError.{PrintError}
use Rattle.dbl_lines.specs.Writing.{Wrote, PrintFails}

-- the writer was given these lines since the output's state at the start: the first of them are written, the others buffered
pub record IsPut (start now : Option (List ℕ)) (gathered : List ℕ) (lines : List (List ℕ)) : Type 0 where
  pub written : List (List ℕ)
  pub kept : List (List ℕ)
  pub wrote : Wrote start now (lines_text written)
  pub gathered_are : gathered ≡ lines_text kept
  pub all_are : written ++ kept ≡ lines

-- these lines were added after any earlier ones
abbrev pub Puts : List (List ℕ) → List ℕ → List ℕ → Option (List ℕ) → Option (List ℕ) → Type 0
Puts lines gathered later before after = (start : Option (List ℕ)) (earlier : List (List ℕ)) → IsPut start before gathered earlier
    → IsPut start after later (earlier ++ lines)

-- not all lines were added: a prefix of the text of all was written, and if memory ran out it consists of whole lines
abbrev pub PutFails : List (List ℕ) → List ℕ → PrintError → Option (List ℕ) → Option (List ℕ) → Type 0
PutFails lines gathered error before after = (start : Option (List ℕ)) (earlier : List (List ℕ)) → IsPut start before gathered earlier
    → PrintFails (earlier ++ lines) error start after

-- the effect of adding lines, by the result
abbrev pub PutsLines : {A : Type 0} → List (List ℕ) → Result A PrintError → List ℕ → List ℕ → Option (List ℕ) → Option (List ℕ) → Type 0
PutsLines lines (Ok done) gathered later before after = Puts lines gathered later before after
PutsLines lines (Err error) gathered later before after = PutFails lines gathered error before after

-- the effect of a call that adds no line, by the result
abbrev pub StaysPut : {A : Type 0} → Result A PrintError → List ℕ → List ℕ → Option (List ℕ) → Option (List ℕ) → Type 0
StaysPut (Ok done) gathered later before after = (start : Option (List ℕ)) (lines : List (List ℕ)) → IsPut start before gathered lines
    → IsPut start after later lines
StaysPut (Err error) gathered later before after = (start : Option (List ℕ)) (lines : List (List ℕ)) → IsPut start before gathered lines
    → PrintFails lines error start after

-- the text written and the text buffered are together the text of the lines added
abbrev pub TextIsTold : Type 0
TextIsTold = (bytes now gathered : List ℕ) (lines : List (List ℕ)) → IsPut (Some bytes) (Some now) gathered lines
    → now ++ gathered ≡ bytes ++ lines_text lines
