-- The effect of writing lines on an output.
use Rattle.std.specs.Prelude.{◌≡◌, ℕ, List, ◌++◌, Option, Some, Result, Ok, Err, take}
use Rattle.dbl_base.specs.Lines.{lines_text}
use Rattle.dbl_lines.specs.declared.error.PrintError.{PrintError}
use Rattle.dbl_lines.specs.declared.error.PrintError.TheVariants.{OutputFailed, Memory}

-- the text was appended
abbrev pub Wrote : Option (List ℕ) → Option (List ℕ) → List ℕ → Type 0
Wrote before after text = (bytes : List ℕ) → before ≡ Some bytes → after ≡ Some (bytes ++ text)

-- a prefix of the text was appended
abbrev pub WrotePrefix : Option (List ℕ) → Option (List ℕ) → List ℕ → Type 0
WrotePrefix before after text = (bytes : List ℕ) → before ≡ Some bytes → (n : ℕ) × (after ≡ Some (bytes ++ take n text))

-- not all lines were written: a prefix of their text was appended, and if memory ran out it consists of whole lines
abbrev pub PrintFails : List (List ℕ) → PrintError → Option (List ℕ) → Option (List ℕ) → Type 0
PrintFails lines OutputFailed before after = WrotePrefix before after (lines_text lines)
PrintFails lines Memory before after = (n : ℕ) × Wrote before after (lines_text (take n lines))

-- the effect of printing lines, by the result
abbrev pub Prints : {A : Type 0} → List (List ℕ) → Result A PrintError → Option (List ℕ) → Option (List ℕ) → Type 0
Prints lines (Ok done) before after = Wrote before after (lines_text lines)
Prints lines (Err error) before after = PrintFails lines error before after
