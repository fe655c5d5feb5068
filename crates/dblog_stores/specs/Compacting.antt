-- For private clauses: the marks of the records of a topic log, from its last record to the first.
use Rattle.std.specs.Prelude.{◌≡◌, ℕ, ◌+◌, ◌++◌, List, [], ◌∷◌, Bool, Option, Some, None, if◌then◌else◌, map}
use Rattle.dbl_record.specs.declared.record.Record.{Record}
use Rattle.dbl_record.specs.Cuts.{joined}
use Rattle.dbl_record.specs.Line.{line_of}
use Rattle.dbl_compact.specs.Kept.{kept}
use Rattle.dbl_compact.specs.Marks.{marks, marked}
use Rattle.dbl_compact.specs.Compactors.{HasRead, placeholder_of}
use Rattle.dblog_stores.specs.declared.compacting.Marking.{Marking}
use Rattle.dblog_stores.specs.Answers.{first_refused, first_refused_from, takes}

-- The lines of the records that a compaction of these groups keeps.
abbrev pub kept_lines : List ℕ → List (List Record) → List (List ℕ)
kept_lines placeholder groups = map line_of (kept placeholder (joined groups))

-- The lines of the records of these groups that are marked.
abbrev pub marked_lines : List Bool → List (List Record) → List (List ℕ)
marked_lines marks groups = map line_of (marked marks (joined groups))

-- The line of a record, if its mark is true.
abbrev pub line_if : Option Bool → Record → List (List ℕ)
line_if None item = []
line_if (Some mark) item = if mark then line_of item ∷ [] else []

-- The groups, of which the first has this number, were marked, and nothing else.
pub record HasMarked (placeholder : List ℕ) (number : ℕ) (groups : List (List Record)) (marking : Marking) : Type 0 where
  pub same : placeholder_of marking.compactor ≡ placeholder
  pub read : HasRead (joined groups) marking.compactor
  pub marks_are : marking.marks ≡ marks placeholder (joined groups)
  pub refuses : marking.refused ≡ first_refused_from number placeholder groups

-- These last records of the group with this number were marked, and the groups after it.
pub record HasMarkedPart (placeholder : List ℕ) (number : ℕ) (part : List Record) (groups : List (List Record))
    (marking : Marking) : Type 0 where
  pub same : placeholder_of marking.compactor ≡ placeholder
  pub read : HasRead (part ++ joined groups) marking.compactor
  pub marks_are : marking.marks ≡ marks placeholder (part ++ joined groups)
  pub refuses : marking.refused ≡ (if takes placeholder part then first_refused_from (number + 1) placeholder groups else Some number)

-- The marks are those of the records of the groups, of which a consumer refuses none.
pub record HasMarkedAll (placeholder : List ℕ) (groups : List (List Record)) (found : List Bool) : Type 0 where
  pub none : first_refused placeholder groups ≡ None
  pub marks_are : found ≡ marks placeholder (joined groups)
