-- What the age of an altered table means for the cells of a consumer: at a key without a whole change in the span they are those of the
-- columns in force at its end.
use Rattle.std.specs.Prelude.{◌≡◌, ℕ, max, Option, Some, None, IsSome, List}
use Rattle.dbl_record.specs.declared.acts.HeldCell.{HeldCell}
use Rattle.dbl_record.specs.declared.acts.HeldCell.TheVariants.{Known, Unknown}
use Rattle.dbl_record.specs.declared.record.Record.{Record}
use Rattle.dbl_model_table.specs.declared.identity.Identity.{Identity}
use Rattle.dbl_model_table.specs.declared.row.Key.{Key}
use Rattle.dbl_model_table.specs.Rows.{moment_at}
use Rattle.dbl_model_history.specs.Image.{Names}
use Rattle.dbl_model_history.specs.WholeChanges.{IsTouched}
use Rattle.dbl_consume_laws.specs.Ages.{held_cell, source_cell, HadValueWithin}
use Rattle.dbl_consume_courses.specs.Versions.{Versioned}
use Rattle.dbl_consume_courses.specs.Courses.{Course}
use Rattle.dbl_consume_courses.specs.AlteredTables.{course_changes, IsKnownIn, IsTableAged}
use Rattle.dbl_consume_courses.specs.Growth.{own_span_end}

-- Whether a consumer's cell is the source's within a span: it has one exactly if the source has one at the span's end, and then a known
-- text, which the source's cell had at some point of the span.
abbrev pub AgreesWithin : (ℕ → Option (List ℕ)) → ℕ → ℕ → Option HeldCell → Type 0
AgreesWithin life from to None = life to ≡ None
AgreesWithin life from to (Some (Known text)) = IsSome (life to) × HadValueWithin life from to (Some text)
AgreesWithin life from to (Some Unknown) = ⊥

-- The point in a table's course from which it is aged.
abbrev pub own_from : Course → ℕ → ℕ
own_from c position = moment_at c.commits (max position c.start)

-- At a key that is known at the end of the span in a table's course, and for which no change of the span is whole, a consumer of the whole
-- log has a cell in exactly the columns in force there if the source has the row, and none otherwise. Each is known, and is the source's at
-- some point of the span that isn't before the table's last alteration.
abbrev pub AlteredTablesAge : Type 0
AlteredTablesAge = (identity : Identity) (c : Course) (versions : List Versioned) (records : List Record) (position table : ℕ)
    → IsTableAged identity c versions records position table
    → (topic text : List ℕ) (key : Key) (column : List ℕ) → Names identity c.infos topic text table key
    → IsKnownIn identity c records (own_span_end c records (own_from c position)) table key
    → ¬ IsTouched c.infos (course_changes c) (own_from c position) (own_span_end c records (own_from c position)) table key
    → AgreesWithin (source_cell c.infos (course_changes c) table key column) (own_from c position)
    (own_span_end c records (own_from c position)) (held_cell identity records topic text column)
