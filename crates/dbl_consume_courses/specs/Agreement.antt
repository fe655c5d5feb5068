-- Agreement where tables may be altered: a consumer of a log that is aged from a position, and has no record after it, has exactly the
-- source's rows there, in the columns in force there, at the keys known there.
use Rattle.std.specs.Prelude.{ℕ, ◌≤◌, List}
use Rattle.std.specs.List.{AllByRecursion}
use Rattle.dbl_record.specs.declared.record.Record.{Record}
use Rattle.dbl_model_table.specs.declared.identity.Identity.{Identity}
use Rattle.dbl_model_table.specs.declared.row.Key.{Key}
use Rattle.dbl_model_table.specs.declared.table.TableInfo.{TableInfo}
use Rattle.dbl_model_table.specs.Rows.{rows}
use Rattle.dbl_model_history.specs.Image.{Names, image_row}
use Rattle.dbl_consume_laws.specs.Commits.{moment_after}
use Rattle.dbl_consume_laws.specs.Laws.{HoldsJsonTexts}
use Rattle.dbl_consume_laws.specs.Ages.{held_row}
use Rattle.dbl_consume_courses.specs.Versions.{Versioned}
use Rattle.dbl_consume_courses.specs.Courses.{course}
use Rattle.dbl_consume_courses.specs.AlteredTables.{IsKnownIn, IsAgedFrom}
use Rattle.dbl_consume_courses.specs.FitVersions.{AreFitVersions}
use Rattle.dbl_consume_courses.specs.KeyRows.{HasRowsOfKeys}

-- The row that a consumer has at such a key is exactly the source's, each cell known, or both have none.
abbrev pub AlteredTablesAgree : Type 0
AlteredTablesAgree = (identity : Identity) (infos : List TableInfo) (versions : List Versioned) (start position table : ℕ)
    (records : List Record) (topic text : List ℕ) (key : Key)
    → AreFitVersions infos versions → IsAgedFrom identity infos versions start records position table
    → AllByRecursion (λ item. item.position ≤ position) records → HasRowsOfKeys identity infos records table
    → Names identity (course infos versions start table position).infos topic text table key
    → IsKnownIn identity (course infos versions start table position) records
    (moment_after (course infos versions start table position).commits) table key
    → HoldsJsonTexts (held_row identity records topic text)
    (image_row (course infos versions start table position).infos
    (rows (course infos versions start table position).infos (course infos versions start table position).commits
    (moment_after (course infos versions start table position).commits)) table key)
