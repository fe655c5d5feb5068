-- Where no table is altered, the staleness in the courses of all tables is that in the history.
use Rattle.std.specs.Prelude.{◌≡◌, ◌↔◌, ℕ, ◌≤◌, None, List, map}
use Rattle.std.specs.List.{AllByRecursion}
use Rattle.dbl_record.specs.declared.record.Record.{Record}
use Rattle.dbl_model_table.specs.declared.identity.Identity.{Identity}
use Rattle.dbl_model_table.specs.declared.table.TableInfo.{TableInfo}
use Rattle.dbl_model_table.specs.Rows.{moment_at}
use Rattle.dbl_consume_laws.specs.Ages.{IsAged}
use Rattle.dbl_consume_courses.specs.Versions.{Versioned, plain_commit}
use Rattle.dbl_consume_courses.specs.AlteredTables.{IsOwnAged}
use Rattle.dbl_consume_courses.specs.FitVersions.{AreFitVersions}
use Rattle.dbl_consume_courses.specs.Growth.{course_of}
use Rattle.dbl_consume_courses.specs.CourseAges.{own_from}

-- Whether none of the commits alters a table.
abbrev pub ArePlain : List Versioned → Type 0
ArePlain versions = AllByRecursion (λ v. v.altered ≡ None) versions

-- Records of a log that starts at `start`, all of them from there on, are aged from a position on in a history without alterations exactly
-- if they are so in the course of each table.
abbrev pub PlainTablesAge : Type 0
PlainTablesAge = (identity : Identity) (infos : List TableInfo) (versions : List Versioned) (start position : ℕ) (records : List Record)
    → AreFitVersions infos versions → ArePlain versions → AllByRecursion (λ item. start ≤ item.position) records → start ≤ position
    → IsAged identity infos (map plain_commit versions) (moment_at (map plain_commit versions) start) records
    (moment_at (map plain_commit versions) position)
    ↔ ((table : ℕ) → IsOwnAged identity (course_of infos start table versions) records
    (own_from (course_of infos start table versions) position) table)
