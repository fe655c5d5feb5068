-- What a session preserves of its records between two calls: agreement at first delivery, how stale a consumer's cells are, in every table,
-- and that each of a consumer's rows is at a key. After the DBLog paper, made exact.
use Rattle.std.specs.Prelude.{◌≡◌, ℕ, Some, List}
use Rattle.dbl_record.specs.declared.record.Record.{Record}
use Rattle.dbl_record.specs.Consumers.{HeldCells}
use Rattle.dbl_model_table.specs.declared.identity.Identity.{Identity}
use Rattle.dbl_model_table.specs.declared.table.TableInfo.{TableInfo}
use Rattle.dbl_consume_laws.specs.Ages.{held_row}
use Rattle.dbl_consume_courses.specs.Versions.{Versioned}
use Rattle.dbl_consume_courses.specs.AlteredTables.{AgreesInCourse}
use Rattle.dbl_consume_courses.specs.AgesBetween.{AreAgedBetween}
use Rattle.dbl_consume_courses.specs.KeyRows.{IsRowOfKey}

-- Whether each row of a consumer of the records is at the topic and text of a captured table and a key, with a cell in each key column.
-- Its other columns may be those before an alteration.
pub record HasKeyedRows (identity : Identity) (infos : List TableInfo) (records : List Record) : Type 0 where
  pub each : (topic text : List ℕ) (cells : HeldCells) → held_row identity records topic text ≡ Some cells
      → (table : ℕ) × IsRowOfKey identity infos table topic text cells

-- Whether records agree up to a position that was delivered, from that of the stored offset on: they are aged from each position between
-- the two, they agree at each first delivery, and each row of a consumer is at a key of its table.
pub record AgreesUpTo (identity : Identity) (infos : List TableInfo) (versions : List Versioned) (start : ℕ) (records : List Record)
    (low high : ℕ) : Type 0 where
  pub aged : AreAgedBetween identity infos versions start records low high
  pub agrees : AgreesInCourse identity infos versions start records
  pub keyed : HasKeyedRows identity infos records
