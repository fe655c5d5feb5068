-- What faithful stores guarantee once every snapshot is done.
use Rattle.std.specs.Prelude.{◌≡◌, ℕ, ◌≤◌, true, Option, Some, List, slice_get}
use Rattle.std.specs.List.{AllByRecursion}
use Rattle.dbl_base.specs.declared.lsn.Lsn.{Lsn}
use Rattle.dbl_record.specs.declared.record.Record.{Record}
use Rattle.dbl_model_table.specs.declared.identity.Identity.{Identity}
use Rattle.dbl_model_table.specs.declared.table.TableInfo.{TableInfo}
use Rattle.dbl_model_table.specs.Rows.{Rows}
use Rattle.dbl_consume_laws.specs.ModelHistory.History.{History}
use Rattle.dbl_consume_laws.specs.ModelHistory.Image.{IsImage}
use Rattle.dbl_consume_laws.specs.ModelHistory.Fit.{IsFitHistory}
use Rattle.dbl_consume_laws.specs.Laws.{HoldsJsonTexts}
use Rattle.dbl_consume_laws.specs.Ages.{held_row}
use Rattle.dbl_offset_content.specs.declared.offset.Offset.{Offset}
use Rattle.dbl_consume_courses.specs.Versions.{version_rows, versions_to}
use Rattle.dbl_consume_courses.specs.Courses.{infos_after}
use Rattle.dbl_consume_courses.specs.VersionStores.{version_to}
use Rattle.dbl_faithful.specs.Stores.{top_position}
use Rattle.dbl_faithful.specs.Faithful.{captured_commits, first_infos, IsFaithfulTo}

-- Whether the rows have an image at this topic and text, and a consumer of the records has exactly it: a row with each cell, or none.
pub record HoldsImage (identity : Identity) (infos : List TableInfo) (rows : Rows) (records : List Record)
    (topic text : List ℕ) : Type 0 where
  pub image : Option (List ℕ → Option (List ℕ))
  pub is : IsImage identity infos rows topic text image
  pub holds : HoldsJsonTexts (held_row identity records topic text) image

-- Whether each table's stored version is the one at the offset's LSN.
abbrev pub AreVersionsInForce : History → Offset → Type 0
AreVersionsInForce history offset = (table version : ℕ) → slice_get offset.versions table ≡ Some version
    → version ≡ version_to (captured_commits history offset) table offset.lsn.0

-- If stores are faithful, every snapshot is done in the version in force and no record is after the offset's LSN, a consumer has exactly
-- the source's tables as they are at that LSN, in the columns in force there.
abbrev pub CompleteStoresAreImages : Type 0
CompleteStoresAreImages = (history : History) (confirmed : Lsn) (records : List Record) (offset : Offset) (topic text : List ℕ)
    → IsFitHistory history → IsFaithfulTo history confirmed records offset
    → AllByRecursion (λ cursor. cursor.done ≡ true) offset.cursors → AreVersionsInForce history offset
    → top_position records ≤ offset.lsn.0
    → HoldsImage offset.identity (infos_after (first_infos history offset) (versions_to offset.lsn.0 (captured_commits history offset)))
    (version_rows (versions_to offset.lsn.0 (captured_commits history offset))) records topic text
