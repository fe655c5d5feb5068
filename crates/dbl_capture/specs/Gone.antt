-- Whether the log after the stored LSN was still there when a session began to read.
use Rattle.std.specs.Prelude.{◌≡◌, Some, Result, Err, OnOk}
use Rattle.dbl_base.specs.declared.lsn.Lsn.{Lsn}
use Rattle.dbl_source.specs.Model.{SourceModel}
use Rattle.dbl_source.specs.SourceModel.Calls.{Moved}
use Rattle.dbl_source.specs.SourceModel.Standings.{SourceState}
use Rattle.dbl_offset.specs.Stores.{StoreOn}
use Rattle.dbl_offset_content.specs.declared.offset.Offset.{Offset}
use Rattle.dbl_capture_work.specs.declared.halt.Halt.{Halt}
use Rattle.dbl_capture_work.specs.declared.halt.Halt.TheVariants as halt

-- At a state between the session's begin and its first read, before which other sessions may have committed: if the session ends normally,
-- the source still has the log after the LSN that was stored; if it ends with the error that this log is gone, the source doesn't have it,
-- and its log begins at the reported position.
pub record TellsIfGone {S D T : Type 0} (source_model : SourceModel S) (src : S) (store : StoreOn D) (result : Result T Halt) : Type 0 where
  pub kept : (s : SourceState) → source_model.stands src s → (stored : Offset) → store.offset ≡ Some stored
      → OnOk result ((t : SourceState) × Moved s t × source_model.keeps_from t stored.lsn)
  pub dropped : (s : SourceState) → source_model.stands src s → (asked first : Lsn) → result ≡ Err (halt.Gone asked first)
      → (t : SourceState) × Moved s t × (¬ source_model.keeps_from t asked) × source_model.begins_at t first
