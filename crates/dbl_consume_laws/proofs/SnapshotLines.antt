-- The lines of a closed window's records are read back.
use Rattle.std.proofs.Common.{◌≤◌, ◌<◌, ◌^◌, ◌+◌, ℕ, ℤ, List, [], ◌∷◌, ◌++◌, Bool, Option, Some, None, length, refl, arith, codes}
use Rattle.std.specs.Prelude.{IfSome, option_map, unwrap_or, slice_get}
use Rattle.std.specs.List.{AllByRecursion}
use Rattle.serde_json.specs.Data.{null}
use Rattle.dbl_record.specs.Laws.{HoldsData}
use Rattle.dbl_model_event.specs.declared.closed.Closed.{Closed}
use Rattle.dbl_model_table.specs.declared.identity.Identity.{Identity}
use Rattle.dbl_model_table.specs.declared.row.Key.{Key}
use Rattle.dbl_model_table.specs.declared.row.Row.{Row}
use Rattle.dbl_model_table.specs.declared.table.TableInfo.{TableInfo}
use Rattle.dbl_model_table.specs.declared.change.Commit.{Commit}
use Rattle.dbl_model_history.specs.Image.{key_data}
use Rattle.dbl_model_history.specs.Ranges.{AreValuesInRange, IsCommitInRange, IsMomentInRange}
use Rattle.dbl_model_event.specs.EventJson.{row_data, source_data, event_data}
use Rattle.dbl_model_event.specs.Snapshots.{read_record, read_records, progress_key, last_data, progress_data, progress_record, chunk_records}
use Rattle.dbl_consume_laws.specs.Laws.{IsReadBack, IsWindowInRange, SnapshotLinesAreRead}
use Rattle.dbl_consume_laws.proofs.Wholes.{all_fit_in_range, event_whole, event_shallow, progress_whole, progress_shallow, progress_key_whole, progress_key_shallow}
use Rattle.dbl_consume_laws.proofs.Lines.{IsPart, key_is, key_part, null_part, row_part, read_back}

abbrev InRange : List (Key × Row) → Type 0
InRange rows = AllByRecursion (λ e. AreValuesInRange e.0.cells × AreValuesInRange e.1.cells) rows

pub last_part : (info : TableInfo) (through : Option Key) → IfSome through (λ key. AreValuesInRange key.cells) → IsPart (last_data info through)
last_part info None h = null_part
last_part info (Some key) h = key_part info key (all_fit_in_range key.cells h)

module _ (identity : Identity) (info : TableInfo) (commit : Commit) (now : ℤ) (range : IsCommitInRange commit) (moment : IsMomentInRange now) where
  read_holds : (ordinal : ℕ) (e : Key × Row) → ordinal < 2 ^ 64 → AreValuesInRange e.0.cells → AreValuesInRange e.1.cells
      → HoldsData (read_record identity info commit now ordinal e) (key_data info e.0) (event_data (source_data identity info.name commit (codes "incremental")) now null (codes "r") (row_data info e.1.cells))
  read_holds ordinal e low key row =
      let after = row_part info e.1.cells (all_fit_in_range e.1.cells row) in
      record {
        key_is = key_is info (Some e.0) (all_fit_in_range e.0.cells key);
        value_is = record {
          compact = refl;
          whole = event_whole (codes "incremental") identity info.name commit now null (row_data info e.1.cells) (codes "r") range moment tt after.whole;
          shallow = event_shallow (codes "incremental") identity info.name commit now null (row_data info e.1.cells) (codes "r") (omega arith) after.shallow;
        };
        newkey_is = tt;
        oldkey_is = tt;
        ordinal_fits = low;
        position_fits = range.lsn;
      }

  progress_holds : (ordinal : ℕ) (through : Option Key) (done : Bool) → ordinal < 2 ^ 64 → IfSome through (λ key. AreValuesInRange key.cells)
      → HoldsData (progress_record identity info commit ordinal through done) (progress_key info) (progress_data info through done)
  progress_holds ordinal through done low h =
      let last = last_part info through h in
      record {
        key_is = record { compact = refl; whole = progress_key_whole info; shallow = progress_key_shallow info };
        value_is = record { compact = refl; whole = progress_whole info through done last.whole; shallow = progress_shallow info through done last.shallow };
        newkey_is = tt;
        oldkey_is = tt;
        ordinal_fits = low;
        position_fits = range.lsn;
      }

  chunk_back : (ordinal progress : ℕ) (rows : List (Key × Row)) (through : Option Key) (done : Bool) → InRange rows → ordinal + length rows ≤ 2 ^ 63 → progress < 2 ^ 64 → IfSome through (λ key. AreValuesInRange key.cells)
      → AllByRecursion IsReadBack (read_records identity info commit now ordinal rows ++ progress_record identity info commit progress through done ∷ [])
  chunk_back ordinal progress [] through done h few low t = (read_back _ _ _ (progress_holds progress through done low t), tt)
  chunk_back ordinal progress (e ∷ rows) through done h few low t =
      (read_back _ _ _ (read_holds ordinal e (omega (arith, few)) h.0.0 h.0.1), chunk_back (ordinal + 1) progress rows through done h.1 (omega (arith, few)) low t)

window_back : (identity : Identity) (closed : Closed) (commit : Commit) (now : ℤ) (o : Option TableInfo) → IsWindowInRange closed → IsCommitInRange commit → IsMomentInRange now
    → AllByRecursion IsReadBack (unwrap_or (option_map (λ info. chunk_records identity info closed.rows closed.through closed.done commit now) o) [])
window_back identity closed commit now None h range moment = tt
window_back identity closed commit now (Some info) h range moment =
    let few = h.few in
    chunk_back identity info commit now range moment 0 (length closed.rows) closed.rows closed.through closed.done h.rows (omega (arith, few)) (omega (arith, few)) h.through

pub snapshot_lines_are_read : SnapshotLinesAreRead
snapshot_lines_are_read identity infos closed commit now = window_back identity closed commit now (slice_get infos closed.table)
