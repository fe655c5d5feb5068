-- One more message was read: the reader after it; and the rows that the store shows.
use Rattle.std.proofs.Common.{◌≡◌, ◌∙◌, ◌⊎◌, ℕ, Option, None, Some, List, [], refl, sym, ap, subst, inl, inr, ◌+◌}
use Rattle.std.specs.Prelude.{slice_get, Ok, Err}
use Rattle.dbl_disk.specs.Model.{DiskModel}
use Rattle.dbl_pgmsg.specs.declared.messages.RelationColumn.{RelationColumn}
use Rattle.dbl_model_table.specs.declared.row.Key.{Key}
use Rattle.dbl_model_table.specs.declared.table.RawRow.{RawRow}
use Rattle.dbl_model_table.specs.declared.table.TableName.{TableName}
use Rattle.dbl_source.specs.SourceLog.declared.logged.Logged.{Logged}
use Rattle.dbl_source.specs.SourceLog.declared.reader_position.ReaderPosition.{ReaderPosition}
use Rattle.dbl_base.specs.declared.lsn.Lsn.{Lsn}
use Rattle.dbl_source.specs.SourceLog.Numbers.{commits_upto}
use Rattle.dbl_source.specs.SourceLog.Sent.{index_of, told_at, IsPlaceIn}
use Rattle.dbl_source.specs.SourceLog.TextRows.{TextRows}
use Rattle.dbl_source.specs.SourceLog.Readings.{IsNext}
use Rattle.dbl_source.specs.SourceLog.declared.reading.Step.{Step}
use Rattle.dbl_demo_workload.specs.TablesRows.declared.demo_table.DemoTable.{DemoTable}
use Rattle.dbl_demo_workload.specs.TablesRows.declared.error.StepError.TheVariants as errors
use Rattle.dbl_demo_workload.specs.TablesRows.Acts.{Accepted}
use Rattle.dbl_demo_workload.specs.TablesRows.Seen.{committed_rows}
use Rattle.dbl_demo_workload.specs.TablesRows.Selects.{SelectsAt, SelectsCommitted}
use Rattle.dbl_demo_workload.specs.TablesRows.Sending.{log_tables}
use Rattle.dbl_demo_workload.specs.TablesRows.Steps.{FoundTable, found}
use Rattle.dbl_demo_workload.specs.DemoWal.Shown.{AreRowsShown, ShownAt}
use Rattle.dbl_demo_workload.specs.DemoWal.Sound.{logged_in}
use Rattle.dbl_demo_workload.specs.DemoWal.Wals.{Wal}
use Rattle.dbl_demo_laws.specs.Demo.{AreRecalled, Demo, IsReader, IsRunning}
use Rattle.dbl_demo_laws.specs.Reading.{ReadOne}

-- ---- the reader

module _ {D : Type 0} (model : DiskModel D) (old : Demo D) (wal : Wal) (place : ReaderPosition) (running : IsRunning model wal old) (at : old.place ≡ Some place) (step : Step) (next : IsNext old.tables (logged_in wal.entries) place step) where
  abbrev log : List Logged
  log = logged_in wal.entries

  -- what is held after it: nothing, or what was held, where the place is in the same commit
  module _ (described : List (ℕ × List RelationColumn)) (held : Option Logged) (describes : AreRecalled described (told_at old.tables (logged_in wal.entries) step.place)) (holds : (held ≡ None) ⊎ ((held ≡ old.held) × (step.place.commits ≡ place.commits))) where
    abbrev subsequent : Demo D
    subsequent = record old { place = Some step.place; described = described; held = held }

    same_index : step.place.commits ≡ place.commits → index_of step.place ≡ index_of place
    same_index commits = ap (λ (lsn : Lsn). commits_upto lsn + step.place.commits) next.same ∙ ap (λ (n : ℕ). commits_upto place.after + n) commits

    held_there : (logged : Logged) → held ≡ Some logged → slice_get log (index_of step.place) ≡ Some logged
    held_there logged is = by holds
      where
        by : (held ≡ None) ⊎ ((held ≡ old.held) × (step.place.commits ≡ place.commits)) → slice_get log (index_of step.place) ≡ Some logged
        by (inl none) = absurd (let wrong : None ≡ Some logged = sym none ∙ is in cc)
        by (inr kept) = ap (slice_get log) (same_index kept.1) ∙ running.reader.held_is place logged at (sym kept.0 ∙ is)

    reader_after : IsReader old.tables log (Some step.place) described held
    reader_after = record {
      placed = λ p is. (let same : step.place ≡ p = cc in subst (IsPlaceIn log) same next.placed);
      recalled = λ p is. (let same : step.place ≡ p = cc in subst (λ (q : ReaderPosition). AreRecalled described (told_at old.tables log q)) same describes);
      held_is = λ p logged is holds_it. (let same : step.place ≡ p = cc in subst (λ (q : ReaderPosition). slice_get log (index_of q) ≡ Some logged) same (held_there logged holds_it));
    }

    pub read_after : ReadOne model wal place subsequent step.bytes
    read_after = record {
      next = step.place;
      is = refl;
      same = next.same;
      message = next.message;
      spelled = next.spelled;
      told = next.told;
      running = record {
        lists = running.lists;
        is = running.is;
        few = running.few;
        names = running.names;
        tables = running.tables;
        steps = running.steps;
        stands = running.stands;
        silent = running.silent;
        commits = running.commits;
        confirmed = running.confirmed;
        reader = reader_after;
      };
    }

-- ---- the rows of the store

module _ (tables : List DemoTable) (past : List Accepted) (name : TableName) (above : Option Key) (limit : ℕ) where
  abbrev rows_there : TextRows
  rows_there = committed_rows (log_tables tables) past

  pub rows_found : (rows : List RawRow) → SelectsCommitted tables past name above limit (Ok rows) → AreRowsShown tables past name above limit rows
  rows_found rows selects = by (found tables name) selects
    where
      by : (o : Option FoundTable) → SelectsAt rows_there above limit o (Ok rows) → ShownAt rows_there above limit o rows
      by None never = absurd never
      by (Some there) shown = shown

  -- a table that isn't there
  pub rows_unknown : SelectsCommitted tables past name above limit (Err errors.UnknownTable) → AreRowsShown tables past name above limit []
  rows_unknown selects = by (found tables name) selects
    where
      by : (o : Option FoundTable) → SelectsAt rows_there above limit o (Err errors.UnknownTable) → ShownAt rows_there above limit o []
      by None told = refl
      by (Some there) memory = absurd (let wrong : errors.UnknownTable ≡ errors.Memory = memory in cc)
