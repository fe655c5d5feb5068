-- The staleness of cells as the records of a closed window are delivered, and the equality that follows for a span of one point.
use Rattle.std.specs.Prelude.{◌≡◌, ℕ, ℤ, ◌≤◌, Option, None, option_map, List, [], ◌++◌, take}
use Rattle.dbl_record.specs.declared.acts.HeldCell.TheVariants.{Known}
use Rattle.dbl_record.specs.declared.record.Record.{Record}
use Rattle.dbl_model_table.specs.declared.identity.Identity.{Identity}
use Rattle.dbl_model_table.specs.declared.row.Key.{Key}
use Rattle.dbl_model_table.specs.declared.table.TableInfo.{TableInfo}
use Rattle.dbl_model_table.specs.declared.change.Commit.{Commit}
use Rattle.dbl_model_event.specs.declared.closed.Closed.{Closed}
use Rattle.dbl_model_table.specs.Rows.{changes_of, all_changes, rows}
use Rattle.dbl_model_history.specs.Ranges.{IsMomentInRange}
use Rattle.dbl_model_history.specs.Image.{Names, image_row}
use Rattle.dbl_model_event.specs.Clashes.{snapshot_clash}
use Rattle.dbl_model_event.specs.SnapshotLists.{IsSnapshot}
use Rattle.dbl_consume_laws.specs.Laws.{HoldsJsonTexts}
use Rattle.dbl_consume_laws.specs.Commits.{moment_after, AreFitCommits, IsCommitAmong}
use Rattle.dbl_consume_laws.specs.Moments.{last_moment}
use Rattle.dbl_consume_laws.specs.KnownKeys.{IsKnown, AreToldUpTo}
use Rattle.dbl_consume_laws.specs.Ages.{held_row, held_cell, source_cell, IsAged, HasNamedRows}
use Rattle.dbl_consume_laws.specs.Windows.{IsRightWindow}

-- Any prefix of the records of a window that is right at its high watermark leaves records aged at that watermark. The low watermark is
-- after the start, and each key up to the window's beginning is covered.
abbrev pub PartsOfSnapshotsKeepAge : Type 0
PartsOfSnapshotsKeepAge = (identity : Identity) (infos : List TableInfo)
    (commits before : List Commit) (mark : Commit) (later : List Commit)
    (start low : ℕ) (above : Option Key) (closed : Closed) (records snapshot : List Record) (now : ℤ) (n : ℕ)
    → IsCommitAmong infos commits before mark later → changes_of mark ≡ [] → IsMomentInRange now
    → IsSnapshot identity infos closed mark now snapshot → snapshot_clash identity infos closed ≡ None
    → IsRightWindow infos (all_changes commits) low (moment_after before) above closed
    → start ≤ low → AreToldUpTo identity infos records closed.table above
    → IsAged identity infos commits start records (moment_after before)
    → IsAged identity infos commits start (records ++ take n snapshot) (moment_after before)

-- If records are aged at a point in the history and reach no later one, a consumer has each cell of a known key as the source has it at
-- that point, none unknown.
abbrev pub AgedCellsAgree : Type 0
AgedCellsAgree = (identity : Identity) (infos : List TableInfo) (commits : List Commit) (start moment : ℕ)
    (records : List Record) (topic text : List ℕ) (table : ℕ) (key : Key)
    → IsAged identity infos commits start records moment → last_moment infos commits start records ≤ moment
    → Names identity infos topic text table key → IsKnown identity infos (all_changes commits) start records moment table key
    → (column : List ℕ)
    → held_cell identity records topic text column
    ≡ option_map Known (source_cell infos (all_changes commits) table key column moment)

-- A consumer of such records has the source's row, or none, at each known key, if its rows are named, as they are if each record is of a
-- commit or of a window (theorem RecordsOfHistoriesAreNamed).
abbrev pub AgedRecordsAgree : Type 0
AgedRecordsAgree = (identity : Identity) (infos : List TableInfo) (commits : List Commit) (start moment : ℕ)
    (records : List Record) (topic text : List ℕ) (table : ℕ) (key : Key)
    → AreFitCommits infos commits → IsAged identity infos commits start records moment → HasNamedRows identity infos records
    → last_moment infos commits start records ≤ moment
    → Names identity infos topic text table key → IsKnown identity infos (all_changes commits) start records moment table key
    → HoldsJsonTexts (held_row identity records topic text) (image_row infos (rows infos commits moment) table key)
