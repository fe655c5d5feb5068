-- The effect of a commit on a follower, and its records.
use Rattle.std.specs.Prelude.{◌≡◌, ℕ, ℤ, Bool, false, if◌then◌else◌, Option, Some, None, List, slice_set, bytes_eq}
use Rattle.dbl_record.specs.declared.record.Record.{Record}
use Rattle.dbl_model_table.specs.declared.row.Key.{Key}
use Rattle.dbl_model_table.specs.declared.row.Row.{Row}
use Rattle.dbl_model_table.specs.declared.table.TableInfo.{TableInfo}
use Rattle.dbl_model_table.specs.declared.change.Body.{Body}
use Rattle.dbl_model_table.specs.declared.change.Body.TheVariants.{Changes, Mark}
use Rattle.dbl_model_table.specs.declared.change.Change.{Change}
use Rattle.dbl_model_table.specs.declared.change.Commit.{Commit}
use Rattle.dbl_model_history.specs.declared.cursor.Cursor.{Cursor}
use Rattle.dbl_model_event.specs.Clashes.{Clash, clash_of, snapshot_clash}
use Rattle.dbl_model_event.specs.EventJson.{envelopes}
use Rattle.dbl_model_event.specs.Snapshots.{AreInKeyOrder, snapshot}
use Rattle.dbl_window.specs.Plans.{Chunk, low_text, high_text}
use Rattle.dbl_window.specs.Changing.{AreLeft}
pub use Rattle.dbl_window.specs.Promise.{closed_of}
use Rattle.dbl_follow.specs.declared.window.Window.{Window}
use Rattle.dbl_follow.specs.declared.window.Window.TheVariants.{Absent, Armed, Open}
use Rattle.dbl_follow.specs.Followed.{Following}

-- The value of the watermark that a commit writes, if it writes one.
abbrev pub watermark_in : Body → Option (List ℕ)
watermark_in (Changes changes) = None
watermark_in (Mark value) = Some value

-- The value of the watermark that a commit writes, if it writes one.
abbrev pub mark_of : Commit → Option (List ℕ)
mark_of commit = watermark_in commit.body

-- Whether a watermark has this text.
abbrev pub has_text : List ℕ → Option (List ℕ) → Bool
has_text text None = false
has_text text (Some value) = bytes_eq value text

-- The chunk that a watermark closes: that of an open window which waits for it. A watermark of another incarnation or number, as one that
-- an earlier session wrote, closes none.
abbrev pub closing : Window → Option (List ℕ) → Option Chunk
closing Absent mark = None
closing (Armed chunk) mark = None
closing (Open chunk) mark = if has_text (high_text chunk.plan) mark then Some chunk else None

-- ---- records

-- The records of a commit, or those of the window's snapshot if it closes a window.
abbrev pub records_of : Following → Option Chunk → Commit → ℤ → List Record
records_of f None commit now = envelopes f.identity f.infos commit now
records_of f (Some chunk) commit now = snapshot f.identity f.infos (closed_of chunk) commit now

-- The records that a follower returns for a commit.
abbrev pub records_by : Following → Commit → ℤ → List Record
records_by f commit now = records_of f (closing f.window (mark_of commit)) commit now

-- The first value equal to the placeholder in these records.
abbrev pub clash_in : Following → Option Chunk → Commit → Option Clash
clash_in f None commit = clash_of f.identity f.infos commit
clash_in f (Some chunk) commit = snapshot_clash f.identity f.infos (closed_of chunk)

-- The first value equal to the placeholder in the records of a commit.
abbrev pub clash_by : Following → Commit → Option Clash
clash_by f commit = clash_in f (closing f.window (mark_of commit)) commit

-- ---- the window and the progress

-- The progress after a window, if any, is closed, which advances its table's progress to its last key.
abbrev pub cursors_after : List Cursor → Option Chunk → List Cursor
cursors_after cursors None = cursors
cursors_after cursors (Some chunk) = slice_set cursors chunk.plan.table (record { last = chunk.through; done = chunk.done })

-- Whether the new window is the old one after changes: an open window keeps the part of its rows that they keep, in key order, and nothing
-- else changes.
abbrev pub Passes : List TableInfo → Window → List Change → Window → Type 0
Passes infos Absent changes new = new ≡ Absent
Passes infos (Armed chunk) changes new = new ≡ Armed chunk
Passes infos (Open chunk) changes new =
    (rows : List (Key × Row)) × (new ≡ Open (record chunk { rows = rows })) × AreLeft infos chunk.plan.table chunk.rows changes rows
    × AreInKeyOrder rows

-- The window after a watermark: its low watermark opens it, and then its high watermark closes it. Others change nothing.
abbrev pub seen_by : Window → List ℕ → Window
seen_by Absent value = Absent
seen_by (Armed chunk) value = if bytes_eq value (low_text chunk.plan) then Open chunk else Armed chunk
seen_by (Open chunk) value = if bytes_eq value (high_text chunk.plan) then Absent else Open chunk

-- Whether the new window is the old one after a commit.
abbrev pub Becomes : List TableInfo → Window → Body → Window → Type 0
Becomes infos window (Changes changes) new = Passes infos window changes new
Becomes infos window (Mark value) new = new ≡ seen_by window value

-- Whether the new follower is the old one after a commit (theorem StepsAreOne). No transaction is open before or after it.
pub record Steps (old : Following) (commit : Commit) (new : Following) : Type 0 where
  pub began : old.part ≡ None
  pub ended : new.part ≡ None
  pub identity : new.identity ≡ old.identity
  pub infos : new.infos ≡ old.infos
  pub cursors : new.cursors ≡ cursors_after old.cursors (closing old.window (mark_of commit))
  pub window : Becomes old.infos old.window commit.body new.window
