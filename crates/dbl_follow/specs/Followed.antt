-- The state of a follower of a log: its captured tables, the progress of their snapshots, and the window that waits for its watermarks,
-- after the DBLog paper.
use Rattle.std.specs.Prelude.{◌≡◌, ℕ, ℤ, ◌≤◌, Option, Some, None, List, length, slice_get}
use Rattle.dbl_record.specs.declared.record.Record.{Record}
use Rattle.dbl_model_table.specs.declared.identity.Identity.{Identity}
use Rattle.dbl_model_table.specs.declared.table.TableInfo.{TableInfo}
use Rattle.dbl_model_table.specs.declared.change.Head.{Head}
use Rattle.dbl_model_history.specs.declared.cursor.Cursor.{Cursor}
use Rattle.dbl_model_history.specs.Cursors.{AreCursorsOf}
use Rattle.dbl_envelope.specs.Writers.{Captured}
use Rattle.dbl_envelope.specs.SoFar.{HasMadeRecords, made_by}
use Rattle.dbl_model_event.specs.Snapshots.{AreInKeyOrder, FitsChunk}
use Rattle.dbl_window.specs.Plans.{Plan, Chunk, low_text, high_text}
use Rattle.dbl_window.specs.Promise.{closed_of}
use Rattle.dbl_follow.specs.declared.part.Part.{Part}
use Rattle.dbl_follow.specs.declared.window.Window.{Window}
use Rattle.dbl_follow.specs.declared.window.Window.TheVariants.{Absent, Armed, Open}

-- The open transaction, of which a change was followed.
pub record OpenPart : Type 0 where
  -- Its Begin.
  pub head : Head
  -- When its records were made, in milliseconds since 1970-01-01 UTC.
  pub now : ℤ
  -- The number of its records so far.
  pub made : ℕ
  -- The last of them, marked as the last of its commit.
  pub held : Record

-- The state of a follower.
pub record Following : Type 0 where
  pub identity : Identity
  pub infos : List TableInfo
  -- The progress of each captured table's snapshot.
  pub cursors : List Cursor
  pub window : Window
  pub part : Option OpenPart

-- The part of the open transaction as contracts see it.
abbrev pub part_of : Part → OpenPart
part_of part = record { head = part.head; now = part.now_ms; made = made_by part.records; held = part.held }

-- The watermark for which a window waits: its low one while it is armed, its high one while it is open.
abbrev pub awaited : Window → Option (List ℕ)
awaited Absent = None
awaited (Armed chunk) = Some (low_text chunk.plan)
awaited (Open chunk) = Some (high_text chunk.plan)

-- Whether the rows of a waiting window match its table, each at its own key.
abbrev pub FitsWindow : Window → Type 0
FitsWindow Absent = Unit {0}
FitsWindow (Armed chunk) = FitsChunk chunk.plan.info (closed_of chunk)
FitsWindow (Open chunk) = FitsChunk chunk.plan.info (closed_of chunk)

-- Whether the window's table is captured, with this description.
abbrev pub IsPlanOfCaptured : List TableInfo → Plan → Type 0
IsPlanOfCaptured infos plan = slice_get infos plan.table ≡ Some plan.info

-- For private clauses: whether an open window's table is captured with this description, and its rows are in key order.
pub record IsOpenOf (infos : List TableInfo) (chunk : Chunk) : Type 0 where
  pub planned : IsPlanOfCaptured infos chunk.plan
  pub ordered : AreInKeyOrder chunk.rows

-- Whether a window, if there is one, is of a captured table.
abbrev pub IsWindowOf : List TableInfo → Window → Type 0
IsWindowOf infos Absent = Unit {0}
IsWindowOf infos (Armed chunk) = IsPlanOfCaptured infos chunk.plan
IsWindowOf infos (Open chunk) = IsOpenOf infos chunk

-- For private clauses: whether the records of the open transaction, if any, are made for its Begin and for the writer's tables.
abbrev pub IsOpenPartOf : Captured → Option Part → Type 0
IsOpenPartOf captured None = Unit {0}
IsOpenPartOf captured (Some part) = HasMadeRecords captured part.head part.now_ms (made_by part.records) part.records

-- For private clauses: the invariant of a follower's fields.
pub record IsFollowing (captured : Captured) (cursors : List Cursor) (window : Window) (part : Option Part) : Type 0 where
  pub few : length captured.infos ≤ 64
  pub cursors_are : AreCursorsOf captured.infos cursors
  pub window_is : IsWindowOf captured.infos window
  pub part_is : IsOpenPartOf captured part
