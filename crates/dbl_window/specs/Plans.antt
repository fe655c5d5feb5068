-- The plan of a window, and its rows. After the DBLog paper, whose chunks these are.
use Rattle.std.specs.Prelude.{◌≡◌, ℕ, ◌<◌, ◌≤◌, ◌^◌, Bool, Option, IfSome, List, length}
use Rattle.std.specs.List.{AllByRecursion}
use Rattle.dbl_model_table.specs.declared.row.Key.{Key}
use Rattle.dbl_model_table.specs.declared.row.Row.{Row}
use Rattle.dbl_model_table.specs.declared.table.TableInfo.{TableInfo}
use Rattle.dbl_model_history.specs.Fit.{IsKeyOf}
use Rattle.dbl_model_history.specs.MarkTexts.{mark_text}
use Rattle.dbl_model_history.specs.MarkTexts.Side.{Low, High}
use Rattle.dbl_window.specs.declared.frame.Frame.{Frame}
use Rattle.dbl_window.specs.Changing.{FitsRow}

-- The plan of a window: its table's description and index among the captured ones, the key after which the window begins, the limit of its
-- rows, the two numbers of its watermarks, and the version of the table that the description is of.
pub record Plan : Type 0 where
  pub info : TableInfo
  pub table : ℕ
  pub above : Option Key
  pub limit : ℕ
  pub incarnation : ℕ
  pub number : ℕ
  pub version : ℕ

-- The rows of a window, in key order; the last key that it read, or the one after which it began if it read none; and whether it read its
-- table to the end.
pub record Chunk : Type 0 where
  pub plan : Plan
  pub rows : List (Key × Row)
  pub through : Option Key
  pub done : Bool

-- The text of a window's low watermark.
abbrev pub low_text : Plan → List ℕ
low_text plan = mark_text plan.incarnation plan.number Low

-- The text of a window's high watermark.
abbrev pub high_text : Plan → List ℕ
high_text plan = mark_text plan.incarnation plan.number High

-- The plan of a window with this frame.
abbrev pub plan_of : Frame → Plan
plan_of frame = record {
  info = frame.info;
  table = frame.table;
  above = frame.above;
  limit = frame.limit;
  incarnation = frame.incarnation;
  number = frame.number;
  version = frame.version;
}

-- For private clauses: whether a window is to read at least one row, after a key of the table's, and its numbers have 64 bits.
pub record IsFrame (frame : Frame) : Type 0 where
  pub some : 1 ≤ frame.limit
  pub start : IfSome frame.above (IsKeyOf frame.info)
  pub incarnation : frame.incarnation < 2 ^ 64
  pub number : frame.number < 2 ^ 64

-- For private clauses: the invariant of the fields of a window with the texts of its watermarks.
pub record IsNamed (frame : Frame) (low high : List ℕ) : Type 0 where
  pub is : IsFrame frame
  pub low_is : low ≡ low_text (plan_of frame)
  pub high_is : high ≡ high_text (plan_of frame)

-- The invariant of every chunk: its rows match their table, each at its own key, and are at most as many as were requested; and its last
-- key is of the table's key types.
pub record IsFitChunk (info : TableInfo) (limit : ℕ) (rows : List (Key × Row)) (through : Option Key) : Type 0 where
  pub each : AllByRecursion (FitsRow info) rows
  pub few : length rows ≤ limit
  pub last : IfSome through (IsKeyOf info)

-- For private clauses: the invariant of the fields of a window with rows.
pub record IsHeld (frame : Frame) (low high : List ℕ) (rows : List (Key × Row)) (through : Option Key) : Type 0 where
  pub named : IsNamed frame low high
  pub fit : IsFitChunk frame.info frame.limit rows through
