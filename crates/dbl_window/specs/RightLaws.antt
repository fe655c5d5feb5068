-- Windows are right: theorems about the steps of a window, one after the other.
use Rattle.std.specs.Prelude.{◌≡◌, ℕ, ◌+◌, Some, List, ◌++◌, length, slice_get}
use Rattle.dbl_model_table.specs.declared.table.TableInfo.{TableInfo}
use Rattle.dbl_model_table.specs.Rows.{all_changes}
use Rattle.dbl_model_history.specs.History.{RawCommit, History}
use Rattle.dbl_model_history.specs.Typed.{typed}
use Rattle.dbl_model_event.specs.declared.closed.Closed.{Closed}
use Rattle.dbl_consume_laws.specs.Windows.{IsRightWindow}
use Rattle.dbl_source.specs.SourceModel.Growth.{Marks}
use Rattle.dbl_window.specs.Plans.{Chunk, low_text, high_text}
use Rattle.dbl_window.specs.Changing.{AreLeft}
use Rattle.dbl_window.specs.Selected.{IsSelected}
use Rattle.dbl_window.specs.Promise.{moment_after_first, KeepsPromise}
use Rattle.dbl_window.specs.Laws.{between}

-- Whether the new history extends the old one by commits of any clients.
abbrev pub ExtendsHistory : History → History → Type 0
ExtendsHistory old new = (more : List RawCommit) × (new.commits ≡ old.commits ++ more)

-- The number of commits up to and including a watermark's.
abbrev pub upto_mark : {value : List ℕ} {old new : History} → Marks value old new → ℕ
upto_mark {value} {old} {new} marks = length old.commits + length marks.before + 1

-- Whether a window wrote its low watermark, selected its rows, and wrote its high watermark, in a history that grew between these steps and
-- after them to what it is now.
pub record WasSelected (infos : List TableInfo) (now : History) (held : Chunk) : Type 0 where
  pub first : History
  pub marked : History
  pub low : Marks (low_text held.plan) first marked
  pub called : History
  pub returned : History
  pub after_low : ExtendsHistory marked called
  pub while_selected : ExtendsHistory called returned
  pub selected : IsSelected infos returned (length called.commits) (length returned.commits) held
  pub asked : History
  pub last : History
  pub before_high : ExtendsHistory returned asked
  pub high : Marks (high_text held.plan) asked last
  pub after_high : ExtendsHistory last now

-- A window that was selected between its watermarks, saw the changes between them, and keeps its promise when it is closed, is right at its
-- high watermark.
abbrev pub WindowsAreRight : Type 0
WindowsAreRight = (infos : List TableInfo) (now : History) (held opened : Chunk) (closed : Closed) (was : WasSelected infos now held)
    → slice_get infos held.plan.table ≡ Some held.plan.info → opened ≡ record held { rows = opened.rows }
    → AreLeft infos held.plan.table held.rows (between infos now (upto_mark was.low) (upto_mark was.high)) opened.rows
    → KeepsPromise opened closed
    → IsRightWindow infos (all_changes (typed infos now)) (moment_after_first (typed infos now) (upto_mark was.low))
    (moment_after_first (typed infos now) (upto_mark was.high)) held.plan.above closed
