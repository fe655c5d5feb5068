-- How reading a window changes a source.
use Rattle.std.specs.Prelude.{◌≡◌, ℕ, List, [], ◌∷◌, length, take}
use Rattle.dbl_model_table.specs.declared.table.TableInfo.{TableInfo}
use Rattle.dbl_model_history.specs.History.{RawCommit, History}
use Rattle.dbl_source_model.specs.Growth.{Grows, Marks, marks_in}
use Rattle.dbl_source_model.specs.Standings.{SourceState, CrashState, HasState}
use Rattle.dbl_capture_model.specs.Faithful.Kept.{HasGrown}
use Rattle.dbl_source.specs.Model.{SourceModel}
use Rattle.dbl_window.specs.Plans.{Plan, Chunk, low_text, high_text}
use Rattle.dbl_window.specs.Selected.{IsCaptured, IsSelected}
use Rattle.dbl_capture_work.specs.declared.work.SessionState.{SessionState}
use Rattle.dbl_capture_work.specs.Works.{IsArmedWork}

-- The rows were selected, and then the high watermark was written, while others may have committed.
pub record WasLooked (honest : Type 0) (plan : Plan) (chunk : Chunk) (s t : SourceState) : Type 0 where
  pub looked : History
  pub rows_are : Grows s.history looked
  pub high_is : Marks (high_text plan) looked t.history
  pub selected : honest → (infos : List TableInfo) → IsCaptured infos s.history plan
      → IsSelected infos looked (length s.history.commits) (length looked.commits) chunk
  pub confirmed : t.confirmed ≡ s.confirmed
  pub reading : t.reading ≡ s.reading

-- The low watermark was written, and then rows and high watermark as in `WasLooked`.
pub record WasWindowed (honest : Type 0) (plan : Plan) (chunk : Chunk) (s t : SourceState) : Type 0 where
  pub marked : History
  pub low_is : Marks (low_text plan) s.history marked
  pub looked : WasLooked honest plan chunk (record s { history = marked }) t

-- The session waits for a window that was read from the source between its watermarks.
pub record HasReadWindow {S : Type 0} (source_model : SourceModel S) (table : ℕ) (old new : SessionState) (s : SourceState) (src : S)
    : Type 0 where
  pub armed : IsArmedWork table old new
  pub stood : HasState source_model.stands src (λ t. WasWindowed (source_model.honest src) armed.chunk.plan armed.chunk s t)

-- ---- what may be left of the source

-- The texts of a window's watermarks, in the order in which they are written.
abbrev pub own_marks : Plan → List (List ℕ)
own_marks plan = low_text plan ∷ high_text plan ∷ []

-- The history may have gained commits of others and a prefix of these watermarks.
pub record MayHaveMarks (values : List (List ℕ)) (s : SourceState) (l : CrashState) : Type 0 where
  pub more : List RawCommit
  pub grown : HasGrown s.history l.history more
  pub count : ℕ
  pub marks : marks_in more ≡ take count values
  pub confirmed : l.confirmed ≡ s.confirmed
