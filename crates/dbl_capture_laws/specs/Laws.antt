-- A session's state is ready after each step, for any source, sink and store.
use Rattle.std.specs.Prelude.{◌≡◌, ℕ, Some, None, List, ◌∷◌}
use Rattle.dbl_base.specs.declared.lsn.Lsn.{Lsn}
use Rattle.dbl_pgmsg.specs.declared.messages.Message.{Message}
use Rattle.dbl_record.specs.declared.record.Record.{Record}
use Rattle.dbl_model_table.specs.declared.change.Commit.{Commit}
use Rattle.dbl_capture_work.specs.ModelCommit.declared.piece.Piece.TheVariants.{Nothing}
use Rattle.dbl_capture_work.specs.Follow.Followed.{Following}
use Rattle.dbl_capture_work.specs.Follow.Steps.{records_by}
use Rattle.dbl_capture_work.specs.declared.work.SessionState.{SessionState}
use Rattle.dbl_capture_work.specs.Takes.{HasTakenPiece, WasStepped, WasTaken}
use Rattle.dbl_capture_work.specs.Works.{AreShort, HasOpen, HasReadyWork, IsAmidWork, IsArmedWork, IsOpenTable, IsWork, rest_in, resting}

-- A session that has read a window is ready.
abbrev pub WindowsLeaveItReady : Type 0
WindowsLeaveItReady = (old new : SessionState) (table : ℕ) → HasReadyWork old → IsOpenTable old table → IsArmedWork table old new
    → HasReadyWork new

-- A session that has taken a message without changes and without a commit is ready.
abbrev pub MessagesLeaveItReady : Type 0
MessagesLeaveItReady = (after : Lsn) (ms : List Message) (bytes : List ℕ) (old new : SessionState) (ahead : HasOpen ms old)
    → IsWork after ms (rest_in ahead) → HasTakenPiece after ms bytes old new Nothing → HasReadyWork new

-- A session that has followed changes of the open transaction is ready.
abbrev pub PartsLeaveItReady : Type 0
PartsLeaveItReady = (after : Lsn) (ms : List Message) (bytes : List ℕ) (old next new : SessionState) (ahead : HasOpen ms old)
    (put : List Record) → IsWork after ms (rest_in ahead) → (w : WasTaken after ms bytes old next None)
    → IsAmidWork (w.message ∷ ms) ahead.start put new → new ≡ record next { follower = new.follower; batch = new.batch } → HasReadyWork new

-- A session that has followed a commit is ready.
abbrev pub CommitsLeaveItReady : Type 0
CommitsLeaveItReady = (after : Lsn) (ms : List Message) (bytes : List ℕ) (commit : Commit) (old next new : SessionState) (start : Following)
    → IsWork after ms (resting start old) → WasTaken after ms bytes old next (Some commit) → WasStepped commit (resting start next) new
    → AreShort (records_by start commit next.now_ms) → HasReadyWork new

-- A session that has stored an offset is ready.
abbrev pub StoresLeaveItReady : Type 0
StoresLeaveItReady = (old new : SessionState) → new ≡ record old { since = 0 } → HasReadyWork old → HasReadyWork new
