-- The state of a source, and what a crash leaves of it. The premises of the DBLog paper, made exact.
use Rattle.std.specs.Prelude.{Option, Result, IfOk, List}
use Rattle.dbl_base.specs.declared.lsn.Lsn.{Lsn}
use Rattle.dbl_model_commit.specs.Pgmsg.declared.messages.Message.{Message}
use Rattle.dbl_model_commit.specs.ModelHistory.History.{History}

-- The messages read since the last start that began reading, the newest first, and the LSN after which it began.
pub record Reading : Type 0 where
  pub after : Lsn
  pub messages : List Message

-- The state of a source: its catalogue and commits; the confirmed position, up to which the log may be dropped; and the messages read, None
-- before a start and after one that found its log gone.
pub record SourceState : Type 0 where
  pub history : History
  pub confirmed : Lsn
  pub reading : Option Reading

-- The state of a source after a crash: a reader has to start again.
pub record CrashState : Type 0 where
  pub history : History
  pub confirmed : Lsn

-- The state after a crash that changes nothing else.
abbrev pub left_of : SourceState → CrashState
left_of s = record { history = s.history; confirmed = s.confirmed }

-- Whether the source has a state with the property P.
pub record HasState {S : Type 0} (stands : S → SourceState → Type 0) (source : S) (P : SourceState → Type 0) : Type 0 where
  pub standing : SourceState
  pub is : stands source standing
  pub holds : P standing

-- Whether a call leads from every state of the source to a state of the new source, and P relates its answer and both states, unless it
-- returns an error.
abbrev pub MovesTo : {S T E : Type 0} → (S → SourceState → Type 0) → S → S → Result T E → (T → SourceState → SourceState → Type 0) → Type 0
MovesTo stands old new result P = (s : SourceState) → stands old s → IfOk result (λ answer. HasState stands new (P answer s))
