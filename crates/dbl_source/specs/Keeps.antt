-- What calls keep of a source.
use Rattle.std.specs.Prelude.{◌≡◌, [], IsTrue, Result, Err, OnOk}
use Rattle.dbl_base.specs.Streams.{FailsOnlyIfCounted}
use Rattle.dbl_source_model.specs.Leaves.{Leaves, LeavesSome}
use Rattle.dbl_source_model.specs.Standings.{CrashState, SourceState}
use Rattle.dbl_source_model.specs.Trace.{Done, IsTakenBy, LastAnswerIs}
use Rattle.dbl_source.specs.Model.{SourceModel}

-- What every call keeps of a source: it can be used after Ok, conformed before if it does after, extends the old one, and failed only if
-- its count of faults rose.
pub record KeepsSource {S T E : Type 0} (source_model : SourceModel S) (src new_src : S) (result : Result T E) (failed : E) : Type 0 where
  pub live : OnOk result (IsTrue (source_model.is_live new_src))
  pub honest : source_model.honest new_src → source_model.honest src
  pub comes : source_model.comes_of src new_src
  pub cause : FailsOnlyIfCounted (result ≡ Err failed) (source_model.faults src) (source_model.faults new_src)

-- A call that reads no message, for every result: P relates the state before it and what a crash may leave, which is something, and what
-- was read since the last start stays.
pub record ReadsNothing {S : Type 0} (source_model : SourceModel S) (src new_src : S) (P : SourceState → CrashState → Type 0) : Type 0 where
  pub left : Leaves source_model.stands source_model.may_leave src new_src P
  pub some : LeavesSome source_model.stands source_model.may_leave src new_src
  pub still : (s t : SourceState) → source_model.stands src s → source_model.stands new_src t → t.reading ≡ s.reading
  pub taken : IsTakenBy [] (source_model.told src) (source_model.told new_src)

-- The last call, which wrote something, was answered, and reading goes on as before.
pub record AnswersDone {S T E : Type 0} (source_model : SourceModel S) (src new_src : S) (result : Result T E) : Type 0 where
  pub done : OnOk result (LastAnswerIs (source_model.told new_src) Done)
  pub reading : source_model.is_reading new_src ≡ source_model.is_reading src
