-- Any number of calls of a session.
use Rattle.std.proofs.Common.{Option, subst}
use Rattle.dbl_disk.specs.Model.{DiskModel}
use Rattle.dbl_topic.specs.Model.{SinkModel}
use Rattle.dbl_model_table.specs.declared.config.Config.{Config}
use Rattle.dbl_model_history.specs.Fit.{IsFitHistory}
use Rattle.dbl_source.specs.Model.{SourceModel}
use Rattle.dbl_source.specs.SourceModel.Standings.{CrashState}
use Rattle.dbl_capture_laws.specs.Offset.declared.offset.Offset.{Offset}
use Rattle.dbl_capture_laws.proofs.OffsetStoreLaws.{one_store}
use Rattle.dbl_capture_laws.specs.CaptureModel.Outcomes.{FollowsSession}
use Rattle.dblog_promise.specs.Restarts.{FoundStores, restart_at, source_of, IsRight, ByPromise, nothing, others, session}
use Rattle.dblog_promise.specs.Calls.{ByCall, CallsKeepPromises}
use Rattle.dblog_promise.proofs.Going.{faithful_entries_are_known}

module _ {S K D : Type 0} (source_model : SourceModel S) (sink_model : SinkModel K) (model : DiskModel D)
    (fit : (source : S) (left : CrashState) → source_model.may_leave source left → source_model.honest source → IsFitHistory left.history) where
  follows_by : (config : Config) (old new : FoundStores) (by : ByCall source_model sink_model model config old new) → IsRight old
      → FollowsSession (restart_at config by.now old) (source_of new) new.groups new.offset
  follows_by config old new by right =
      let known = faithful_entries_are_known (restart_at config by.now old) right.fit right.faithful in
      let left = (by.leaves known.0).follows right.faithful by.crashed by.may_disk_leave in
      subst (λ (o : Option Offset). FollowsSession (restart_at config by.now old) (source_of new) new.groups o) (one_store by.crashed left.0 new.offset left.1 by.is_store)
      (left.2 (source_of new) new.groups by.may_source_leave by.may_sink_leave)

  promised : (config : Config) (old new : FoundStores) → ByCall source_model sink_model model config old new → ByPromise config old new
  promised config old new by = record {
    now = by.now;
    fit = λ right. fit by.src (source_of new) by.may_source_leave by.was_honest;
    follows = λ right. follows_by config old new by right;
  }

  pub calls_keep_promises : CallsKeepPromises source_model sink_model model
  calls_keep_promises first _ _ nothing = nothing
  calls_keep_promises first _ _ (others sessions last history after grows fits) = others sessions last history (calls_keep_promises first last sessions after) grows fits
  calls_keep_promises first _ _ (session sessions last new config after leads) =
      session sessions last new config (calls_keep_promises first last sessions after) (promised config last new leads)
