-- Calls of a session over sources, sinks and stores of any kind, in terms of what these represent.
use Rattle.std.specs.Prelude.{ℕ, ℤ, List}
use Rattle.dbl_disk.specs.Model.{DiskModel}
use Rattle.dbl_topic.specs.Model.{SinkModel}
use Rattle.dbl_model_table.specs.declared.config.Config.{Config}
use Rattle.dbl_source.specs.Model.{SourceModel}
use Rattle.dbl_capture_laws.specs.OffsetStore.Stores.{IsStore, StoreOn, disk_of}
use Rattle.dbl_capture_laws.specs.CaptureModel.Entries.{HadOwnTables}
use Rattle.dbl_capture_laws.specs.Sessions.{LeavesGoing}
use Rattle.dblog_promise.specs.Restarts.{After, ByPromise, FoundStores, restart_at, source_of}

-- A session was called at this time with a conforming source, and ended with any answer. What source, sink and store may leave meets the
-- session's clause, if the session found the stored offset's tables; `new` is one choice of it, with bytes that a crash may leave of the
-- store's disk.
pub record ByCall {S K D : Type 0} (source_model : SourceModel S) (sink_model : SinkModel K) (model : DiskModel D) (config : Config)
    (old new : FoundStores) : Type 0 where
  pub now : ℤ
  pub src : S
  pub sink : K
  pub store : StoreOn D
  pub crashed : List ℕ
  pub was_honest : source_model.honest src
  pub leaves : HadOwnTables (restart_at config now old)
      → LeavesGoing source_model.may_leave sink_model.may_leave model (restart_at config now old) src sink store
  pub may_source_leave : source_model.may_leave src (source_of new)
  pub may_sink_leave : sink_model.may_leave sink new.groups
  pub may_disk_leave : model.may_leave (disk_of store) crashed
  pub is_store : IsStore crashed new.offset

-- Any number of such calls keep the session's guarantees.
abbrev pub CallsKeepPromises : {S K D : Type 0} → SourceModel S → SinkModel K → DiskModel D → Type 0
CallsKeepPromises source_model sink_model model = (first last : FoundStores) (sessions : List Config)
    → After (ByCall source_model sink_model model) first sessions last → After ByPromise first sessions last
