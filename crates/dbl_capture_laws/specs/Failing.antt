-- The batch of records whose append failed: the next one of those that come next.
use Rattle.std.specs.Prelude.{◌≡◌, ◌⊎◌, ℤ, ◌-◌, ◌++◌, take, Option, Some, IsSome, List, ◌∷◌, length}
use Rattle.dbl_base.specs.declared.lsn.Lsn.{Lsn}
use Rattle.dbl_pgmsg.specs.declared.messages.Message.{Message}
use Rattle.dbl_record.specs.declared.record.Record.{Record}
use Rattle.dbl_record.specs.Cuts.{cut}
use Rattle.dbl_topic.specs.Model.{SinkModel}
use Rattle.dbl_topic.specs.Sinks.{IsLeftByPut}
use Rattle.dbl_model_table.specs.declared.change.Commit.{Commit}
use Rattle.dbl_model_table.specs.declared.config.Config.{Config}
use Rattle.dbl_model_table.specs.declared.identity.Identity.{Identity}
use Rattle.dbl_model_table.specs.declared.table.TableInfo.{TableInfo}
use Rattle.dbl_capture_work.specs.ModelCommit.Past.{begin_of}
use Rattle.dbl_capture_work.specs.ModelCommit.Stated.{commits_of, ended_commit}
use Rattle.dbl_capture_work.specs.ModelEvent.EventJson.{envelopes}
use Rattle.dbl_capture_work.specs.SourceModel.Standings.{Reading, SourceState}
use Rattle.dbl_capture_work.specs.Offset.declared.offset.Offset.{Offset}
use Rattle.dbl_capture_work.specs.Works.{open_commit}
use Rattle.dbl_capture_laws.specs.Found.{HasStored}
use Rattle.dbl_capture_laws.specs.Gained.{AreSent, IsSentFor, Making, making_of}
use Rattle.dbl_capture_laws.specs.Reported.{BeginsAfter}

-- The records of an open transaction so far, except the last one, which is held back.
abbrev pub all_but_last : Identity → List TableInfo → Commit → ℤ → List Record
all_but_last identity infos commit now = take (length (envelopes identity infos commit now) - 1) (envelopes identity infos commit now)

-- The records come next after those of the earlier messages: they are those of the commit that the message ends, or of the window that it
-- closes; or they are those so far, except the last one, of the transaction that the message leaves open.
abbrev pub AreNext : Making → Message → List Message → List Record → Type 0
AreNext by message earlier records =
    ((commit : Commit) × (ended_commit by.infos message earlier ≡ Some commit) × IsSentFor by commit records)
    ⊎ (IsSome (begin_of (message ∷ earlier))
    × (records ≡ all_but_last by.identity by.infos (open_commit by.infos (message ∷ earlier)) by.now))

-- All records of the commits that the earlier messages state were appended. Of the records that come next the batches before `group` were
-- appended; the append of `group` failed, and some first records of it may be left.
pub record FailsAt {K : Type 0} (sink_model : SinkModel K) (groups : List (List Record)) (by : Making) (after : Lsn) (message : Message)
    (earlier : List Message) (sink : K) : Type 0 where
  pub records : List Record
  pub sent : AreSent by after.0 (commits_of by.infos earlier) records
  pub next : List Record
  pub next_are : AreNext by message earlier next
  pub put : List Record
  pub group : List Record
  pub later : List (List Record)
  pub batches : cut next ≡ cut put ++ group ∷ later
  pub left : (found : List (List Record)) → sink_model.may_leave sink found → IsLeftByPut (groups ++ (cut records ++ cut put)) group found
  pub some : (found : List (List Record)) × sink_model.may_leave sink found
  pub fails : sink_model.fails_at sink group

-- The batch whose append failed is the next one at the newest message that was read, by the source's state.
pub record FailsNext {K : Type 0} (sink_model : SinkModel K) (groups : List (List Record)) (config : Config) (now : ℤ)
    (old new : Option Offset) (sink : K) (t : SourceState) : Type 0 where
  pub stored : HasStored config old new
  pub reading : Reading
  pub reading_is : t.reading ≡ Some reading
  pub begins_after : BeginsAfter old new stored.offset.infos reading.after
  pub newest : Message
  pub earlier : List Message
  pub parted : reading.messages ≡ newest ∷ earlier
  pub at : FailsAt sink_model groups (making_of stored.offset now config.chunk) reading.after newest earlier sink
