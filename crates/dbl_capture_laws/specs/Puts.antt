-- What the sink gains from step to step, and what is left of it when a session stops or ends.
use Rattle.std.specs.Prelude.{◌≡◌, ◌⊎◌, ℕ, ℤ, ◌<◌, ◌≤◌, ◌++◌, ◌∷◌, [], drop, is_some, take, true, false, Option, Some, None, IsSome, List, length}
use Rattle.dbl_base.specs.declared.lsn.Lsn.{Lsn}
use Rattle.dbl_pgmsg.specs.declared.messages.Message.{Message}
use Rattle.dbl_record.specs.declared.record.Record.{Record}
use Rattle.dbl_record.specs.Cuts.{cut}
use Rattle.dbl_model_table.specs.declared.config.Config.{Config}
use Rattle.dbl_model_table.specs.declared.change.Commit.{Commit}
use Rattle.dbl_capture_work.specs.ModelHistory.Ranges.{IsCommitInRange, IsMomentInRange}
use Rattle.dbl_capture_work.specs.ModelCommit.Past.{begin_of}
use Rattle.dbl_capture_work.specs.ModelEvent.Clashes.{clash_of}
use Rattle.dbl_capture_work.specs.ModelEvent.EventJson.{envelopes}
use Rattle.dbl_capture_work.specs.Follow.Steps.{mark_of, records_by}
use Rattle.dbl_capture_work.specs.Offset.declared.offset.Offset.{Offset}
use Rattle.dbl_capture_work.specs.declared.report.Report.{Report}
use Rattle.dbl_capture_work.specs.declared.work.SessionState.{SessionState}
use Rattle.dbl_capture_work.specs.Groups.{report_with}
use Rattle.dbl_capture_work.specs.Takes.{LeftStep, ReportsStep, WasStepped, WasTaken}
use Rattle.dbl_capture_work.specs.Works.{BeginsWithOffset, IsWork, open_commit}
use Rattle.dbl_capture_laws.specs.Gained.{AreCounted, Gains, IsGained, read_limit}
use Rattle.dbl_capture_laws.specs.Underway.{IsOfFirst}

-- ---- the sink's contents

-- The sink has gained all records of the commits that were followed, in batches, and then the records `put` of the open transaction; and
-- the report counts them.
pub record HasPut {K : Type 0} (holds : K → List (List Record) → Type 0) (groups : List (List Record)) (after : Lsn) (ms : List Message)
    (work : SessionState) (put : List Record) (report : Report) (sink : K) : Type 0 where
  pub records : List Record
  pub held : holds sink (groups ++ (cut records ++ cut put))
  pub is : IsGained after ms work records
  pub counts : AreCounted (cut records ++ cut put) report

-- ---- from step to step

-- A session begins with nothing gained, and nothing counted.
abbrev pub GainsBegin : Type 0
GainsBegin = (first : Offset) (now : ℤ) (chunk every : ℕ) (work : SessionState) (report : Report)
    → BeginsWithOffset first now chunk every work
    → report.records ≡ 0 → report.chunks ≡ 0 → report.snapshot_rows ≡ 0
    → IsGained first.lsn [] work [] × AreCounted (cut []) report

-- A step that changes neither offset, time nor chunk size gains nothing, such as reading a window or storing an offset.
abbrev pub GainsStay : Type 0
GainsStay = (after : Lsn) (ms : List Message) (old new : SessionState) (records : List Record)
    → new.offset ≡ old.offset → new.now_ms ≡ old.now_ms → new.chunk ≡ old.chunk
    → IsGained after ms old records → IsGained after ms new records

-- A message that ends no commit gains nothing.
abbrev pub MessagesGainNothing : Type 0
MessagesGainNothing = (after : Lsn) (ms : List Message) (bytes : List ℕ) (old next : SessionState) (records : List Record)
    → (w : WasTaken after ms bytes old next None) → IsGained after ms old records → IsGained after (w.message ∷ ms) next records

-- A commit that is followed gains its records, in batches, and they are counted, those with them that were appended before its end.
abbrev pub CommitsGain : Type 0
CommitsGain = (after : Lsn) (ms : List Message) (bytes : List ℕ) (commit : Commit) (old next new : SessionState) (before report : Report)
    (records put rest : List Record)
    → IsWork after ms old → (w : WasTaken after ms bytes old next (Some commit)) → WasStepped commit next new
    → length ms < read_limit → IsMomentInRange old.now_ms → records_by next.follower commit next.now_ms ≡ put ++ rest
    → (put ≡ []) ⊎ (is_some (mark_of commit) ≡ false) → ReportsStep (is_some (mark_of commit)) rest before report true
    → IsGained after ms old records → AreCounted (cut records ++ cut put) before
    → IsGained after (w.message ∷ ms) new (records ++ records_by next.follower commit next.now_ms)
    × AreCounted (cut (records ++ records_by next.follower commit next.now_ms)) report
    × ((groups : List (List Record)) → (groups ++ cut records) ++ cut (records_by next.follower commit next.now_ms)
    ≡ groups ++ cut (records ++ records_by next.follower commit next.now_ms))

-- ---- what is left

-- The sink's gain between two messages is a gain by the stored offset.
abbrev pub RestsLeaveGains : Type 0
RestsLeaveGains = (config : Config) (now : ℤ) (held : Option Offset) (first stored : Offset) (work : SessionState) (ms : List Message)
    (records : List Record) (groups left : List (List Record))
    → IsOfFirst config now held first stored work → IsGained first.lsn ms work records → left ≡ groups ++ cut records
    → Gains config now held (Some stored) groups left

-- The sink's gain within an open transaction is a gain by the stored offset: the transaction so far is the last of its commits.
abbrev pub OpensLeaveGains : Type 0
OpensLeaveGains = (config : Config) (now : ℤ) (held : Option Offset) (first stored : Offset) (work : SessionState) (ms : List Message)
    (count : ℕ) (records : List Record) (groups left : List (List Record))
    → IsOfFirst config now held first stored work → IsWork first.lsn ms work → IsGained first.lsn ms work records
    → IsSome (begin_of ms) → clash_of work.offset.identity work.offset.infos (open_commit work.offset.infos ms) ≡ None
    → left ≡ (groups ++ cut records)
    ++ cut (take count (envelopes work.offset.identity work.offset.infos (open_commit work.offset.infos ms) work.now_ms))
    → Gains config now held (Some stored) groups left

-- The sink's gain within a commit is a gain by the stored offset.
abbrev pub StepsLeaveGains : Type 0
StepsLeaveGains = (config : Config) (now : ℤ) (held : Option Offset) (first stored : Offset) (old next : SessionState) (ms : List Message)
    (bytes : List ℕ) (commit : Commit) (records : List Record) (groups left : List (List Record))
    → IsOfFirst config now held first stored old → IsWork first.lsn ms old → WasTaken first.lsn ms bytes old next (Some commit)
    → IsGained first.lsn ms old records → LeftStep commit next (groups ++ cut records) left
    → Gains config now held (Some stored) groups left

-- A report that counts a prefix of a commit's records counts what the sink gained.
abbrev pub StepsAreCounted : Type 0
StepsAreCounted = (after : Lsn) (ms : List Message) (bytes : List ℕ) (commit : Commit) (old next : SessionState) (count : ℕ)
    (before report : Report) (records put rest : List Record) (groups : List (List Record))
    → IsWork after ms old → WasTaken after ms bytes old next (Some commit) → length ms < read_limit → IsMomentInRange old.now_ms
    → records_by next.follower commit next.now_ms ≡ put ++ rest → (put ≡ []) ⊎ (is_some (mark_of commit) ≡ false)
    → LeftStep commit next groups (groups ++ cut (put ++ take count rest))
    → AreCounted (cut records ++ cut put) before
    → report ≡ report_with (is_some (mark_of commit)) (take count rest) before
    → AreCounted (cut records ++ cut (put ++ take count rest)) report

-- A report that counts more records of an open transaction counts what the sink gained.
abbrev pub OpensAreCounted : Type 0
OpensAreCounted = (work : SessionState) (commit : Commit) (count from : ℕ) (before report : Report) (records : List Record)
    → IsCommitInRange commit → IsMomentInRange work.now_ms → mark_of commit ≡ None → from ≤ count
    → AreCounted (cut records ++ cut (take from (envelopes work.offset.identity work.offset.infos commit work.now_ms))) before
    → report ≡ report_with false (drop from (take count (envelopes work.offset.identity work.offset.infos commit work.now_ms))) before
    → AreCounted (cut records ++ cut (take count (envelopes work.offset.identity work.offset.infos commit work.now_ms))) report
