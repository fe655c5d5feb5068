-- The commits that a report counts: those of which the sink has all records.
use Rattle.std.specs.Prelude.{◌≡◌, ◌⊎◌, ℕ, ℤ, ◌-◌, ◌<◌, ◌≤◌, ◌++◌, take, Option, Some, None, IsSome, Result, Ok, Err, List, [], ◌∷◌, length}
use Rattle.std.specs.List.{AllZip}
use Rattle.dbl_base.specs.declared.lsn.Lsn.{Lsn}
use Rattle.dbl_pgmsg.specs.declared.messages.Message.{Message}
use Rattle.dbl_pgmsg.specs.Grammar.{Spells}
use Rattle.dbl_record.specs.declared.record.Record.{Record}
use Rattle.dbl_record.specs.Cuts.{cut}
use Rattle.dbl_model_table.specs.declared.change.Commit.{Commit}
use Rattle.dbl_model_table.specs.declared.config.Config.{Config}
use Rattle.dbl_capture_work.specs.ModelCommit.Past.{begin_of, last_lsn}
use Rattle.dbl_capture_work.specs.ModelCommit.Stated.{commits_of, ended_commit}
use Rattle.dbl_capture_work.specs.ModelEvent.Clashes.{clash_of}
use Rattle.dbl_capture_work.specs.ModelEvent.EventJson.{envelopes}
use Rattle.dbl_capture_work.specs.SourceModel.Standings.{Reading, SourceState}
use Rattle.dbl_capture_work.specs.SourceModel.Trace.{Trace}
use Rattle.dbl_capture_work.specs.Offset.declared.offset.Offset.{Offset}
use Rattle.dbl_capture_work.specs.declared.halt.Halt.{Halt}
use Rattle.dbl_capture_work.specs.declared.report.Ending.{Ending}
use Rattle.dbl_capture_work.specs.declared.report.Report.{Report}
use Rattle.dbl_capture_work.specs.Groups.{IsBatched}
use Rattle.dbl_capture_work.specs.Works.{open_commit}
use Rattle.dbl_capture_laws.specs.Found.{HasStored}
use Rattle.dbl_capture_laws.specs.Gained.{AreSent, IsSentFor, Making, making_of}
use Rattle.dbl_capture_laws.specs.Reported.{HasReadAfter, BeginsAfter, IsLeftOut}

-- ---- what isn't counted

-- How many of the newest messages aren't counted: none at a normal end.
abbrev pub IsLeftOutBy : Result Ending Halt → ℕ → Type 0
IsLeftOutBy (Ok ending) n = n ≡ 0
IsLeftOutBy (Err h) n = IsLeftOut h n

-- The part is a proper prefix of the records of the transaction that these messages leave open, none of which has a value equal to the
-- placeholder.
pub record IsOpenPart (by : Making) (messages : List Message) (part : List Record) : Type 0 where
  pub inside : IsSome (begin_of messages)
  pub clear : clash_of by.identity by.infos (open_commit by.infos messages) ≡ None
  pub count : ℕ
  pub few : count < length (envelopes by.identity by.infos (open_commit by.infos messages) by.now)
  pub part_is : part ≡ take count (envelopes by.identity by.infos (open_commit by.infos messages) by.now)

-- The part is what was appended of the transaction that these messages leave open, none of whose records has a value equal to the
-- placeholder: all batches but the newest, `rest`, of its records so far except the last one, which is held back.
pub record IsReleasedPart (by : Making) (messages : List Message) (part : List Record) : Type 0 where
  pub clear : clash_of by.identity by.infos (open_commit by.infos messages) ≡ None
  pub rest : List Record
  pub released : part ++ rest
      ≡ take (length (envelopes by.identity by.infos (open_commit by.infos messages) by.now) - 1)
      (envelopes by.identity by.infos (open_commit by.infos messages) by.now)
  pub batched : IsBatched part rest

-- The part is a proper prefix of the records of the transaction that the message leaves open after the earlier ones.
pub record IsMorePart (by : Making) (earlier : List Message) (such : Message → Type 0) (part : List Record) : Type 0 where
  pub message : Message
  pub is : such message
  pub of : IsOpenPart by (message ∷ earlier) part

-- The message ends a commit after the earlier ones, and the part is a proper prefix of the records of that commit.
pub record IsFirstPart (by : Making) (earlier : List Message) (such : Message → Type 0) (part : List Record) : Type 0 where
  pub message : Message
  pub is : such message
  pub commit : Commit
  pub ends : ended_commit by.infos message earlier ≡ Some commit
  pub records : List Record
  pub sent : IsSentFor by commit records
  pub count : ℕ
  pub few : count < length records
  pub part_is : part ≡ take count records

-- The part that was appended beyond the counted commits. If no message is left out, the batches of the open transaction that were full;
-- otherwise nothing, or a proper prefix of the records of the open transaction, or of the commit that the newest message ends.
abbrev pub IsPartOf : {A : Type 0} → Making → List Message → (A → Message → Type 0) → List A → List Record → Type 0
IsPartOf by earlier such [] part = IsReleasedPart by earlier part
IsPartOf by earlier such (newest ∷ []) part =
    (part ≡ []) ⊎ (IsOpenPart by earlier part ⊎ (IsMorePart by earlier (such newest) part ⊎ IsFirstPart by earlier (such newest) part))
IsPartOf by earlier such (newest ∷ (other ∷ more)) part = ⊥

-- ---- what is counted

-- The counted commits are those that the messages state, except perhaps the newest: the sink has all records of the counted ones, and none
-- or a proper prefix of the newest, or of the open transaction. A newest commit without records may be counted or not, unless the stored
-- offset is at it. Whether a high watermark closed a window isn't said.
pub record Tallies {K A : Type 0} (holds : K → List (List Record) → Type 0) (groups : List (List Record)) (sink : K) (by : Making)
    (after : Lsn) (stored : Lsn) (such : A → Message → Type 0) (read : List A) (commits : ℕ) (result : Result Ending Halt) : Type 0 where
  pub newest : List A
  pub few : IsLeftOutBy result (length newest)
  pub earlier : List A
  pub parted : read ≡ newest ++ earlier
  pub messages : List Message
  pub spelled : AllZip such earlier messages
  pub followed : commits ≡ length (commits_of by.infos messages)
  pub upto : stored.0 ≤ (last_lsn after messages).0
  pub records : List Record
  pub sent : AreSent by after.0 (commits_of by.infos messages) records
  pub part : List Record
  pub part_is : IsPartOf by messages such newest part
  pub held : holds sink (groups ++ (cut records ++ cut part))

-- Before the first message the session has appended nothing.
abbrev pub HasPutNothing : {K : Type 0} → (K → List (List Record) → Type 0) → List (List Record) → Report → K → Type 0
HasPutNothing holds groups report sink = (report.messages ≡ 0) × (report.commits ≡ 0) × holds sink groups

-- The counted commits agree with the sink's contents, by the source's trace.
abbrev pub IsTallied : {K : Type 0} → (K → List (List Record) → Type 0) → List (List Record) → Config → ℤ → Option Offset
    → Option Offset → Report
    → Option Trace → K → Result Ending Halt → Type 0
IsTallied holds groups config now old new report told sink result =
    HasPutNothing holds groups report sink
    ⊎ ((r : HasReadAfter config old new report told)
    × Tallies holds groups sink (making_of r.stored.offset now config.chunk) r.after r.stored.offset.lsn Spells r.read
    report.commits result)

-- The counted commits agree with the sink's contents, by the source's state.
pub record HasTallied {K : Type 0} (holds : K → List (List Record) → Type 0) (groups : List (List Record)) (config : Config) (now : ℤ)
    (old new : Option Offset) (report : Report) (t : SourceState) (sink : K) (result : Result Ending Halt) : Type 0 where
  pub stored : HasStored config old new
  pub reading : Reading
  pub reading_is : t.reading ≡ Some reading
  pub begins_after : BeginsAfter old new stored.offset.infos reading.after
  pub many : length reading.messages ≡ report.messages
  pub tallies : Tallies holds groups sink (making_of stored.offset now config.chunk) reading.after stored.offset.lsn
      (λ m n. m ≡ n) reading.messages
      report.commits result

-- Nothing was appended, or the counted commits agree with the sink's contents, by the source's state.
abbrev pub IsTalliedAfter : {K : Type 0} → (K → List (List Record) → Type 0) → List (List Record) → Config → ℤ → Option Offset
    → Option Offset → Report
    → SourceState → K → Result Ending Halt → Type 0
IsTalliedAfter holds groups config now old new report t sink result =
    HasPutNothing holds groups report sink ⊎ HasTallied holds groups config now old new report t sink result

-- ---- what the stored offset passed

-- The sink has all records of the commits that the messages up to some one state, among them all up to the stored offset, and perhaps
-- others after them.
pub record SendsUpTo {A : Type 0} (groups left : List (List Record)) (by : Making) (after stored : Lsn) (such : A → Message → Type 0)
    (read : List A) : Type 0 where
  pub newest : List A
  pub earlier : List A
  pub parted : read ≡ newest ++ earlier
  pub messages : List Message
  pub spelled : AllZip such earlier messages
  pub upto : stored.0 ≤ (last_lsn after messages).0
  pub records : List Record
  pub sent : AreSent by after.0 (commits_of by.infos messages) records
  pub more : List (List Record)
  pub left_is : left ≡ groups ++ (cut records ++ more)

-- All commits that the stored offset passed were delivered, by the source's state.
pub record HasPassed (groups left : List (List Record)) (config : Config) (now : ℤ) (old new : Option Offset) (t : SourceState)
    : Type 0 where
  pub stored : HasStored config old new
  pub reading : Reading
  pub reading_is : t.reading ≡ Some reading
  pub begins_after : BeginsAfter old new stored.offset.infos reading.after
  pub passes : SendsUpTo groups left (making_of stored.offset now config.chunk) reading.after stored.offset.lsn (λ m n. m ≡ n)
      reading.messages
