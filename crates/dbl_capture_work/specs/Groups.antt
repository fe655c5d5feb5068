-- The batches of a commit's records, as they are gathered and appended, and what a report counts of them.
use Rattle.std.specs.Prelude.{◌≡◌, ◌⊎◌, ℕ, ◌+◌, ◌-◌, ◌^◌, ◌≤◌, ◌<◌, min, Bool, true, false}
use Rattle.std.specs.Prelude.{if◌then◌else◌, List, [], ◌∷◌, ◌++◌, length, filter, take, slice_get}
use Rattle.std.specs.Prelude.{◌≢◌, Option, Some, None, IfSome, Result, Err, OnErr, OnOk}
use Rattle.std.specs.List.{AllByRecursion}
use Rattle.dbl_record.specs.declared.record.Record.{Record}
use Rattle.dbl_record.specs.Cuts.{cut}
use Rattle.dbl_record.specs.Groups.{group_form}
use Rattle.dbl_topic.specs.Model.{SinkModel}
use Rattle.dbl_topic.specs.Sinks.{IsLeftByPut, group_limit}
use Rattle.dbl_capture_work.specs.declared.groups.Gathered.{Gathered}
use Rattle.dbl_capture_work.specs.declared.halt.Halt.{Halt}
use Rattle.dbl_capture_work.specs.declared.halt.Halt.TheVariants as halt
use Rattle.dbl_capture_work.specs.declared.report.Report.{Report}

-- None of the records is too long as a batch of its own.
abbrev pub AreShort : List Record → Type 0
AreShort records = AllByRecursion (λ item. length (group_form (item ∷ [])) ≤ group_limit) records

-- A batch that was begun has the length of its encoding, at most 2^64 - 1, and the position of its last record. No other batch begins
-- within it.
pub record IsGathered (gathered : Gathered) : Type 0 where
  pub before : List Record
  pub last : Record
  pub items : gathered.items.items ≡ before ++ last ∷ []
  pub bytes : gathered.bytes ≡ min (length (group_form gathered.items.items)) (2 ^ 64 - 1)
  pub position : gathered.position ≡ last.position
  pub own : cut gathered.items.items ≡ gathered.items.items ∷ []

-- The records of a batch that is gathered, if there is one.
abbrev pub records_in : Option Gathered → List Record
records_in None = []
records_in (Some gathered) = gathered.items.items

-- Whether these records were appended in batches, up to the batch that is gathered after them: the batches of both are those of the
-- appended ones, and that batch. Before the first batch is gathered nothing was appended.
abbrev pub IsBatched : List Record → List Record → Type 0
IsBatched put [] = put ≡ []
IsBatched put (item ∷ items) = cut (put ++ item ∷ items) ≡ cut put ++ (item ∷ items) ∷ []

-- ---- what a report counts

-- A count of 64 bits, which stays at its greatest value.
abbrev pub counted : ℕ → ℕ → ℕ
counted count more = min (count + more) (2 ^ 64 - 1)

-- The number of a snapshot's records that are its last one, the progress record: one or none.
abbrev pub lasts : List Record → ℕ
lasts records = length (filter (λ item. item.last) records)

-- The number of progress records among records that are a snapshot's or not.
abbrev pub chunks_of : Bool → List Record → ℕ
chunks_of snapshot records = if snapshot then lasts records else 0

-- The number of snapshot rows among records that are a snapshot's or not.
abbrev pub counted_snapshot_rows : Bool → List Record → ℕ
counted_snapshot_rows snapshot records = if snapshot then length records - lasts records else 0

-- The report with these records counted, which are a snapshot's or not.
abbrev pub report_with : Bool → List Record → Report → Report
report_with snapshot records report = record report {
  records = counted report.records (length records);
  chunks = counted report.chunks (chunks_of snapshot records);
  snapshot_rows = counted report.snapshot_rows (counted_snapshot_rows snapshot records);
}

-- The report counts a prefix of these records, whose appends were acknowledged.
pub record WerePut (snapshot : Bool) (records : List Record) (before after : Report) : Type 0 where
  pub count : ℕ
  pub within : count ≤ length records
  pub report : after ≡ report_with snapshot (take count records) before

-- The topic log has the records `put` of a commit, and gained a prefix of the records after them, in batches.
abbrev pub IsLeftByCut : List (List Record) → List Record → List Record → List (List Record) → Type 0
IsLeftByCut groups put records left = (n : ℕ) × (left ≡ groups ++ cut (put ++ take n records))

-- Whether the last of the records is the last of its commit.
abbrev pub ends_commit : List Record → Bool
ends_commit [] = false
ends_commit (item ∷ []) = item.last
ends_commit (first ∷ (second ∷ more)) = ends_commit (second ∷ more)

-- No record but the last of the list is the last of its commit, as in the records of a commit and in each batch of them.
pub record HasLastsAtItsEnd (records : List Record) : Type 0 where
  pub each : (place : ℕ) (item : Record) → slice_get records place ≡ Some item → item.last ≡ true → place + 1 ≡ length records

-- The sink contains the records `put` of a commit and, as the report counts, a prefix of the records after them, which is empty or not all
-- of these.
pub record HoldsPut {K : Type 0} (holds : K → List (List Record) → Type 0) (groups : List (List Record)) (snapshot : Bool)
    (put records : List Record) (before after : Report) (sink : K) : Type 0 where
  pub count : ℕ
  pub few : (count ≡ 0) ⊎ (count < length records)
  pub held : holds sink (groups ++ cut (put ++ take count records))
  pub report : after ≡ report_with snapshot (take count records) before

-- After a failed append, a prefix of the records after `put` was appended and is counted, and the sink may have a prefix of the next batch,
-- which is the one whose append failed.
pub record WasTorn {K : Type 0} (sink_model : SinkModel K) (groups : List (List Record)) (snapshot : Bool)
    (put records : List Record) (before after : Report) (sink : K) : Type 0 where
  pub count : ℕ
  pub group : List Record
  pub later : List (List Record)
  pub parted : cut (put ++ records) ≡ cut (put ++ take count records) ++ group ∷ later
  pub left : (found : List (List Record)) → sink_model.may_leave sink found
      → IsLeftByPut (groups ++ cut (put ++ take count records)) group found
  pub some : (found : List (List Record)) × sink_model.may_leave sink found
  pub fails : sink_model.fails_at sink group
  pub report : after ≡ report_with snapshot (take count records) before

-- ---- one batch

-- The batch is appended; if the sink failed, it failed at this batch, and a crash may leave some first records of it; after another error
-- nothing was appended.
pub record PutsGroup {K T : Type 0} (sink_model : SinkModel K) (sink new_sink : K) (group : List Record) (result : Result T Halt)
    : Type 0 where
  pub put : (groups : List (List Record)) → sink_model.holds sink groups → OnOk result (sink_model.holds new_sink (groups ++ group ∷ []))
  pub kept : (groups : List (List Record)) → sink_model.holds sink groups
      → OnErr result (result ≢ Err halt.Sink → sink_model.holds new_sink groups)
  pub left : (groups left : List (List Record)) → sink_model.holds sink groups → sink_model.may_leave new_sink left
      → IsLeftByPut groups group left
  pub some : (groups : List (List Record)) → sink_model.holds sink groups → (left : List (List Record)) × sink_model.may_leave new_sink left
  pub fails : result ≡ Err halt.Sink → sink_model.fails_at new_sink group

-- The report counts the batch once its append was acknowledged.
pub record CountsGroup {T : Type 0} (snapshot : Bool) (group : List Record) (report new_report : Report) (result : Result T Halt)
    : Type 0 where
  pub noted : OnOk result (HasLastsAtItsEnd group → new_report ≡ report_with snapshot group report)
  pub unnoted : OnErr result (new_report ≡ report)

-- ---- records that are gathered

-- For private clauses: the batch to go on with and the records that come after it, of a batch that is gathered and the records after it;
-- none if there is no record at all.
abbrev pub BeginsBatch : List Record → List Record → Option Gathered → List Record → Type 0
BeginsBatch before records None rest = (before ≡ []) × (records ≡ [])
BeginsBatch before records (Some gathered) rest = IsGathered gathered × (gathered.items.items ++ rest ≡ before ++ records)

-- All records but those of the batch that is gathered now are appended, in batches, and the report counts them.
pub record AppendsMore {K : Type 0} (sink_model : SinkModel K) (records : List Record) (batch : Option Gathered) (snapshot : Bool)
    (sink new_sink : K) (report new_report : Report) : Type 0 where
  pub gathered : IfSome batch IsGathered
  pub more : List Record
  pub parted : records ≡ more ++ records_in batch
  pub batched : IsBatched more (records_in batch)
  pub short : AreShort more
  pub held : (groups : List (List Record)) → sink_model.holds sink groups → sink_model.holds new_sink (groups ++ cut more)
  pub counted : HasLastsAtItsEnd records → new_report ≡ report_with snapshot more report

-- What the sink and the report have of these records after an error: a prefix, but not the last one, so that no window is counted.
pub record LeavesRecords {K T : Type 0} (sink_model : SinkModel K) (records : List Record) (snapshot : Bool) (sink new_sink : K)
    (report new_report : Report) (result : Result T Halt) : Type 0 where
  pub left : (groups left : List (List Record)) → sink_model.holds sink groups → sink_model.may_leave new_sink left
      → IsLeftByCut groups [] records left
  pub some : (groups : List (List Record)) → sink_model.holds sink groups → (left : List (List Record)) × sink_model.may_leave new_sink left
  pub noted : HasLastsAtItsEnd records → WerePut snapshot records report new_report
  pub chunks : HasLastsAtItsEnd records → OnErr result (new_report.chunks ≡ report.chunks)
  pub kept : (groups : List (List Record)) → sink_model.holds sink groups → HasLastsAtItsEnd records
      → OnErr result (result ≢ Err halt.Sink → HoldsPut sink_model.holds groups snapshot [] records report new_report new_sink)
  pub torn : (groups : List (List Record)) → sink_model.holds sink groups → HasLastsAtItsEnd records → result ≡ Err halt.Sink
      → WasTorn sink_model groups snapshot [] records report new_report new_sink
