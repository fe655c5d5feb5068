-- Why a window isn't read, and which record is too long. A window's cause refers to what the source returned, if that is known; memory may
-- run out at any time.
use Rattle.std.specs.Prelude.{◌≡◌, ◌≢◌, ◌⊎◌, ℕ, ◌+◌, ◌<◌, ◌≤◌, take, Option, Some, Result, Err, IfErr, IsErr, OnOk}
use Rattle.std.specs.Prelude.{List, [], ◌∷◌, ◌++◌, Bool, length, slice_get}
use Rattle.std.specs.List.{AllByRecursion}
use Rattle.dbl_record.specs.declared.record.Record.{Record}
use Rattle.dbl_record.specs.Cuts.{cut}
use Rattle.dbl_record.specs.Groups.{group_form}
use Rattle.dbl_model_table.specs.declared.table.TableInfo.{TableInfo}
use Rattle.dbl_source_model.specs.Standings.{SourceState}
use Rattle.dbl_source_model.specs.Trace.{Trace}
use Rattle.dbl_topic.specs.Model.{SinkModel}
use Rattle.dbl_topic.specs.Sinks.{told_length, group_limit}
use Rattle.dbl_window.specs.declared.error.WindowError.{WindowError}
use Rattle.dbl_window.specs.declared.error.WindowError.TheVariants as window
use Rattle.dbl_window.specs.Plans.{Plan}
use Rattle.dbl_window.specs.Selected.{HasUnreadable, IsReadOf}
use Rattle.dbl_capture_work.specs.declared.halt.Halt.{Halt}
use Rattle.dbl_capture_work.specs.declared.halt.Halt.TheVariants as halt
use Rattle.dbl_capture_work.specs.declared.report.Report.{Report}
use Rattle.dbl_capture_work.specs.declared.work.SessionState.{SessionState}
use Rattle.dbl_capture_work.specs.Groups.{HasLastsAtItsEnd, LeavesRecords, report_with}
use Rattle.dbl_capture_work.specs.Halts.{window_halt}
use Rattle.dbl_capture_work.specs.Works.{plan_at}

-- ---- windows

-- The answer to a select has this fault first; if the source's last answer is known, it is this one.
abbrev pub IsOfRows : Plan → Option Trace → WindowError → Type 0
IsOfRows plan told error = IsReadOf plan told (Err error)

-- Over a conforming source that captures the window's table, a row can only have an unreadable cell, which is in its history; and the table
-- has version 1.
abbrev pub IsHonestFault : Plan → (SourceState → Type 0) → List TableInfo → WindowError → Type 0
IsHonestFault plan stands infos (window.Moved version) = plan.version ≢ 1
IsHonestFault plan stands infos (window.BadChunk row) = ⊥
IsHonestFault plan stands infos (window.Cell name error) = (t : SourceState) × stands t × HasUnreadable infos t.history plan name error
IsHonestFault plan stands infos window.Failed = Unit {0}
IsHonestFault plan stands infos window.Memory = Unit {0}

-- The error of a window over a conforming source, unless memory ran out.
abbrev pub IsHonestChunkHalt : Plan → (SourceState → Type 0) → List TableInfo → Halt → Type 0
IsHonestChunkHalt plan stands infos h =
    (h ≡ halt.Memory) ⊎ ((error : WindowError) × (h ≡ window_halt plan.info.name error) × IsHonestFault plan stands infos error)

-- The error of a window of this table, by the rows that the source returned.
pub record IsChunkHalt (work : SessionState) (table : ℕ) (told : Option Trace) (h : Halt) : Type 0 where
  pub info : TableInfo
  pub info_is : slice_get work.offset.infos table ≡ Some info
  pub plan : Plan
  pub plan_is : plan_at work table ≡ Some plan
  pub cause : (h ≡ halt.Memory)
      ⊎ ((h ≡ halt.Source) ⊎ ((error : WindowError) × (h ≡ window_halt info.name error) × IsOfRows plan told error))

-- ---- records

-- The first record that is too long as a batch of its own; the error has the length of its encoding.
pub record IsLongRecord (records : List Record) (h : Halt) : Type 0 where
  pub place : ℕ
  pub item : Record
  pub stands : slice_get records place ≡ Some item
  pub first : AllByRecursion (λ other. length (group_form (other ∷ [])) ≤ group_limit) (take place records)
  pub long : group_limit < length (group_form (item ∷ []))
  pub is : h ≡ halt.RecordTooLong (told_length (item ∷ []))

-- The records after `put` and before the first one that is too long were appended in batches, and the report counts them.
pub record HasPutBefore {K : Type 0} (holds : K → List (List Record) → Type 0) (groups : List (List Record)) (snapshot : Bool)
    (put records : List Record) (before after : Report) (sink : K) (h : Halt) : Type 0 where
  pub long : IsLongRecord records h
  pub held : holds sink (groups ++ cut (put ++ take long.place records))
  pub report : after ≡ report_with snapshot (take long.place records) before

-- Why gathering and appending records stops: out of memory, a failed sink, or a record that is too long, before which all were appended.
-- Such a record is appended alone, once the record after it is gathered.
pub record HaltsAppending {K T : Type 0} (sink_model : SinkModel K) (records : List Record) (snapshot : Bool) (sink new_sink : K)
    (report new_report : Report) (result : Result T Halt) : Type 0 where
  pub causes : IfErr result (λ h. (h ≡ halt.Memory) ⊎ ((h ≡ halt.Sink)
      ⊎ ((long : IsLongRecord records h) × (long.place + 1 < length records))))
  pub long : (place : ℕ) (item : Record) → slice_get records place ≡ Some item → place + 1 < length records
      → group_limit < length (group_form (item ∷ [])) → IsErr result
  pub before : (groups : List (List Record)) → sink_model.holds sink groups → HasLastsAtItsEnd records
      → (len : ℕ) → result ≡ Err (halt.RecordTooLong len)
      → HasPutBefore sink_model.holds groups snapshot [] records report new_report new_sink (halt.RecordTooLong len)

-- All of these records are appended in batches, and counted; after an error a prefix of them. A window is counted only with its last
-- record.
pub record PutsAll {K T : Type 0} (sink_model : SinkModel K) (records : List Record) (snapshot : Bool) (sink new_sink : K)
    (report new_report : Report) (result : Result T Halt) : Type 0 where
  pub put : (groups : List (List Record)) → sink_model.holds sink groups → OnOk result (sink_model.holds new_sink (groups ++ cut records))
  pub whole : OnOk result (HasLastsAtItsEnd records → new_report ≡ report_with snapshot records report)
  pub leaves : LeavesRecords sink_model records snapshot sink new_sink report new_report result
  pub long : (place : ℕ) (item : Record) → slice_get records place ≡ Some item → group_limit < length (group_form (item ∷ []))
      → IsErr result
  pub before : (groups : List (List Record)) → sink_model.holds sink groups → HasLastsAtItsEnd records
      → (len : ℕ) → result ≡ Err (halt.RecordTooLong len)
      → HasPutBefore sink_model.holds groups snapshot [] records report new_report new_sink (halt.RecordTooLong len)
  pub causes : IfErr result (λ h. (h ≡ halt.Memory) ⊎ ((h ≡ halt.Sink) ⊎ IsLongRecord records h))
