-- What a session over opened stores had read, followed and sent when it ended, by the messages after which its source stands.
use Rattle.std.proofs.Common.{◌≡◌, ◌∙◌, inl, inr, ℕ, ℤ, ◌+◌, Option, Some, None, List, Result, sym, ap, arith}
use Rattle.dbl_record.specs.declared.record.Record.{Record}
use Rattle.dbl_hooks_gate.specs.declared.rule.Rule.{Rule}
use Rattle.dbl_model_table.specs.declared.config.Config.{Config}
use Rattle.dbl_demo.specs.SourceLog.declared.reader_position.ReaderPosition.{ReaderPosition}
use Rattle.dbl_demo.specs.SourceModel.Standings.{SourceState}
use Rattle.dbl_demo.specs.SourceModel.Trace.{Trace}
use Rattle.dbl_offset_content.specs.declared.offset.Offset.{Offset}
use Rattle.dbl_demo.specs.DemoWal.Standings.{standing_in}
use Rattle.dbl_demo.specs.DemoWal.Wals.{Wal}
use Rattle.dbl_capture.specs.CaptureWork.declared.halt.Halt.{Halt}
use Rattle.dbl_capture.specs.CaptureWork.declared.halt.Halt.TheVariants as halt
use Rattle.dbl_capture.specs.CaptureWork.declared.report.Ending.{Ending}
use Rattle.dbl_capture.specs.CaptureWork.declared.report.Report.{Report}
use Rattle.dbl_capture.specs.CaptureLaws.Found.{HasStored}
use Rattle.dbl_capture.specs.CaptureLaws.Reported.{HasStoodAfter, IsFollowed}
use Rattle.dbl_capture.specs.CaptureLaws.Tallied.{IsTalliedAfter}
use Rattle.dbl_capture_gated.specs.Passed.{RefusesNext}
use Rattle.dblog_promise.specs.Contents.{Contents}
use Rattle.dblog_connect.specs.Followed.{ComesByReading, IsFollowedRead, IsTalliedRead}
use Rattle.dblog_connect.specs.Refusals.{HasRefusedNext}
use Rattle.dblog_connect.proofs.Causes.{IsHaltOver, sent_front}

-- after such a halt the source still stands
pub still_stands : (config : Config) (now : ℤ) (old : Contents) (new : Option Offset) (report : Report) (stands : SourceState → Type 0) (h : Halt)
    → ComesByReading old h → IsHaltOver config now old new report stands h → (t : SourceState) × stands t
still_stands config now old new report stands halt.Source reading over = absurd reading
still_stands config now old new report stands halt.Sink reading over = absurd reading
still_stands config now old new report stands halt.Offsets reading over = absurd reading
still_stands config now old new report stands halt.Memory reading over = absurd reading
still_stands config now old new report stands (halt.Message number error) reading over = absurd reading
still_stands config now old new report stands (halt.Txn number error) reading over = (over.stood.0, over.stood.1)
still_stands config now old new report stands (halt.Chunk table row) reading over = absurd reading
still_stands config now old new report stands (halt.Altered table) reading over = absurd reading
still_stands config now old new report stands (halt.Cell table column error) reading over = (let here = over.own reading in (here.0, here.1))
still_stands config now old new report stands (halt.Clash table column) reading over = (over.stood.0, over.stood.1)
still_stands config now old new report stands (halt.RecordTooLong len) reading over = (over.stood.0, over.stood.1)
still_stands config now old new report stands (halt.OffsetTooLong len) reading over = (over.stood.0, over.stood.1)
still_stands config now old new report stands (halt.Model error) reading over = absurd reading
still_stands config now old new report stands (halt.UnknownTable table) reading over = absurd reading
still_stands config now old new report stands (halt.Gone asked first) reading over = absurd reading
still_stands config now old new report stands (halt.WatermarkMissing value at) reading over = (over.stood.0, over.stood.1)
still_stands config now old new report stands (halt.Exhausted incarnation) reading over = absurd reading

-- a session raises the incarnation by its first store, before which it reads nothing
not_again : (config : Config) (old new : Option Offset) → new ≡ old → HasStored config old new → ⊥
not_again config None new same stored = (let wrong : None ≡ Some stored.offset = sym same ∙ stored.is in cc)
not_again config (Some offset) new same stored =
    let both : Some offset ≡ Some stored.offset = sym same ∙ stored.is in
    let one : offset ≡ stored.offset = cc in
    let level : offset.incarnation ≡ stored.offset.incarnation = ap (λ (o : Offset). o.incarnation) one in
    let up : stored.offset.incarnation ≡ offset.incarnation + 1 = stored.by.3 in
    omega (arith, level, up)

pub unread_by : (config : Config) (now : ℤ) (old new : Option Offset) (report : Report) (told : Option Trace) (h : Halt)
    → IsFollowed config now old new report told h → new ≡ old → (report.messages ≡ 0) × (report.commits ≡ 0)
unread_by config now old new report told h (inl none) same = (none.0, none.1)
unread_by config now old new report told h (inr read) same = absurd (not_again config old new same read.0.stored)

-- the record that was refused, by what a crash leaves of the source's log
pub refused_read : (config : Config) (now : ℤ) (rule : Rule) (old new : Option Offset) (t : SourceState) (wal : Wal) (place : Option ReaderPosition) → t ≡ standing_in wal place
    → (refused : ℕ × ℕ) → RefusesNext config now rule old new refused t → HasRefusedNext config now rule old new wal refused
refused_read config now rule old new t wal place is refused so =
    let front = sent_front t so.reading wal place is so.reading_is in
    record {
      reading = so.reading;
      was = record { by = so.stored; begins_after = so.begins_after; rest = front.0; front = front.1 };
      newest = so.newest;
      earlier = so.earlier;
      parted = so.parted;
      allowed = so.allowed;
      records = so.records;
      next = so.next;
      first = so.first;
    }

-- of what a crash leaves of the source's log
module _ (config : Config) (now : ℤ) (old new : Option Offset) (report : Report) (s t : SourceState) (wal : Wal) (place : Option ReaderPosition) (is : t ≡ standing_in wal place) where
  pub followed_read : (h : Halt) → HasStoodAfter config now old new report s t h → IsFollowedRead config now old new wal report h
  followed_read h (inl none) = inl (none.0, none.1, none.2)
  followed_read h (inr so) =
      let front = sent_front t so.reading wal place is so.reading_is in
      inr (record {
        reading = so.reading;
        was = record { by = so.stored; begins_after = so.begins_after; rest = front.0; front = front.1 };
        many = so.many;
        so_far = so.so_far;
      })

  -- and of the topic log
  pub tallied_read : {K : Type 0} (holds : K → List (List Record) → Type 0) (groups left : List (List Record)) (sink : K) (result : Result Ending Halt)
      → ((had : List (List Record)) → holds sink had → left ≡ had)
      → IsTalliedAfter holds groups config now old new report t sink result → IsTalliedRead config now old new wal groups left report result
  tallied_read holds groups left sink result one (inl none) = inl (none.0, none.1, one groups none.2)
  tallied_read holds groups left sink result one (inr so) =
      let front = sent_front t so.reading wal place is so.reading_is in
      inr (record {
        reading = so.reading;
        was = record { by = so.stored; begins_after = so.begins_after; rest = front.0; front = front.1 };
        many = so.many;
        tallies = record {
          newest = so.tallies.newest;
          few = so.tallies.few;
          earlier = so.tallies.earlier;
          parted = so.tallies.parted;
          messages = so.tallies.messages;
          spelled = so.tallies.spelled;
          followed = so.tallies.followed;
          upto = so.tallies.upto;
          records = so.tallies.records;
          sent = so.tallies.sent;
          part = so.tallies.part;
          part_is = so.tallies.part_is;
          held = one _ so.tallies.held;
        };
      })
