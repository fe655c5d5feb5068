-- Why a session over opened stores stops with an error: by what they held and hold.
use Rattle.std.proofs.Common.{◌≡◌, ◌∙◌, inl, inr, ℕ, ℤ, ◌<◌, ◌≤◌, ◌++◌, Option, Some, None, List, [], ◌∷◌, map, Result, Ok, Err, refl, sym, ap, subst, arith}
use Rattle.std.specs.Prelude.{IfErr, reverse}
use Rattle.std.specs.List.{AllByRecursion}
use Rattle.dbl_base.specs.declared.lsn.Lsn.{Lsn}
use Rattle.dbl_pgmsg.specs.declared.messages.Message.{Message}
use Rattle.dbl_record.specs.declared.record.Record.{Record}
use Rattle.dbl_record.specs.Cuts.{joined}
use Rattle.dbl_model_table.specs.declared.config.Config.{Config}
use Rattle.dbl_model_commit.specs.declared.txn_error.TxnError.{TxnError}
use Rattle.dbl_model_history.specs.History.{AreRising, History, IsRising, RawCommit}
use Rattle.dbl_demo.specs.SourceLog.declared.reader_position.ReaderPosition.{ReaderPosition}
use Rattle.dbl_demo.proofs.SourceLogLogLemmas.{is_rising}
use Rattle.dbl_demo.proofs.SourceLogSentLemmas.{reads_what_is_sent}
use Rattle.dbl_demo.specs.SourceModel.Calls.{head_after, head_of}
use Rattle.dbl_demo.specs.SourceModel.Standings.{Reading, SourceState}
use Rattle.dbl_offset_content.specs.declared.offset.Offset.{Offset}
use Rattle.dbl_demo.specs.DemoWal.Sound.{logged_in}
use Rattle.dbl_demo.specs.DemoWal.Standings.{messages_sent, standing_in, tables_of}
use Rattle.dbl_demo.specs.DemoWal.Wals.{Wal}
use Rattle.dbl_capture.specs.CaptureModel.Entries.{IsKeptAfter}
use Rattle.dbl_capture.specs.CaptureWork.declared.halt.Halt.{Halt}
use Rattle.dbl_capture.specs.CaptureWork.declared.halt.Halt.TheVariants as halt
use Rattle.dbl_capture.specs.CaptureWork.declared.report.Report.{Report}
use Rattle.dbl_capture.specs.CaptureWork.Begins.{IsAbsentHalt, IsOffsetFor, IsTooLong}
use Rattle.dbl_capture.specs.CaptureLaws.Found as found
use Rattle.dbl_capture.specs.CaptureLaws.Halted.{IsHalt, IsHaltOfStood, IsStoodHalt, WasStood}
use Rattle.dbl_capture.specs.CaptureLaws.Nevers.{IsFaithfulHalt, IsHonestHalt, IsOwnCell, IsOwnClash, IsOwnLong, IsOwnOffset}
use Rattle.dblog_promise.specs.Restarts.{restart_at}
use Rattle.dbl_capture.specs.CaptureLaws.Awaited.{IsWithinLog}
use Rattle.dbl_capture.specs.CaptureLaws.Owned.{IsLongBy}
use Rattle.dbl_capture.specs.CaptureLaws.HasState.{IsGoneBelow, IsHaltStanding}
use Rattle.dblog_promise.specs.Causes.{HasRead, IsBeyondLog, IsCauseOf, IsConfirmedBeyond, IsFirstTooLong, IsHaltByLog, IsKeptHalt, IsOwnTxn}
use Rattle.dblog_promise.specs.Contents.{Contents, HasOwnTables, confirmed_at, found_in, history_at}
use Rattle.dblog_connect.proofs.CrashState.{place_read}

-- ---- small words

pub err_is : {A E : Type 0} (r : Result A E) (e : E) (P : E → Type 0) → IfErr r P → r ≡ Err e → P e
err_is (Ok x) e P p is = cc
err_is (Err d) e P p is =
    let same : d ≡ e = cc in
    subst P same p

not_over : (n m : ℕ) → (n ≤ m → ⊥) → m < n
not_over n m wrong = omega (arith, wrong)

not_zero : (n : ℕ) → (n ≡ 0 → ⊥) → 0 < n
not_zero n wrong = omega (arith, wrong)

-- ---- beyond the log

head_ge : (lsn : Lsn) (cs : List RawCommit) → AreRising lsn.0 (map (λ (c : RawCommit). c.lsn.0) cs) → lsn.0 ≤ (head_after lsn cs).0
head_ge lsn [] rise = omega arith
head_ge lsn (c ∷ cs) rise =
    let later = head_ge c.lsn cs rise.1 in
    omega (arith, rise.0, later)

all_under : (lsn : Lsn) (cs : List RawCommit) (n : ℕ) → AreRising lsn.0 (map (λ (c : RawCommit). c.lsn.0) cs) → (head_after lsn cs).0 < n → AllByRecursion (λ (c : RawCommit). c.lsn.0 < n) cs
all_under lsn [] n rise under = tt
all_under lsn (c ∷ cs) n rise under =
    let later = head_ge c.lsn cs rise.1 in
    (omega (arith, later, under), all_under c.lsn cs n rise.1 under)

beyond_log : (old : Contents) (stored : Option Offset) → old.offset ≡ stored → IsRising (history_at old) → (IsWithinLog (history_at old) stored → ⊥) → IsBeyondLog old
beyond_log old None is rise wrong = absurd (wrong tt)
beyond_log old (Some offset) is rise wrong =
    let over : (head_of (history_at old).commits).0 < offset.lsn.0 = not_over offset.lsn.0 (head_of (history_at old).commits).0 wrong in
    record {
      offset = offset;
      stored = is;
      some = omega (arith, over);
      above = all_under (record { 0 = 0 }) (history_at old).commits offset.lsn.0 rise over;
    }

confirmed_beyond : (confirmed : Lsn) (stored : Option Offset) → (IsKeptAfter confirmed stored → ⊥) → IsConfirmedBeyond confirmed stored
confirmed_beyond confirmed None wrong = not_zero confirmed.0 wrong
confirmed_beyond confirmed (Some offset) wrong = not_over confirmed.0 offset.lsn.0 wrong

-- ---- what was read

-- The source is after these messages: they are the first ones that its log is sent as.
pub sent_front : (t : SourceState) (reading : Reading) (wal : Wal) (place : Option ReaderPosition) → t ≡ standing_in wal place → t.reading ≡ Some reading
    → (rest : List Message) × (messages_sent wal reading.after ≡ reverse reading.messages ++ rest)
sent_front t reading wal place is reads =
    let at = place_read wal place reading (ap (λ (s : SourceState). s.reading) (sym is) ∙ reads) in
    subst (λ (r : Reading). (rest : List Message) × (messages_sent wal r.after ≡ reverse r.messages ++ rest)) at.2 (reads_what_is_sent (tables_of wal) (logged_in wal.entries) at.0)

has_read : (config : Config) (old new : Option Offset) (report : Report) (t : SourceState) (reading : Reading) (wal : Wal) (place : Option ReaderPosition)
    → t ≡ standing_in wal place → WasStood config old new report t reading → HasRead config old new wal reading
has_read config old new report t reading wal place is was =
    let front = sent_front t reading wal place is was.is in
    record { by = was.stored; begins_after = was.begins_after; rest = front.0; front = front.1 }

halt_at : (config : Config) (now : ℤ) (old new : Option Offset) (report : Report) (t : SourceState) (wal : Wal) (place : Option ReaderPosition) (h : Halt)
    → t ≡ standing_in wal place → IsStoodHalt config now old new report t h → IsHaltByLog config now old new report wal h
unfolding has_read
halt_at config now old new report t wal place h is stood = record {
  reading = stood.reading;
  was = has_read config old new report t stood.reading wal place is stood.was;
  many = stood.was.many;
  is = stood.by;
}

-- the first offset is too long
first_long : (config : Config) (history : History) (stored new : Option Offset) (offset : Offset) (len : ℕ)
    → (stored ≡ None → new ≡ None → IsLongBy config history (halt.OffsetTooLong len)) → new ≡ stored
    → IsOffsetFor config stored offset → IsTooLong offset (halt.OffsetTooLong len) → IsFirstTooLong config history stored (halt.OffsetTooLong len)
first_long config history None new offset len by same for long = by refl same
first_long config history (Some found) new offset len by same for long = subst (λ (o : Offset). IsTooLong o (halt.OffsetTooLong len)) for long

-- ---- the cause of a halt

-- What the session's contract says of its halt, over the contents that it found.
pub record IsHaltOver (config : Config) (now : ℤ) (old : Contents) (new : Option Offset) (report : Report) (stands : SourceState → Type 0) (h : Halt) : Type 0 where
  pub is : IsHalt config now old.offset new report None h
  pub stood : IsHaltStanding config now old.offset new report stands h
  pub absent : IsAbsentHalt config.tables (history_at old) h
  pub own : HasOwnTables old → IsHonestHalt (found.session_start_at config now (standing_in old.wal None) old.offset) stands h
  pub gone : (asked first : Lsn) → h ≡ halt.Gone asked first → IsKeptAfter (confirmed_at old) old.offset → ⊥
  pub below : IsGoneBelow (confirmed_at old) h
  pub from : (asked first : Lsn) → h ≡ halt.Gone asked first → first ≡ confirmed_at old
  pub missing : (value : List ℕ) (at : Lsn) → h ≡ halt.WatermarkMissing value at → IsWithinLog (history_at old) old.offset → ⊥
  pub long : old.offset ≡ None → new ≡ None → IsLongBy config (history_at old) h

module _ (config : Config) (now : ℤ) (old : Contents) (new : Option Offset) (report : Report) (stands : SourceState → Type 0) (wal : Wal) (place : Option ReaderPosition)
    (one : (t : SourceState) → stands t → t ≡ standing_in wal place) where
  at_halt : (h : Halt) → ((t : SourceState) × stands t × IsStoodHalt config now old.offset new report t h) → IsHaltByLog config now old.offset new report wal h
  at_halt h stood = halt_at config now old.offset new report stood.0 wal place h (one stood.0 stood.1) stood.2

  own_txn : (number : ℕ) (error : TxnError) → IsHonestHalt (found.session_start_at config now (standing_in old.wal None) old.offset) stands (halt.Txn number error) → IsOwnTxn config old wal number error
  own_txn number error honest =
      let front = sent_front honest.0 honest.4.reading wal place (one honest.0 honest.1) honest.4.reading_is in
      record {
        content = honest.4.content;
        infos = honest.2;
        captured = honest.3;
        reading = honest.4.reading;
        rest = front.0;
        front = front.1;
        fault = honest.4.fault;
      }

  -- what else is said of the messages that were read is said of these
  read_so : (t : SourceState) → stands t → (reading : Reading) → t.reading ≡ Some reading → (h : Halt) → ((u : SourceState) × stands u × IsStoodHalt config now old.offset new report u h) → WasStood config old.offset new report t reading
  read_so t is reading reads h stood =
      let same : t ≡ stood.0 = one t is ∙ sym (one stood.0 stood.1) in
      let both : Some stood.2.reading ≡ Some reading = sym stood.2.was.is ∙ (ap (λ (s : SourceState). s.reading) (sym same) ∙ reads) in
      let one_reading : stood.2.reading ≡ reading = cc in
      subst (λ (s : SourceState). WasStood config old.offset new report s reading) (sym same) (subst (WasStood config old.offset new report stood.0) one_reading stood.2.was)

  pub cause_of : (h : Halt) → IsHaltOver config now old new report stands h → IsCauseOf config now old new report wal h
  unfolding has_read
  cause_of halt.Source over = tt
  cause_of halt.Sink over = tt
  cause_of halt.Offsets over = tt
  cause_of halt.Memory over = tt
  cause_of (halt.Message number error) over = over.stood
  cause_of (halt.Txn number error) over = (at_halt (halt.Txn number error) over.stood, λ own. own_txn number error (over.own own))
  cause_of (halt.Chunk table row) over = over.own
  cause_of (halt.Altered table) over = over.own
  cause_of (halt.Cell table column error) over = λ own. (
      let here = over.own own in
      (here.2, here.3, subst (λ (s : SourceState). IsOwnCell here.2 s.history table column error) (one here.0 here.1) here.4))
  cause_of (halt.Clash table column) over = at_halt (halt.Clash table column) over.stood
  cause_of (halt.RecordTooLong len) over = at_halt (halt.RecordTooLong len) over.stood
  cause_of (halt.OffsetTooLong len) over = by over.stood.2
    where
      by : IsHaltOfStood config now old.offset new report over.stood.0 (halt.OffsetTooLong len) → IsCauseOf config now old new report wal (halt.OffsetTooLong len)
      by (inl first) = inl (first.0, first_long config (history_at old) old.offset new first.1.0 len over.long first.0 first.1.2 first.1.3)
      by (inr subsequent) = inr (record {
        reading = subsequent.0;
        was = has_read config old.offset new report over.stood.0 subsequent.0 wal place (one over.stood.0 over.stood.1) subsequent.1;
        many = subsequent.1.many;
        offset = subsequent.2;
        next = subsequent.3;
        long = subsequent.4;
      })
  cause_of (halt.Model error) over = (over.is.0, over.absent)
  cause_of (halt.UnknownTable table) over = (over.is.0, over.absent)
  cause_of (halt.Gone asked first) over = record {
    beyond = confirmed_beyond (confirmed_at old) old.offset (over.gone asked first refl);
    by = over.is.0;
    asked_is = over.is.1;
    above = over.below.0;
    first_is = over.from asked first refl;
  }
  cause_of (halt.WatermarkMissing value at) over =
      (beyond_log old old.offset refl (is_rising (tables_of old.wal) (logged_in old.wal.entries)) (over.missing value at refl), at_halt (halt.WatermarkMissing value at) over.stood)
  cause_of (halt.Exhausted incarnation) over = over.is.1

  -- ---- over kept disks

  pub kept_halt : (left : Contents) (holds : List (List Record) → Type 0) (h : Halt) → left.wal ≡ wal → ((groups : List (List Record)) → holds groups → groups ≡ left.groups)
      → HasOwnTables old → IsKeptAfter (confirmed_at old) old.offset → IsWithinLog (history_at old) old.offset
      → IsHaltOver config now old new report stands h → IsFaithfulHalt (restart_at config now (found_in old)) new report stands holds h
      → IsKeptHalt config now old new report left h
  kept_halt left holds halt.Source same hold own subsequent within over content = tt
  kept_halt left holds halt.Sink same hold own subsequent within over content = tt
  kept_halt left holds halt.Offsets same hold own subsequent within over content = tt
  kept_halt left holds halt.Memory same hold own subsequent within over content = tt
  kept_halt left holds (halt.Message number error) same hold own subsequent within over content = over.own own
  kept_halt left holds (halt.Txn number error) same hold own subsequent within over content =
      subst (λ (x : Wal). IsOwnTxn config old x number error) (sym same) (own_txn number error (over.own own))
  kept_halt left holds (halt.Chunk table row) same hold own subsequent within over content = over.own own
  kept_halt left holds (halt.Altered table) same hold own subsequent within over content = over.own own
  kept_halt left holds (halt.Cell table column error) same hold own subsequent within over content =
      let here = over.own own in
      let all : here.0 ≡ standing_in left.wal place = one here.0 here.1 ∙ ap (λ (x : Wal). standing_in x place) (sym same) in
      (here.2, here.3, subst (λ (s : SourceState). IsOwnCell here.2 s.history table column error) all here.4)
  kept_halt left holds (halt.Clash table column) same hold own subsequent within over content =
      let all : content.0 ≡ standing_in left.wal place = one content.0 content.1 ∙ ap (λ (x : Wal). standing_in x place) (sym same) in
      let was = read_so content.0 content.1 content.2 content.3 (halt.Clash table column) over.stood in
      let front = has_read config old.offset new report content.0 content.2 left.wal place all was in
      (content.2, front, was.many, content.4, content.5, subst (λ (s : SourceState). IsOwnClash (restart_at config now (found_in old)) content.4 report s.history content.2 (halt.Clash table column)) all content.6)
  kept_halt left holds (halt.RecordTooLong len) same hold own subsequent within over content =
      let all : content.0 ≡ standing_in left.wal place = one content.0 content.1 ∙ ap (λ (x : Wal). standing_in x place) (sym same) in
      let was = read_so content.0 content.1 content.2 content.3 (halt.RecordTooLong len) over.stood in
      let front = has_read config old.offset new report content.0 content.2 left.wal place all was in
      (content.2, front, was.many, content.4, content.5, subst (λ (s : SourceState). IsOwnLong (restart_at config now (found_in old)) content.4 report s.history content.2 (halt.RecordTooLong len)) all content.6)
  kept_halt left holds (halt.OffsetTooLong len) same hold own subsequent within over content =
      let all : content.0 ≡ standing_in left.wal place = one content.0 content.1 ∙ ap (λ (x : Wal). standing_in x place) (sym same) in
      let here = subst (λ (s : SourceState). IsOwnOffset (restart_at config now (found_in old)) s (joined content.2) (halt.OffsetTooLong len)) all content.4 in
      let there = subst (λ (groups : List (List Record)). IsOwnOffset (restart_at config now (found_in old)) (standing_in left.wal place) (joined groups) (halt.OffsetTooLong len)) (hold content.2 content.3) here in
      record { offset = there.offset; identity = there.identity; captured = there.captured; is = there.is; long = there.long }
  kept_halt left holds (halt.Model error) same hold own subsequent within over content = tt
  kept_halt left holds (halt.UnknownTable table) same hold own subsequent within over content = tt
  kept_halt left holds (halt.Gone asked first) same hold own subsequent within over content = over.gone asked first refl subsequent
  kept_halt left holds (halt.WatermarkMissing value at) same hold own subsequent within over content = over.missing value at refl within
  kept_halt left holds (halt.Exhausted incarnation) same hold own subsequent within over content = tt
