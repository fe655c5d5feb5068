-- How far the closed windows of a session have advanced the stored cursors.
use Rattle.std.proofs.Common.{◌≡◌, ◌∙◌, ◌⊎◌, inl, inr, ◌+◌, ◌*◌, ◌≤◌, ℕ, Bool, true, false, Option, Some, None, List, [], ◌∷◌, ◌++◌, length, refl, sym, ap, subst, arith, append-nil, append_assoc}
use Rattle.std.specs.Prelude.{Result, Ok, Err, OnErr}
use Rattle.std.specs.List.{AllZip}
use Rattle.dbl_pgmsg.specs.declared.messages.Message.{Message}
use Rattle.dbl_topic.specs.Model.{SinkModel}
use Rattle.dbl_model_table.specs.declared.config.Config.{Config}
use Rattle.dbl_model_table.specs.declared.row.Key.{Key}
use Rattle.dbl_model_table.specs.declared.table.TableInfo.{TableInfo}
use Rattle.dbl_model_table.specs.Rows.{Rows}
use Rattle.dbl_capture_work.specs.ModelHistory.declared.cursor.Cursor.{Cursor}
use Rattle.dbl_capture_work.specs.Source.Model.{SourceModel}
use Rattle.dbl_capture_work.specs.Disk.Model.{DiskModel}
use Rattle.dbl_capture_work.specs.ModelHistory.History.{RawCommit, History}
use Rattle.dbl_capture_work.specs.SourceModel.Growth.{Grows}
use Rattle.dbl_capture_work.specs.SourceModel.Standings.{SourceState, CrashState, left_of}
use Rattle.dbl_capture_work.specs.Offset.declared.offset.Offset.{Offset}
use Rattle.dbl_capture_work.specs.OffsetStore.Stores.{StoreOn}
use Rattle.dbl_capture_work.specs.CaptureModel.Counted.{WasRead, ended_of, waiting}
use Rattle.dbl_capture_work.specs.CaptureModel.Entries.{SessionStart}
use Rattle.dbl_capture_work.specs.Follow.Followed.{Following}
use Rattle.dbl_capture_work.proofs.CaptureModelArming.{long_on, rows_on}
use Rattle.dbl_capture_work.proofs.CaptureModelCounts.{come_stays}
use Rattle.dbl_capture_work.specs.Faithful.Onward.{IsLaterCursor}
use Rattle.dbl_capture_work.specs.Begins.{IsOffsetFor}
use Rattle.dbl_capture_work.specs.declared.halt.Halt.{Halt}
use Rattle.dbl_capture_work.specs.declared.report.Report.{Report}
use Rattle.dbl_capture_work.specs.declared.work.SessionState.{SessionState}
use Rattle.dbl_capture_work.specs.Works.{HasOpen, next_offset_of, rest_in}
use Rattle.dbl_capture_laws.proofs.Opened.{closed_open, closed_rest}
use Rattle.dbl_capture_laws.proofs.Within.{open_cursors}
use Rattle.dbl_capture_laws.specs.Carried.{Beginning, IsResting}
use Rattle.dbl_capture_laws.specs.Ends.{IsReportAt}
use Rattle.dbl_capture_laws.specs.Sessions.{InSession}
use Rattle.dbl_capture_laws.specs.Written.{AdvancesAtMost, AreClosed, HaveBrought, IsLonger, WereBegun}
use Rattle.dbl_capture_laws.proofs.Halting.{infos_stored}
use Rattle.dbl_capture_laws.proofs.Written.{brought_by}

-- ---- a history with further commits

le_on : (a b c : ℕ) → a ≤ b → b ≤ c → a ≤ c
le_on a b c one two = omega (arith, one, two)

pub longer_grows : (old new : History) → Grows old new → IsLonger old new
longer_grows old new g = (g.others, record { tables = g.tables; commits = g.commits })

pub longer_left : (s : SourceState) (left : CrashState) → left ≡ left_of s → IsLonger s.history left.history
longer_left s left is = subst (λ (l : CrashState). IsLonger s.history l.history) (sym is) ([], record { tables = refl; commits = sym (append-nil s.history.commits) })

pub longer_on : (first second third : History) → IsLonger first second → IsLonger second third → IsLonger first third
longer_on first second third one two = (
  one.0 ++ two.0,
  record {
    tables = two.1.tables ∙ one.1.tables;
    commits = two.1.commits ∙ (ap (λ (l : List RawCommit). l ++ two.0) one.1.commits ∙ append_assoc first.commits one.0 two.0);
  },
)

-- what the windows read was read
was_on : (infos : List TableInfo) (old new : History) (longer : IsLonger old new) (cursors : List Cursor) (pair : ℕ × Key) → WasRead infos old cursors pair → WasRead infos new cursors pair
was_on infos old new longer cursors pair was = record {
  place = was.place;
  row = was.row;
  within = le_on was.place (length old.commits) (length new.commits) was.within (long_on old new longer.0 longer.1.commits);
  was = ap (λ (at : Rows). at pair.0 pair.1) (rows_on old new longer.0 longer.1.commits infos was.place was.within) ∙ was.was;
  cursor = was.cursor;
  cursor_is = was.cursor_is;
  read = was.read;
}

brought_longer : (chunk windows : ℕ) (old new : History) (found stored : Option Offset) → IsLonger old new → HaveBrought chunk windows old found stored → HaveBrought chunk windows new found stored
brought_longer chunk windows old new found stored longer was = record {
  begun = was.begun;
  begun_with = was.begun_with;
  offset = was.offset;
  is = was.is;
  advanced = come_stays was.offset.infos chunk windows old new was.begun was.offset.cursors (was_on was.offset.infos old new longer was.offset.cursors) was.advanced;
}

-- ---- where it stops

pub advances_by : (chunk windows chunks : ℕ) (old new : History) (found stored : Option Offset) → HaveBrought chunk windows old found stored → windows ≤ chunks → IsLonger old new → AdvancesAtMost chunk chunks new found stored
advances_by chunk windows chunks old new found stored was few longer = inr (windows, few, brought_longer chunk windows old new found stored longer was)

-- the next offset is stored, or the one before it still is
pub advances_stored : (ok : Bool) (held stored : Option Offset) (work : SessionState) (before after : Report) (chunk : ℕ) (history : History) (found : Option Offset) → IsReportAt ok held stored work before after
    → AdvancesAtMost chunk before.chunks history found held → AdvancesAtMost chunk before.chunks history found (Some (next_offset_of work)) → AdvancesAtMost chunk after.chunks history found stored
advances_stored true held stored work before after chunk history found reported was now =
    subst (λ (r : Report). AdvancesAtMost chunk r.chunks history found stored) (sym reported.1) (subst (AdvancesAtMost chunk before.chunks history found) (sym reported.0) now)
advances_stored false held stored work before after chunk history found (inl same) was now =
    subst (λ (r : Report). AdvancesAtMost chunk r.chunks history found stored) (sym same.1) (subst (AdvancesAtMost chunk before.chunks history found) (sym same.0) was)
advances_stored false held stored work before after chunk history found (inr next) was now =
    subst (λ (r : Report). AdvancesAtMost chunk r.chunks history found stored) (sym next.1) (subst (AdvancesAtMost chunk before.chunks history found) (sym next.0) now)

pub leaves_advanced : {T S : Type 0} (r : Result T Halt) (may_leave : S → CrashState → Type 0) (src : S) (chunk chunks : ℕ) (found stored : Option Offset)
    → ((left : CrashState) → may_leave src left → AdvancesAtMost chunk chunks left.history found stored)
    → OnErr r ((left : CrashState) → may_leave src left → AdvancesAtMost chunk chunks left.history found stored)
leaves_advanced (Ok x) may_leave src chunk chunks found stored f = tt
leaves_advanced (Err h) may_leave src chunk chunks found stored f = f

-- ---- where it begins

and_none : (n : ℕ) → n + 0 ≡ n
and_none n = omega arith

no_rows : (chunk : ℕ) → 0 ≡ 0 * chunk
no_rows chunk = omega arith

none_fewer : (n : ℕ) → 0 ≤ n
none_fewer n = omega arith

begun_with : (config : Config) (found : Option Offset) (offset : Offset) → IsOffsetFor config found offset → WereBegun found offset.cursors
begun_with config None offset for = for.5.each
begun_with config (Some old) offset for = ap (λ (o : Offset). o.cursors) for

same_cursors : (cursors : List Cursor) → AllZip IsLaterCursor cursors cursors
same_cursors [] = tt
same_cursors (cursor ∷ cursors) = (record { last = λ key up_to. up_to; done = λ is. is }, same_cursors cursors)

-- no window advanced the cursors of the first offset
pub advances_first : (config : Config) (found : Option Offset) (offset : Offset) (stored : Option Offset) (chunks : ℕ) (history : History) → IsOffsetFor config found offset → stored ≡ Some offset
    → AdvancesAtMost config.chunk chunks history found stored
advances_first config found offset stored chunks history for is = inr (
  0,
  none_fewer chunks,
  record {
    begun = offset.cursors;
    begun_with = begun_with config found offset for;
    offset = offset;
    is = is;
    advanced = record {
      full = 0;
      ended = 0;
      each = refl;
      tables = and_none (ended_of offset.cursors);
      read = [];
      many = no_rows config.chunk;
      were = tt;
      unread = tt;
      apart = record { apart = λ i j pair one two. (let wrong : ⊥ = cc in absurd wrong) };
      later = same_cursors offset.cursors;
    };
  },
)

pub advances_or_first : (config : Config) (found : Option Offset) (stored : Option Offset) (chunks : ℕ) (history : History) → (stored ≡ found) ⊎ ((offset : Offset) × (stored ≡ Some offset) × IsOffsetFor config found offset)
    → AdvancesAtMost config.chunk chunks history found stored
advances_or_first config found stored chunks history (inl same) = inl same
advances_or_first config found stored chunks history (inr first) = advances_first config found first.0 stored chunks history first.2 first.1

-- ---- by the session's invariant

module _ {S K D : Type 0} {tell : Bool} {source_model : SourceModel S} {sink_model : SinkModel K} {model : DiskModel D} {entry : SessionStart} {work : SessionState} {src : S} {sink : K} {store : StoreOn D}
    (s : InSession tell source_model sink_model model entry work src sink store) where
  closed_at : (chunks : ℕ) → AreClosed work chunks → s.stage.number ≡ chunks + waiting s.stage.following.window
  closed_at chunks closed = sym s.work_is.number_is ∙ (closed_rest s.ahead chunks closed ∙ ap (λ (f : Following). chunks + waiting f.window) s.work_is.follower_is)

  -- the offset that would be stored next
  pub brought_next : (chunks : ℕ) → AreClosed work chunks → HaveBrought entry.config.chunk chunks s.stage.history entry.offset (Some (next_offset_of work))
  brought_next chunks closed =
      brought_by entry s.stage (next_offset_of work) chunks (closed_at chunks closed) (ap (λ (o : Offset). o.infos) s.work_is.offset_is) (open_cursors s.stage.messages work s.ahead ∙ ap (λ (f : Following). f.cursors) s.work_is.follower_is) s.going.reading

  -- the stored one, between two messages
  pub brought_rest : (b : Beginning) (ms : List Message) (stored : Option Offset) (report : Report) (ahead : HasOpen ms work) → IsResting b ms stored (rest_in ahead) report
      → HaveBrought entry.config.chunk report.chunks s.stage.history entry.offset stored
  brought_rest b ms stored report ahead rests =
      subst (HaveBrought entry.config.chunk report.chunks s.stage.history entry.offset) (sym rests.is.stored_is)
      (brought_by entry s.stage rests.is.offset report.chunks (closed_at report.chunks (closed_open ahead report.chunks rests.is.windows))
      (sym (infos_stored b.config b.now b.held b.first rests.is.offset (rest_in ahead) rests.is.of) ∙ ap (λ (o : Offset). o.infos) s.work_is.offset_is)
      (rests.same ∙ (sym (open_cursors ms work ahead) ∙ (open_cursors s.stage.messages work s.ahead ∙ ap (λ (f : Following). f.cursors) s.work_is.follower_is))) s.going.reading)
