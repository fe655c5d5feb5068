-- What the sink has where a session goes on, and what is left of it where it stops with an error.
use Rattle.std.proofs.Common.{◌≤◌, suc, ◌≡◌, ◌∙◌, ◌⊎◌, inl, inr, ◌+◌, ◌<◌, ◌^◌, ℕ, ℤ, Bool, true, false, Option, Some, None, List, [], ◌∷◌, ◌++◌, Result, Ok, Err, length, drop, refl, sym, ap, subst, append-nil, arith}
use Rattle.std.specs.Prelude.{IfErr, IsSome, OnOk, is_some}
use Rattle.dbl_pgmsg.specs.declared.messages.Message.{Message}
use Rattle.dbl_pgmsg.specs.Grammar.{Spells}
use Rattle.dbl_record.specs.declared.record.Record.{Record}
use Rattle.dbl_record.specs.Cuts.{cut}
use Rattle.dbl_topic.specs.Model.{SinkModel}
use Rattle.dbl_capture_work.specs.Source.Model.{SourceModel}
use Rattle.dbl_model_table.specs.declared.config.Config.{Config}
use Rattle.dbl_model_table.specs.declared.change.Commit.{Commit}
use Rattle.dbl_capture_work.specs.ModelCommit.Past.{begin_of}
use Rattle.dbl_capture_work.specs.ModelEvent.Clashes.{Clash}
use Rattle.dbl_capture_work.specs.ModelHistory.Ranges.{IsMomentInRange}
use Rattle.dbl_capture_work.specs.SourceModel.Calls.{HasReadOneMore}
use Rattle.dbl_capture_work.specs.SourceModel.Standings.{SourceState, HasState}
use Rattle.dbl_capture_work.specs.SourceModel.Trace.{Trace, IsTakenBy}
use Rattle.dbl_capture_work.specs.Offset.declared.offset.Offset.{Offset}
use Rattle.dbl_capture_work.specs.Follow.Steps.{clash_by, mark_of, records_by}
use Rattle.dbl_capture_work.specs.declared.halt.Halt.{Halt}
use Rattle.dbl_capture_work.specs.declared.halt.Halt.TheVariants as halt
use Rattle.dbl_capture_work.specs.declared.report.Ending.{Ending}
use Rattle.dbl_capture_work.specs.declared.report.Report.{Report}
use Rattle.dbl_capture_work.specs.declared.work.SessionState.{SessionState}
use Rattle.dbl_capture_work.specs.Causes.{IsLongRecord}
use Rattle.dbl_capture_work.specs.Groups.{HoldsPut, WasTorn, counted}
use Rattle.dbl_capture_work.specs.Takes.{HasSnapshotRecords, IsClashIn, IsLeftByStep, LeftOpen, WasTaken, open_released}
use Rattle.dbl_capture_work.specs.Works.{open_commit, rest_in, resting}
use Rattle.dbl_capture_laws.specs.Gained.{Gains, HasCountedGroups, ReportsGroups}
use Rattle.dbl_capture_laws.specs.Carried.{Beginning, IsNewestCause}
use Rattle.dbl_capture_laws.proofs.Ended.{cause_left}
use Rattle.dbl_capture_laws.specs.Sinks.{HasHaltedPut, HasPutCommit, IsPutting}
use Rattle.dbl_capture_laws.proofs.Ahead.{rest_taken}
use Rattle.dbl_capture_laws.proofs.Sinks.{changes_fail, changes_halt, commits_halt, puts_fail}
use Rattle.dbl_capture_laws.specs.Putting.{PutsOn}
use Rattle.dbl_capture_laws.proofs.StepCauses.{OfNone, OfSource, OfStore}
use Rattle.dbl_capture_laws.proofs.Telling.{IsTornCount, follow_cause}

-- ---- halts that aren't the sink's

pub source_other : (h : Halt) → OfSource h → h ≡ halt.Sink → ⊥
source_other h of is = subst OfSource is of

pub store_other : (h : Halt) → OfStore h → h ≡ halt.Sink → ⊥
store_other h of is = subst OfStore is of

pub none_other : (h : Halt) → OfNone h → h ≡ halt.Sink → ⊥
none_other h of is = subst OfNone is of

memory_other : (h : Halt) → h ≡ halt.Memory → h ≡ halt.Sink → ⊥
memory_other h memory is = cc

clash_other : (clash : Option Clash) (h : Halt) → IsClashIn clash h → h ≡ halt.Sink → ⊥
clash_other None h clash is = absurd clash
clash_other (Some c) h clash is = cc

long_other : (records : List Record) (h : Halt) → IsLongRecord records h → h ≡ halt.Sink → ⊥
long_other records h long is = let at = long.is in cc

pub either_of : {T : Type 0} (r : Result T Halt) (A : Type 0) (B : Halt → Type 0) (C : Type 0) → OnOk r A → IfErr r B → (A → C) → ((h : Halt) → B h → C) → C
either_of (Ok x) A B C a b f g = f a
either_of (Err h) A B C a b f g = g h b

-- ---- it goes on

module _ {S K : Type 0} (source_model : SourceModel S) (sink_model : SinkModel K) (groups : List (List Record)) (at : Option SourceState) (found : Option Trace) (b : Beginning) (stored : Option Offset) (work : SessionState) (report : Report)
    (src : S) (sink : K) where
  abbrev Goes : Option Bool → Type 0
  Goes o = PutsOn source_model sink_model groups at found b stored work report src sink o

  pub puts_due : (due : Bool) → (due ≡ true → HasPutCommit source_model sink_model groups at found b stored work report src sink) → (due ≡ false → IsPutting source_model sink_model groups at found b stored work report src sink) → Goes (Some due)
  puts_due true committed rests = committed refl
  puts_due false committed rests = rests refl

  pub puts_true : (o : Option Bool) (due : Bool) → o ≡ Some due → due ≡ true → Goes o → HasPutCommit source_model sink_model groups at found b stored work report src sink
  puts_true o due is yes_is puts = subst Goes (is ∙ ap (λ (d : Bool). Some d) yes_is) puts

  pub puts_false : (o : Option Bool) (due : Bool) → o ≡ Some due → due ≡ false → Goes o → IsPutting source_model sink_model groups at found b stored work report src sink
  puts_false o due is no_is puts = subst Goes (is ∙ ap (λ (d : Bool). Some d) no_is) puts

  pub puts_none : (o : Option Bool) → o ≡ None → Goes o → IsPutting source_model sink_model groups at found b stored work report src sink
  puts_none o is puts = subst Goes is puts

-- so many messages were taken
pub few_taken : (n m : ℕ) → n ≡ m → m < 2 ^ 30 → n < 2 ^ 30
few_taken n m is lt = omega (arith, is, lt)

-- and so many with the next one
pub few_more : (n m : ℕ) → n ≡ m → m < 2 ^ 30 → suc n ≤ 2 ^ 30
few_more n m is lt = omega (arith, is, lt)

-- ---- in the middle of a commit

module _ {S K : Type 0} (source_model : SourceModel S) (sink_model : SinkModel K) (groups : List (List Record)) (at : Option SourceState) (found : Option Trace) (b : Beginning) (stored : Option Offset)
    (src src2 : S) (sink sink2 : K) (old next : SessionState) (before report : Report) (u : IsPutting source_model sink_model groups at found b stored old before src sink)
    (bytes : List ℕ) (commit : Commit) (rest : List Record) (w : WasTaken b.first.lsn u.way.messages bytes old next (Some commit)) (many : length u.way.messages < 2 ^ 30) (moment : IsMomentInRange old.now_ms)
    (whole : records_by u.way.ahead.start commit next.now_ms ≡ u.way.ahead.put ++ rest) (h : Halt)
    (leaves : (left : List (List Record)) → sink_model.may_leave sink2 left → IsLeftByStep commit (resting u.way.ahead.start next) u.way.ahead.put (groups ++ cut u.put.records) left) (may : (held : List (List Record)) → sink_model.holds sink2 held → sink_model.may_leave sink2 held)
    (kept : (h ≡ halt.Sink → ⊥) → HoldsPut sink_model.holds (groups ++ cut u.put.records) (is_some (mark_of commit)) u.way.ahead.put rest (record before { messages = before.messages + 1 }) report sink2)
    (torn : h ≡ halt.Sink → WasTorn sink_model (groups ++ cut u.put.records) (is_some (mark_of commit)) u.way.ahead.put rest (record before { messages = before.messages + 1 }) report sink2)
    (counts : IsTornCount before report) (clear : h ≡ halt.Sink → clash_by u.way.ahead.start commit ≡ None) (listed : h ≡ halt.Sink → HasSnapshotRecords commit (resting u.way.ahead.start next))
    (one : IsTakenBy (bytes ∷ []) (source_model.told src) (source_model.told src2)) (took : (s : SourceState) → source_model.stands src s → (m : Message) × Spells bytes m × HasState source_model.stands src2 (HasReadOneMore m s)) (same : (s t : SourceState) → source_model.stands src2 s → source_model.stands src2 t → s ≡ t)
    (cause : (h ≡ halt.Memory) ⊎ ((h ≡ halt.Sink) ⊎ (IsClashIn (clash_by u.way.ahead.start commit) h ⊎ ((clash_by u.way.ahead.start commit ≡ None) × IsLongRecord (records_by u.way.ahead.start commit next.now_ms) h)))) where
  newest_cause : IsNewestCause report.messages b.first.lsn u.way.messages bytes (rest_in u.way.ahead) h
  newest_cause = follow_cause report.messages b.first.lsn u.way.messages bytes (rest_in u.way.ahead) (resting u.way.ahead.start next) commit h
      (rest_taken b.first.lsn u.way.messages bytes old next (Some commit) u.way.ahead.start w) clear cause

  other_halts : (h ≡ halt.Sink → ⊥) → HasHaltedPut source_model sink_model groups at b.config b.now b.held stored report src2 sink2 h
  other_halts other =
      commits_halt source_model sink_model groups at found b stored src src2 sink sink2 old next before report u bytes commit rest w many moment whole h leaves may other (kept other)
      (cause_left report.messages b.first.lsn u.way.messages bytes (rest_in u.way.ahead) h newest_cause) counts.messages counts.commits one took same

  pub follow_puts : HasHaltedPut source_model sink_model groups at b.config b.now b.held stored report src2 sink2 h
  follow_puts = by cause
    where
      by : (h ≡ halt.Memory) ⊎ ((h ≡ halt.Sink) ⊎ (IsClashIn (clash_by u.way.ahead.start commit) h ⊎ ((clash_by u.way.ahead.start commit ≡ None) × IsLongRecord (records_by u.way.ahead.start commit next.now_ms) h)))
          → HasHaltedPut source_model sink_model groups at b.config b.now b.held stored report src2 sink2 h
      by (inl memory) = other_halts (memory_other h memory)
      by (inr (inl failed)) = puts_fail source_model sink_model groups at found b stored src src2 sink sink2 old next before report u bytes commit rest w many moment whole h leaves failed (torn failed) (clear failed) (listed failed) took same
      by (inr (inr (inl is))) = other_halts (clash_other (clash_by u.way.ahead.start commit) h is)
      by (inr (inr (inr long))) = other_halts (long_other (records_by u.way.ahead.start commit next.now_ms) h long.1)

-- ---- in the middle of changes

-- an error is the sink's failure, or another one
pub sink_or_other : (h : Halt) → (h ≡ halt.Sink) ⊎ (h ≡ halt.Sink → ⊥)
sink_or_other halt.Sink = inl refl
sink_or_other h = inr (λ is. cc)

module _ {S K : Type 0} (source_model : SourceModel S) (sink_model : SinkModel K) (groups : List (List Record)) (at : Option SourceState) (found : Option Trace) (b : Beginning) (stored : Option Offset)
    (src src2 : S) (sink sink2 : K) (old next : SessionState) (before report : Report) (u : IsPutting source_model sink_model groups at found b stored old before src sink)
    (bytes : List ℕ) (w : WasTaken b.first.lsn u.way.messages bytes old next None)
    (inside : IsSome (begin_of (w.message ∷ u.way.messages))) (many : length (w.message ∷ u.way.messages) ≤ 2 ^ 30) (moment : IsMomentInRange old.now_ms) (h : Halt) where
  abbrev more : Commit
  more = open_commit next.offset.infos (w.message ∷ u.way.messages)

  abbrev after_put : List Record
  after_put = drop (length u.way.ahead.put) (open_released (resting u.way.ahead.start next) more)

  -- what stops it is the sink's failure, or another cause
  pub change_puts : ((left : List (List Record)) → sink_model.may_leave sink2 left
      → (left ≡ (groups ++ cut u.put.records) ++ cut u.way.ahead.put) ⊎ LeftOpen more (resting u.way.ahead.start next) (groups ++ cut u.put.records) left) → ((held : List (List Record)) → sink_model.holds sink2 held → sink_model.may_leave sink2 held)
      → ((h ≡ halt.Sink → ⊥) → HoldsPut sink_model.holds (groups ++ cut u.put.records) false u.way.ahead.put after_put (record before { messages = before.messages + 1 }) report sink2)
      → (h ≡ halt.Sink → WasTorn sink_model (groups ++ cut u.put.records) false u.way.ahead.put after_put (record before { messages = before.messages + 1 }) report sink2)
      → (h ≡ halt.Sink → u.way.ahead.put ++ after_put ≡ open_released (resting u.way.ahead.start next) more)
      → IsTornCount before report → IsNewestCause report.messages b.first.lsn u.way.messages bytes (rest_in u.way.ahead) h
      → IsTakenBy (bytes ∷ []) (source_model.told src) (source_model.told src2) → ((s : SourceState) → source_model.stands src s → (m : Message) × Spells bytes m × HasState source_model.stands src2 (HasReadOneMore m s)) → ((s t : SourceState) → source_model.stands src2 s → source_model.stands src2 t → s ≡ t)
      → (h ≡ halt.Sink) ⊎ (h ≡ halt.Sink → ⊥) → HasHaltedPut source_model sink_model groups at b.config b.now b.held stored report src2 sink2 h
  change_puts leaves may kept torn released counts cause one took same (inl failed) =
      changes_fail source_model sink_model groups at found b stored src src2 sink sink2 old next before report u bytes w many moment inside h leaves failed (torn failed) (released failed) took same
  change_puts leaves may kept torn released counts cause one took same (inr other) =
      changes_halt source_model sink_model groups at found b stored src src2 sink sink2 old next before report u bytes w many moment inside h leaves may other (kept other)
      (cause_left report.messages b.first.lsn u.way.messages bytes (rest_in u.way.ahead) h cause) counts.messages counts.commits one took same

-- ---- nothing was put

pub gains_nothing : (config : Config) (now : ℤ) (old new : Option Offset) (groups left : List (List Record)) → left ≡ groups → Gains config now old new groups left
gains_nothing config now old None groups left same = same
gains_nothing config now old (Some offset) groups left same = record {
  commits = [];
  records = [];
  sent = record { parts = []; each = tt; whole = refl; rising = tt };
  count = 0;
  is = same ∙ sym (append-nil groups);
}

no_count : (n : ℕ) → n ≡ 0 → n ≡ counted 0 0
no_count n is = is

pub counts_nothing : {K : Type 0} (holds : K → List (List Record) → Type 0) (groups : List (List Record)) (sink : K) (report : Report) → holds sink groups → report.records ≡ 0 → report.chunks ≡ 0 → report.snapshot_rows ≡ 0 → HasCountedGroups holds groups sink report
counts_nothing holds groups sink report held one two three = record {
  more = [];
  held = subst (holds sink) (sym (append-nil groups)) held;
  are = record { records = no_count report.records one; chunks = no_count report.chunks two; rows = no_count report.snapshot_rows three };
}

pub reported_other : {K : Type 0} (holds may_leave : K → List (List Record) → Type 0) (groups : List (List Record)) (h : Halt) (sink : K) (report : Report) → (h ≡ halt.Sink → ⊥) → HasCountedGroups holds groups sink report → ReportsGroups {A = Ending} holds may_leave groups (Err h) sink report
reported_other holds may_leave groups halt.Sink sink report other is = absurd (other refl)
reported_other holds may_leave groups h sink report other is = is
