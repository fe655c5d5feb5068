-- How many watermarks are left where a session ends.
use Rattle.std.proofs.Common.{◌≡◌, ◌∙◌, ◌+◌, ℕ, Option, Some, None, List, Result, Ok, Err, sym, ap, subst, ◌≤◌, ◌<◌, ◌^◌, ◌-◌, ◌*◌, min, inl, inr, length, take, arith, false, true, refl}
use Rattle.std.specs.Prelude.{Bool, OnErr, OnOk}
use Rattle.dbl_capture_work.specs.SourceModel.Standings.{CrashState, SourceState, left_of}
use Rattle.dbl_capture_work.specs.Offset.declared.offset.Offset.{Offset}
use Rattle.dbl_capture_work.specs.CaptureModel.Counted.{waiting}
use Rattle.dbl_capture_work.specs.declared.halt.Halt.{Halt}
use Rattle.dbl_capture_work.specs.declared.work.SessionState.{SessionState}
use Rattle.dbl_capture_laws.specs.Ends.{HasOwnStored}
use Rattle.dbl_capture_laws.specs.Written.{AreClosed, AddsAtMost, AddsNoMore}
use Rattle.dbl_record.specs.declared.record.Record.{Record}
use Rattle.dbl_capture_work.specs.ModelHistory.History.{History, IsRising}
use Rattle.dbl_capture_work.specs.SourceModel.Growth.{Grows, marks_in}
use Rattle.dbl_capture_work.specs.SourceModel.Calls.{Moved}
use Rattle.dbl_capture_work.proofs.SourceModelGrowthLemmas.{grows_none}
use Rattle.dbl_capture_work.specs.declared.report.Report.{Report}
use Rattle.dbl_capture_work.specs.Begins.{MayRest}
use Rattle.dbl_capture_work.specs.Groups.{chunks_of}
use Rattle.dbl_capture_work.specs.Takes.{CountsOnlyRecords, ReportsStep}
use Rattle.dbl_capture_laws.proofs.StepMarks.{others_add_no_marks}

-- ---- where it ends

pub same_most : (n : ℕ) → n ≤ n
same_most n = omega arith

-- a report counts no fewer windows after a commit that wasn't put whole
more_counted : (n k a : ℕ) → n ≤ 2 ^ 64 - 1 → a ≡ min (n + k) (2 ^ 64 - 1) → n ≤ a
more_counted n k a small is = omega (arith, small, is)

few_closed : (n c w : ℕ) → n ≡ c + w → n < 2 ^ 64 → c ≤ 2 ^ 64 - 1
few_closed n c w is small = omega (arith, is, small)

pub torn_more : (snapshot : Bool) (records : List Record) (old : SessionState) (before after : Report) → AreClosed old before.chunks → old.number < 2 ^ 64 → ReportsStep snapshot records (record before { messages = before.messages + 1 }) after false → before.chunks ≤ after.chunks
torn_more snapshot records old before after closed small reports =
    more_counted before.chunks (chunks_of snapshot (take reports.records_are.count records)) after.chunks
    (few_closed old.number before.chunks (waiting old.follower.window) closed small)
    (ap (λ (r : Report). r.chunks) reports.is ∙ ap (λ (r : Report). r.chunks) reports.records_are.report)

-- nor after one that was
pub step_more : (snapshot : Bool) (records : List Record) (old : SessionState) (before after : Report) → AreClosed old before.chunks → old.number < 2 ^ 64 → ReportsStep snapshot records (record before { messages = before.messages + 1 }) after true → before.chunks ≤ after.chunks
step_more snapshot records old before after closed small reports =
    more_counted before.chunks (chunks_of snapshot records) after.chunks
    (few_closed old.number before.chunks (waiting old.follower.window) closed small)
    (ap (λ (r : Report). r.chunks) reports.is ∙ ap (λ (r : Report). r.chunks) (reports.all refl))

-- nor after changes of one
pub open_more : (before after : Report) → CountsOnlyRecords (record before { messages = before.messages + 1 }) after → before.chunks ≤ after.chunks
open_more before after counts = let same : after.chunks ≡ before.chunks = ap (λ (r : Report). r.chunks) counts in omega (arith, same)

-- nothing happened
pub left_rests : (history : History) (s : SourceState) (left : CrashState) → IsRising history → s.history ≡ history → left ≡ left_of s → Grows history left.history
left_rests history s left rise same is = subst (λ (h : History). Grows history h) (sym (ap (λ (l : CrashState). l.history) is ∙ same)) (grows_none history rise)

-- others may have committed
pub left_grows : (history : History) (t : SourceState) (left : CrashState) → Grows history t.history → left ≡ left_of t → Grows history left.history
left_grows history t left g is = subst (λ (l : CrashState). Grows history l.history) (sym is) g

pub moved_rest : (s t : SourceState) (left : CrashState) → Moved s t → left ≡ left_of t → MayRest s left
moved_rest s t left moved is = subst (λ (l : CrashState). MayRest s l) (sym is) (inr (record { grows = moved.grows; confirmed = moved.confirmed }))

pub rest_unmarked : (s : SourceState) (left : CrashState) → MayRest s left → marks_in left.history.commits ≡ marks_in s.history.commits
rest_unmarked s left (inl same) = ap (λ (l : CrashState). marks_in l.history.commits) same
rest_unmarked s left (inr may) = others_add_no_marks s.history left.history may.grows

-- no watermark, or few where an offset is stored
few_more : (a e c : ℕ) → a ≡ e → a ≤ e + 2 * (c + 1)
few_more a e c is = omega (arith, is)

pub none_most : (stored : Option Offset) (chunks : ℕ) (old new : History) → marks_in new.commits ≡ marks_in old.commits → AddsAtMost stored chunks old new
none_most None chunks old new same = same
none_most (Some offset) chunks old new same = few_more (length (marks_in new.commits)) (length (marks_in old.commits)) chunks (ap (λ (l : List (List ℕ)). length l) same)

pub stored_most : (first : Offset) (stored : Option Offset) (chunks : ℕ) (old new : History) → HasOwnStored first stored → AddsNoMore chunks old new → AddsAtMost stored chunks old new
stored_most first stored chunks old new own few = subst (λ (o : Option Offset). AddsAtMost o chunks old new) (sym own.is) few

-- it ends, or it stops with an error
pub either_most : {T : Type 0} (r : Result T Halt) (A B C : Type 0) {D : Type 0} → OnOk r A → OnOk r B → OnErr r D → (A → B → C) → (D → C) → C
either_most (Ok x) A B C a b d one two = one a b
either_most (Err h) A B C a b d one two = two d

-- so it is of all that is left where it stops with an error
pub leaves_most : {T S : Type 0} (r : Result T Halt) (may_leave : S → CrashState → Type 0) (src : S) (chunks : ℕ) (old : History) → ((left : CrashState) → may_leave src left → AddsNoMore chunks old left.history)
    → OnErr r ((left : CrashState) → may_leave src left → AddsNoMore chunks old left.history)
leaves_most (Ok x) may_leave src chunks old f = tt
leaves_most (Err h) may_leave src chunks old f = f
