-- What a turn of a session has stored, and what it reports.
use Rattle.std.proofs.Common.{◌≡◌, ◌∙◌, ◌⊎◌, inl, inr, ◌+◌, ◌≤◌, ◌<◌, ℕ, Bool, true, false, Option, Some, None, List, Result, Ok, Err, refl, sym, ap, subst, arith}
use Rattle.std.specs.Prelude.{if◌then◌else◌, is_ok}
use Rattle.dbl_record.specs.declared.record.Record.{Record}
use Rattle.dbl_capture_work.specs.Offset.declared.offset.Offset.{Offset}
use Rattle.dbl_capture_work.specs.declared.halt.Halt.{Halt}
use Rattle.dbl_capture_work.specs.declared.report.Report.{Report}
use Rattle.dbl_capture_work.specs.declared.work.SessionState.{SessionState}
use Rattle.dbl_capture_work.specs.Takes.{CountsOnlyRecords, ReportsStep}
use Rattle.dbl_capture_work.specs.Works.{next_offset_of}
use Rattle.dbl_capture_laws.specs.Ends.{HasOwnStored, IsAtPosition, IsReportAt}
use Rattle.dbl_capture_laws.specs.Turns.{IsCountedNext, IsDue}

-- ---- the offset that it began with, at another place in the log

abbrev pub IsPlacedOf : Offset → Offset → Type 0
IsPlacedOf first later = later ≡ record first { lsn = later.lsn; end_lsn = later.end_lsn }

pub placed_on : (first second third : Offset) → IsPlacedOf first second → IsPlacedOf second third → IsPlacedOf first third
placed_on first second third one two = two ∙ ap (λ (o : Offset). record o { lsn = third.lsn; end_lsn = third.end_lsn }) one

pub placed_same : (first second third : Offset) → second ≡ first → IsPlacedOf second third → IsPlacedOf first third
placed_same first second third same two = two ∙ ap (λ (o : Offset). record o { lsn = third.lsn; end_lsn = third.end_lsn }) same

pub placed_next : (first second third : Offset) → IsPlacedOf first second → third ≡ second → IsPlacedOf first third
placed_next first second third one same = subst (IsPlacedOf first) (sym same) one

-- ---- what is stored

-- the next offset of a session is its own
pub own_next : (first : Offset) (work : SessionState) (new : Option Offset) → IsPlacedOf first work.offset → new ≡ Some (next_offset_of work) → HasOwnStored first new
own_next first work new same is = record {
  offset = next_offset_of work;
  is = is;
  of = record {
    identity = ap (λ (o : Offset). o.identity) same;
    infos = ap (λ (o : Offset). o.infos) same;
    versions = ap (λ (o : Offset). o.versions) same;
    start = ap (λ (o : Offset). o.start) same;
    incarnation = ap (λ (o : Offset). o.incarnation) same;
  };
}

-- so is what a store leaves
pub own_stored : (ok : Bool) (held stored : Option Offset) (work : SessionState) (before after : Report) (first : Offset) → IsReportAt ok held stored work before after → IsPlacedOf first work.offset → HasOwnStored first held → HasOwnStored first stored
own_stored true held stored work before after first at same own = own_next first work stored same at.0
own_stored false held stored work before after first (inl rest) same own = subst (HasOwnStored first) (sym rest.0) own
own_stored false held stored work before after first (inr put) same own = own_next first work stored same put.0

-- ---- the report

pub at_same : (held : Option Offset) (before after : Report) → after.position ≡ before.position → IsAtPosition held before → IsAtPosition held after
at_same None before after same at = at
at_same (Some offset) before after same at = same ∙ at

at_next : (stored : Option Offset) (work : SessionState) (before after : Report) → stored ≡ Some (next_offset_of work) → after ≡ record before { position = work.offset.lsn.0 } → IsAtPosition stored after
at_next stored work before after is report = subst (λ (o : Option Offset). IsAtPosition o after) (sym is) (ap (λ (r : Report). r.position) report)

-- after a store it has the stored LSN
pub at_stored : (ok : Bool) (held stored : Option Offset) (work : SessionState) (before after : Report) → IsReportAt ok held stored work before after → IsAtPosition held before → IsAtPosition stored after
at_stored true held stored work before after is at = at_next stored work before after is.0 is.1
at_stored false held stored work before after (inl rest) at = at_same stored before after (ap (λ (r : Report). r.position) rest.1) (subst (λ (o : Option Offset). IsAtPosition o before) (sym rest.0) at)
at_stored false held stored work before after (inr put) at = at_next stored work before after put.0 put.1

-- after an error it may have none
pub report_err : {T : Type 0} (r : Result T Halt) (h : Halt) (held stored : Option Offset) (work : SessionState) (before after : Report) → r ≡ Err h
    → ((stored ≡ held) × (after ≡ before)) ⊎ ((stored ≡ Some (next_offset_of work)) × (after ≡ record before { position = work.offset.lsn.0 })) → IsReportAt (is_ok r) held stored work before after
report_err r h held stored work before after is either = subst (λ (x : Result _ Halt). IsReportAt (is_ok x) held stored work before after) (sym is) either

-- and the counts that it had
pub record HasSameCounts (before after : Report) : Type 0 where
  pub messages : after.messages ≡ before.messages
  pub commits : after.commits ≡ before.commits

same_counts : (work : SessionState) (before after : Report) → after ≡ record before { position = work.offset.lsn.0 } → HasSameCounts before after
same_counts work before after is = record { messages = ap (λ (r : Report). r.messages) is; commits = ap (λ (r : Report). r.commits) is }

pub counts_stored : (ok : Bool) (held stored : Option Offset) (work : SessionState) (before after : Report) → IsReportAt ok held stored work before after → HasSameCounts before after
counts_stored true held stored work before after is = same_counts work before after is.1
counts_stored false held stored work before after (inl rest) = record { messages = ap (λ (r : Report). r.messages) rest.1; commits = ap (λ (r : Report). r.commits) rest.1 }
counts_stored false held stored work before after (inr put) = same_counts work before after put.1

-- ---- the next message

pub record HasStepped (before after : Report) (more : ℕ) : Type 0 where
  pub messages : after.messages ≡ before.messages
  pub commits : after.commits ≡ before.commits + more
  pub position : after.position ≡ before.position

-- a step counts its records, and a commit where all of them were put
pub step_counts : (snapshot : Bool) (records : List Record) (before after : Report) (done : Bool) → ReportsStep snapshot records before after done → HasStepped before after (if done then 1 else 0)
step_counts snapshot records before after done r = record {
  messages = ap (λ (x : Report). x.messages) r.is ∙ ap (λ (x : Report). x.messages) r.records_are.report;
  commits = ap (λ (x : Report). x.commits) r.is ∙ ap (λ (x : Report). x.commits + (if done then 1 else 0)) r.records_are.report;
  position = ap (λ (x : Report). x.position) r.is ∙ ap (λ (x : Report). x.position) r.records_are.report;
}

pub counted_err : (r : Result (Option Bool) Halt) (h : Halt) (before after : Report) → r ≡ Err h → before.messages ≤ after.messages → after.messages ≤ before.messages + 1 → after.commits ≡ before.commits → after.position ≡ before.position → IsCountedNext r before after
counted_err r h before after is low high commits position = subst (λ (x : Result (Option Bool) Halt). IsCountedNext x before after) (sym is) (low, high, commits, position)

-- where the offset isn't due, fewer commits were followed
pub not_due : (old new : SessionState) (due : Bool) → due ≡ false → IsDue old new (Some due) → new.since < new.every
not_due old new due is (inl fewer) = fewer.1
not_due old new due is (inr most) = let wrong : true ≡ false = sym most.0 ∙ is in cc

-- ---- what a message counts

no_more : (n : ℕ) → n ≤ n + 1
no_more n = omega arith

same_le : (n : ℕ) → n ≤ n
same_le n = omega arith

-- none was read
pub counted_none : (r : Result (Option Bool) Halt) (h : Halt) (before : Report) → r ≡ Err h → IsCountedNext r before before
counted_none r h before is = counted_err r h before before is (same_le before.messages) (no_more before.messages) refl refl

-- one was, and had a fault
pub counted_fault : (r : Result (Option Bool) Halt) (h : Halt) (before : Report) → r ≡ Err h → IsCountedNext r before (record before { messages = before.messages + 1 })
counted_fault r h before is = counted_err r h before (record before { messages = before.messages + 1 }) is (no_more before.messages) (same_le (before.messages + 1)) refl refl

between : (a b : ℕ) → b ≡ a + 1 → (a ≤ b) × (b ≤ a + 1)
between a b is = (omega (arith, is), omega (arith, is))

pub none_more : (a b : ℕ) → b ≡ a + 0 → b ≡ a
none_more a b is = omega (arith, is)

-- one was, and the records of the commit that it ends weren't all put
pub counted_torn : (r : Result (Option Bool) Halt) (h : Halt) (snapshot : Bool) (records : List Record) (before after : Report) → r ≡ Err h → ReportsStep snapshot records (record before { messages = before.messages + 1 }) after false → IsCountedNext r before after
counted_torn r h snapshot records before after is noted =
    let st : HasStepped (record before { messages = before.messages + 1 }) after 0 = step_counts snapshot records (record before { messages = before.messages + 1 }) after false noted in
    let bounds = between before.messages after.messages st.messages in
    counted_err r h before after is bounds.0 bounds.1 (none_more before.commits after.commits st.commits) st.position

-- one was, and the records of its changes weren't all put
pub counted_open : (r : Result (Option Bool) Halt) (h : Halt) (before after : Report) → r ≡ Err h → CountsOnlyRecords (record before { messages = before.messages + 1 }) after → IsCountedNext r before after
counted_open r h before after is counts =
    let bounds = between before.messages after.messages (ap (λ (x : Report). x.messages) counts) in
    counted_err r h before after is bounds.0 bounds.1 (ap (λ (x : Report). x.commits) counts) (ap (λ (x : Report). x.position) counts)

-- or they were
pub counted_part : (due : Bool) (before after : Report) → CountsOnlyRecords (record before { messages = before.messages + 1 }) after → IsCountedNext (Ok (Some due)) before after
counted_part due before after counts =
    let commits : after.commits ≡ before.commits = ap (λ (x : Report). x.commits) counts in
    (ap (λ (x : Report). x.messages) counts, omega (arith, commits), ap (λ (x : Report). x.position) counts)
