-- What the status of `init` tells of how it ended, and of what it left.
use Rattle.std.proofs.Common.{◌≡◌, ◌≢◌, ◌⊎◌, inl, inr, ◌∙◌, ℕ, Option, Ok, Err, List, refl, ap, subst}
use Rattle.std.specs.Prelude.{OnOk}
use Rattle.dblog_init.specs.declared.error.InitError.{InitError}
use Rattle.dblog_init.specs.declared.error.InitError.TheVariants as init
use Rattle.dblog_init.specs.declared.error.Store.{Store}
use Rattle.dblog_init.specs.declared.error.Store.TheVariants as store
use Rattle.dblog_init.specs.Answers as inits
use Rattle.dblog_init.specs.Disks.{IsAtMostMeasured, LeavesDisk}
use Rattle.dblog_init.specs.Disks as disks
use Rattle.dblog_run_stores.specs.Inits.{FinishesInit, IsInitAnswer, IsInitLeft, IsUnmade, IsUnwritten, IsDiskUntouched}
use Rattle.dblog_capture_text.proofs.InitStatuses.{failed_error, no_zero, not_store, store_whole}
use Rattle.dblog_run_stores.proofs.InitLemmas.{end_status, finished_status}
use Rattle.dblog_capture_text.specs.Ends.{store_status}
use Rattle.dbl_lines.specs.declared.status.Status.{Status}
use Rattle.dbl_lines.specs.declared.status.Status.TheVariants.{Done, Unsupported, SourceFailed, TopicsFailed, OffsetsFailed}
use Rattle.dbl_lines.specs.declared.status.Status.TheVariants.{StdinFailed, OutOfMemory, InvalidInput, InvalidStore}
use Rattle.dbl_lines.proofs.SayLemmas.{cut_other}
use Rattle.dbl_lines.specs.Says.{IsCutShort}
use Rattle.dbl_disk.specs.Model.{DiskModel}

-- ---- numbers

not_answer : (n : Status) → (n ≢ Done) × (n ≢ Unsupported) × (n ≢ InvalidInput) → IsInitAnswer n → ⊥
not_answer n apart (inl is) = apart.0 is
not_answer n apart (inr (inl is)) = apart.1 is
not_answer n apart (inr (inr is)) = apart.2 is

answer_whole : (status : Status) → IsInitAnswer status → IsCutShort status → ⊥
answer_whole status (inl is) cut = cut_other Done status (λ e. cc, λ e. cc) cut is
answer_whole status (inr (inl is)) cut = cut_other Unsupported status (λ e. cc, λ e. cc) cut is
answer_whole status (inr (inr is)) cut = cut_other InvalidInput status (λ e. cc, λ e. cc) cut is

wal_written : (n : Status) → (n ≢ Unsupported) × (n ≢ StdinFailed) × (n ≢ InvalidInput) × (n ≢ InvalidStore) → IsUnwritten store.Wal n → ⊥
wal_written n apart (inl is) = apart.0 is
wal_written n apart (inr (inl is)) = apart.1 is
wal_written n apart (inr (inr (inl is))) = apart.2 is
wal_written n apart (inr (inr (inr is))) = apart.3 is

topics_written : (n : Status) → n ≢ SourceFailed → (n ≢ Unsupported) × (n ≢ StdinFailed) × (n ≢ InvalidInput) × (n ≢ InvalidStore) → IsUnwritten store.Topics n → ⊥
topics_written n wal apart (inl is) = wal is
topics_written n wal apart (inr before) = wal_written n apart before

offsets_written : (n : Status) → n ≢ TopicsFailed → n ≢ SourceFailed → (n ≢ Unsupported) × (n ≢ StdinFailed) × (n ≢ InvalidInput) × (n ≢ InvalidStore) → IsUnwritten store.Offsets n → ⊥
offsets_written n topics wal apart (inl is) = topics is
offsets_written n topics wal apart (inr before) = topics_written n wal apart before

-- ---- ends

failed_of : (made : Store) (end : inits.InitEnd) → end_status end ≡ store_status made → end ≡ Err (init.Failed made)
failed_of made (Ok done) is = absurd (not_store made Done (λ e. cc, λ e. cc, λ e. cc) is)
failed_of made (Err e) is = ap (λ (x : InitError). let end : inits.InitEnd = Err x in end) (failed_error made e is)

full_of : (end : inits.InitEnd) → end_status end ≡ InvalidStore → inits.IsBeforeInput end
full_of (Ok done) is = absurd (let wrong : Done ≡ InvalidStore = is in cc)
full_of (Err (init.NotEmpty held)) is = tt
full_of (Err (init.Failed store.Wal)) is = absurd (let wrong : SourceFailed ≡ InvalidStore = is in cc)
full_of (Err (init.Failed store.Topics)) is = absurd (let wrong : TopicsFailed ≡ InvalidStore = is in cc)
full_of (Err (init.Failed store.Offsets)) is = absurd (let wrong : OffsetsFailed ≡ InvalidStore = is in cc)
full_of (Err init.InputFailed) is = absurd (let wrong : StdinFailed ≡ InvalidStore = is in cc)
full_of (Err init.InputTooLong) is = absurd (let wrong : InvalidInput ≡ InvalidStore = is in cc)
full_of (Err (init.Script e)) is = absurd (let wrong : InvalidInput ≡ InvalidStore = is in cc)
full_of (Err (init.Model e)) is = absurd (let wrong : Unsupported ≡ InvalidStore = is in cc)
full_of (Err init.Memory) is = absurd (let wrong : OutOfMemory ≡ InvalidStore = is in cc)

-- what the input means was told
abbrev IsToldInput : List ℕ → inits.InitEnd → Type 0
IsToldInput bytes end = inits.AnswersInput bytes end ⊎ (inits.IsBeforeInput end ⊎ inits.IsExternalInitEnd end)

long_told : (bytes : List ℕ) → IsToldInput bytes (Err init.InputTooLong) → inits.AnswersInput bytes (Err init.InputTooLong)
long_told bytes (inl answers) = answers
long_told bytes (inr (inl before)) = absurd before
long_told bytes (inr (inr outside)) = absurd outside

whole_of : (bytes : List ℕ) (left : Type 0) (end : inits.InitEnd) → IsInitAnswer (end_status end) → (inits.ReportsInput end → left) → IsToldInput bytes end → inits.AnswersInput bytes (Err init.InputTooLong) ⊎ left
whole_of bytes left (Ok done) is tells told = inr (tells tt)
whole_of bytes left (Err (init.Script e)) is tells told = inr (tells tt)
whole_of bytes left (Err (init.Model e)) is tells told = inr (tells tt)
whole_of bytes left (Err init.InputTooLong) is tells told = inl (long_told bytes told)
whole_of bytes left (Err (init.NotEmpty held)) is tells told = absurd (not_answer InvalidStore (λ e. cc, λ e. cc, λ e. cc) is)
whole_of bytes left (Err (init.Failed store.Wal)) is tells told = absurd (not_answer SourceFailed (λ e. cc, λ e. cc, λ e. cc) is)
whole_of bytes left (Err (init.Failed store.Topics)) is tells told = absurd (not_answer TopicsFailed (λ e. cc, λ e. cc, λ e. cc) is)
whole_of bytes left (Err (init.Failed store.Offsets)) is tells told = absurd (not_answer OffsetsFailed (λ e. cc, λ e. cc, λ e. cc) is)
whole_of bytes left (Err init.InputFailed) is tells told = absurd (not_answer StdinFailed (λ e. cc, λ e. cc, λ e. cc) is)
whole_of bytes left (Err init.Memory) is tells told = absurd (not_answer OutOfMemory (λ e. cc, λ e. cc, λ e. cc) is)

unwritten_of : (made : Store) (end : inits.InitEnd) → IsUnwritten made (end_status end) → disks.EndsBeforeWriting made end
unwritten_of store.Wal (Ok done) is = wal_written Done (λ e. cc, λ e. cc, λ e. cc, λ e. cc) is
unwritten_of store.Topics (Ok done) is = topics_written Done (λ e. cc) (λ e. cc, λ e. cc, λ e. cc, λ e. cc) is
unwritten_of store.Offsets (Ok done) is = offsets_written Done (λ e. cc) (λ e. cc) (λ e. cc, λ e. cc, λ e. cc, λ e. cc) is
unwritten_of store.Wal (Err (init.Failed store.Wal)) is = wal_written SourceFailed (λ e. cc, λ e. cc, λ e. cc, λ e. cc) is
unwritten_of store.Wal (Err (init.Failed store.Topics)) is = wal_written TopicsFailed (λ e. cc, λ e. cc, λ e. cc, λ e. cc) is
unwritten_of store.Wal (Err (init.Failed store.Offsets)) is = wal_written OffsetsFailed (λ e. cc, λ e. cc, λ e. cc, λ e. cc) is
unwritten_of store.Topics (Err (init.Failed store.Wal)) is = tt
unwritten_of store.Topics (Err (init.Failed store.Topics)) is = topics_written TopicsFailed (λ e. cc) (λ e. cc, λ e. cc, λ e. cc, λ e. cc) is
unwritten_of store.Topics (Err (init.Failed store.Offsets)) is = topics_written OffsetsFailed (λ e. cc) (λ e. cc, λ e. cc, λ e. cc, λ e. cc) is
unwritten_of store.Offsets (Err (init.Failed store.Wal)) is = tt
unwritten_of store.Offsets (Err (init.Failed store.Topics)) is = tt
unwritten_of store.Offsets (Err (init.Failed store.Offsets)) is = offsets_written OffsetsFailed (λ e. cc) (λ e. cc) (λ e. cc, λ e. cc, λ e. cc, λ e. cc) is
unwritten_of store.Wal (Err init.Memory) is = wal_written OutOfMemory (λ e. cc, λ e. cc, λ e. cc, λ e. cc) is
unwritten_of store.Topics (Err init.Memory) is = tt
unwritten_of store.Offsets (Err init.Memory) is = tt
unwritten_of store.Wal (Err (init.NotEmpty held)) is = tt
unwritten_of store.Topics (Err (init.NotEmpty held)) is = tt
unwritten_of store.Offsets (Err (init.NotEmpty held)) is = tt
unwritten_of store.Wal (Err init.InputFailed) is = tt
unwritten_of store.Topics (Err init.InputFailed) is = tt
unwritten_of store.Offsets (Err init.InputFailed) is = tt
unwritten_of store.Wal (Err init.InputTooLong) is = tt
unwritten_of store.Topics (Err init.InputTooLong) is = tt
unwritten_of store.Offsets (Err init.InputTooLong) is = tt
unwritten_of store.Wal (Err (init.Script e)) is = tt
unwritten_of store.Topics (Err (init.Script e)) is = tt
unwritten_of store.Offsets (Err (init.Script e)) is = tt
unwritten_of store.Wal (Err (init.Model e)) is = tt
unwritten_of store.Topics (Err (init.Model e)) is = tt
unwritten_of store.Offsets (Err (init.Model e)) is = tt

unmade_whole : (status : Status) → IsUnmade status → IsCutShort status → ⊥
unmade_whole status (inl is) cut = cut_other Unsupported status (λ e. cc, λ e. cc) cut is
unmade_whole status (inr (inl is)) cut = cut_other StdinFailed status (λ e. cc, λ e. cc) cut is
unmade_whole status (inr (inr (inl is))) cut = cut_other InvalidInput status (λ e. cc, λ e. cc) cut is
unmade_whole status (inr (inr (inr is))) cut = cut_other InvalidStore status (λ e. cc, λ e. cc) cut is

unwritten_whole : (made : Store) (status : Status) → IsUnwritten made status → IsCutShort status → ⊥
unwritten_whole store.Wal status unmade cut = unmade_whole status unmade cut
unwritten_whole store.Topics status (inl is) cut = cut_other SourceFailed status (λ e. cc, λ e. cc) cut is
unwritten_whole store.Topics status (inr unmade) cut = unmade_whole status unmade cut
unwritten_whole store.Offsets status (inl is) cut = cut_other TopicsFailed status (λ e. cc, λ e. cc) cut is
unwritten_whole store.Offsets status (inr (inl is)) cut = cut_other SourceFailed status (λ e. cc, λ e. cc) cut is
unwritten_whole store.Offsets status (inr (inr unmade)) cut = unmade_whole status unmade cut

-- ---- by the status

module _ (end : inits.InitEnd) (status : Status) (before after : Option (List ℕ)) (finishes : FinishesInit end status before after) where
  -- where it wasn't cut short, the status is that of the end
  own_end : (P : Status → Type 0) → (P status → IsCutShort status → ⊥) → P status → P (end_status end)
  own_end P whole is = elim (finished_status end status before after finishes) [ inl same ↦ subst P same is | inr cut ↦ absurd (whole is cut) ]

  pub answered_whole : (bytes : List ℕ) (left : Type 0) → IsInitAnswer status → (inits.ReportsInput end → left) → IsToldInput bytes end → inits.AnswersInput bytes (Err init.InputTooLong) ⊎ left
  answered_whole bytes left is tells told = whole_of bytes left end (own_end IsInitAnswer (answer_whole status) is) tells told

  pub full_end : status ≡ InvalidStore → inits.IsBeforeInput end
  full_end is = full_of end (own_end (λ (n : Status). n ≡ InvalidStore) (λ same cut. cut_other InvalidStore status (λ e. cc, λ e. cc) cut same) is)

  pub made_end : (P : Type 0) → OnOk end P → status ≡ Done → P
  made_end P made is = by end (own_end (λ (n : Status). n ≡ Done) (λ same cut. cut_other Done status (λ e. cc, λ e. cc) cut same) is) made
    where
      by : (x : inits.InitEnd) → end_status x ≡ Done → OnOk x P → P
      by (Ok done) same p = p
      by (Err e) same p = absurd (no_zero e same)

  pub failed_end : (made : Store) → status ≡ store_status made → end ≡ Err (init.Failed made)
  failed_end made is = failed_of made end (own_end (λ (n : Status). n ≡ store_status made) (store_whole made status) is)

  pub input_end : status ≡ StdinFailed → end ≡ Err init.InputFailed
  input_end is = by end (own_end (λ (n : Status). n ≡ StdinFailed) (λ same cut. cut_other StdinFailed status (λ e. cc, λ e. cc) cut same) is)
    where
      by : (x : inits.InitEnd) → end_status x ≡ StdinFailed → x ≡ Err init.InputFailed
      by (Ok done) same = absurd (let wrong : Done ≡ StdinFailed = same in cc)
      by (Err init.InputFailed) same = refl
      by (Err (init.NotEmpty held)) same = absurd (let wrong : InvalidStore ≡ StdinFailed = same in cc)
      by (Err (init.Failed store.Wal)) same = absurd (let wrong : SourceFailed ≡ StdinFailed = same in cc)
      by (Err (init.Failed store.Topics)) same = absurd (let wrong : TopicsFailed ≡ StdinFailed = same in cc)
      by (Err (init.Failed store.Offsets)) same = absurd (let wrong : OffsetsFailed ≡ StdinFailed = same in cc)
      by (Err init.InputTooLong) same = absurd (let wrong : InvalidInput ≡ StdinFailed = same in cc)
      by (Err (init.Script e)) same = absurd (let wrong : InvalidInput ≡ StdinFailed = same in cc)
      by (Err (init.Model e)) same = absurd (let wrong : Unsupported ≡ StdinFailed = same in cc)
      by (Err init.Memory) same = absurd (let wrong : OutOfMemory ≡ StdinFailed = same in cc)

  fails_so : (made : Store) → end ≡ Err (init.Failed made) → (status ≡ store_status made) ⊎ IsCutShort status
  fails_so made is = elim (finished_status end status before after finishes) [ inl same ↦ inl (same ∙ ap end_status is) | inr cut ↦ inr cut ]

  module _ {D : Type 0} (model : DiskModel D) (made : Store) (old new : D) where
    pub init_left : (disks.EndsBeforeWriting made end → IsAtMostMeasured model made end old new) → LeavesDisk model made end old new → IsInitLeft model made status old new
    init_left asked leaves = record {
      later = leaves.later;
      cause = λ is. leaves.cause (failed_end made is);
      steady = λ other whole. leaves.steady (λ is. elim (fails_so made is) [ inl same ↦ other same | inr cut ↦ whole cut ]);
      short = leaves.short;
      same = λ unwritten. (asked (unwritten_of made end (own_end (IsUnwritten made) (unwritten_whole made status) unwritten))).keeps.same;
      crash = λ unwritten. (asked (unwritten_of made end (own_end (IsUnwritten made) (unwritten_whole made status) unwritten))).keeps.crash;
      unsynced = λ unwritten. (asked (unwritten_of made end (own_end (IsUnwritten made) (unwritten_whole made status) unwritten))).unsynced;
    }

pub untouched : {D : Type 0} (model : DiskModel D) (made : Store) (end : inits.InitEnd) (old new : D) → IsAtMostMeasured model made end old new → IsDiskUntouched model old new
untouched model made end old new asked = record { same = asked.keeps.same; crash = asked.keeps.crash; unsynced = asked.unsynced }
