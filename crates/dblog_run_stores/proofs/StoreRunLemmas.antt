-- How a run of a command over the stores ends, from how the command ended and what was written after it.
use Rattle.std.proofs.Common.{◌≡◌, ◌⊎◌, inl, inr, ℕ, Option, Ok, Err, IfErr, List, [], ◌∷◌, ◌++◌, take, refl, sym, ap, subst}
use Rattle.dbl_base.specs.Lines.{lines_text}
use Rattle.dbl_lines.specs.declared.status.Status.{Status}
use Rattle.dbl_lines.specs.declared.status.Status.TheVariants.{Done, StdoutFailed}
use Rattle.dbl_lines.specs.Writing.{Wrote, WrotePrefix}
use Rattle.dblog_stores.specs.declared.error.CommandError.{CommandError}
use Rattle.dblog_stores.specs.declared.error.CommandError.TheVariants as error
use Rattle.dblog_stores.specs.declared.error.Store.{Store}
use Rattle.dblog_stores.specs.declared.error.Store.TheVariants as store
use Rattle.dblog_stores.specs.declared.listing.Listing.{Listing}
use Rattle.dblog_stores.specs.Answers.{LinesAnswer as StoreAnswer, AnswersListing, AnswersOffsets, AnswersTopics, HasNoOffset, IsNoLog, no_log, no_offset, refused}
use Rattle.dblog_stores.specs.Ends.{CutsLines, CommandEnd, Ends as StoreEnds, EndsOutside, IsErrorOf, IsExternalCommandError as IsStoreOutside, IsRefusal, Runs as StoreRuns, answered, cut}
use Rattle.dblog_stores.specs.Errors.{error_line, error_status}
use Rattle.dblog_stores.proofs.ErrorLaws.{apart}
use Rattle.dblog_stores.proofs.OnceLaws.{listings_once, offsets_once, topics_once}
use Rattle.dbl_lines.specs.declared.run_error.RunError.TheVariants.{Memory}
use Rattle.dbl_lines.specs.Faults.{status_of, fault_line}
use Rattle.dblog_streams.specs.Answers.{RunAnswer, done, out_of_memory, whole, IsExternalStatus}
use Rattle.dblog_run_stores.specs.Disks.{EndsOrFails, Finishes, IsDiskStatus, OfDisk, RunsStores, SaysError, store_answer, store_fault}
use Rattle.dblog_run_stores.proofs.FinishLemmas.{offsets_kind, other_kind}
use Rattle.dblog_streams.proofs.AnswerLemmas.{memory_ends, memory_is_outside, written_or_outside, writes_then}
use Rattle.dbl_lines.specs.Says.{Writes}

-- a run of this answer, in which only such disks failed, ended so: with its status, that of a failed disk, or one of the outside
record EndsWith (failed : Store → Type 0) (answer : RunAnswer) (status : Status) (before after : Option (List ℕ)) : Type 0 where
  ended : EndsOrFails failed answer status before after
  told : IsExternalStatus status ⊎ (IsDiskStatus status ⊎ (answer.status ≡ status))

-- ---- what was said

memory_says : (status : Status) (before after : Option (List ℕ)) → SaysError error.Memory status before after → Writes (status_of Memory) (lines_text (fault_line Memory ∷ [])) status before after
memory_says status before after (inl writes) = writes
memory_says status before after (inr writes) = writes

memory_status : (text : List ℕ) (status : Status) (before after : Option (List ℕ)) → Writes (status_of Memory) text status before after → IsExternalStatus status
memory_status text status before after writes = memory_is_outside status (written_or_outside (status_of Memory) text status before after writes)

disk_status : (s : Store) (status : Status) → status ≡ error_status (error.Failed s) → IsDiskStatus status
disk_status store.Topics status is = inl is
disk_status store.Offsets status is = inr is

disk_told : (s : Store) (status : Status) → (status ≡ error_status (error.Failed s)) ⊎ IsExternalStatus status → IsExternalStatus status ⊎ IsDiskStatus status
disk_told s status (inl is) = inr (disk_status s status is)
disk_told s status (inr outside) = inl outside

disk_written : (s : Store) (text : List ℕ) (status : Status) (before after : Option (List ℕ)) → Writes (error_status (error.Failed s)) text status before after → IsExternalStatus status ⊎ IsDiskStatus status
disk_written s text status before after writes = disk_told s status (written_or_outside (error_status (error.Failed s)) text status before after writes)

failed_says : (s : Store) (status : Status) (before after : Option (List ℕ)) → SaysError (error.Failed s) status before after → IsExternalStatus status ⊎ IsDiskStatus status
failed_says s status before after (inl writes) = disk_written s _ status before after writes
failed_says s status before after (inr writes) = inl (memory_status _ status before after writes)

with_disk : (answer : RunAnswer) (status : Status) → IsExternalStatus status ⊎ IsDiskStatus status → IsExternalStatus status ⊎ (IsDiskStatus status ⊎ (answer.status ≡ status))
with_disk answer status (inl outside) = inl outside
with_disk answer status (inr disk) = inr (inl disk)

same_after : (x y : Option (List ℕ)) (P : Option (List ℕ) → Type 0) → y ≡ x → P x → P y
same_after x y P is p = subst P (sym is) p

module _ (failed : Store → Type 0) where
  -- ---- after some first lines

  starved_ends : (answer : RunAnswer) (n : ℕ) (status : Status) (before middle after : Option (List ℕ)) → Wrote before middle (lines_text (take n answer.one_by_one))
      → Writes (status_of Memory) (lines_text (fault_line Memory ∷ [])) status middle after → EndsWith failed answer status before after
  starved_ends answer n status before middle after wrote writes =
      let all : Writes (status_of Memory) (lines_text (take n answer.one_by_one) ++ lines_text (fault_line Memory ∷ [])) status before after = writes_then (status_of Memory) status before middle after _ _ wrote writes in
      record {
        ended = inl (record { wanted = status_of Memory; text = lines_text (take n answer.one_by_one) ++ lines_text (fault_line Memory ∷ []); may = out_of_memory n refl refl; writes = all });
        told = inl (memory_status _ status before after all);
      }

  failed_ends : (answer : RunAnswer) (s : Store) → failed s → (n : ℕ) (status : Status) (before middle after : Option (List ℕ)) → Wrote before middle (lines_text (take n answer.one_by_one))
      → SaysError (error.Failed s) status middle after → EndsWith failed answer status before after
  failed_ends answer s cause n status before middle after wrote (inl writes) =
      let all : Writes (error_status (error.Failed s)) (lines_text (take n answer.one_by_one) ++ lines_text (error_line (error.Failed s) ∷ [])) status before after =
      writes_then (error_status (error.Failed s)) status before middle after _ _ wrote writes in
      record {
        ended = inr (record { store = s; cause = cause; count = n; writes = all });
        told = with_disk answer status (disk_written s _ status before after all);
      }
  failed_ends answer s cause n status before middle after wrote (inr writes) = starved_ends answer n status before middle after wrote writes

  -- ---- before anything was written

  starved_first : (answer : RunAnswer) (status : Status) (before after : Option (List ℕ)) → Writes (status_of Memory) (lines_text (fault_line Memory ∷ [])) status before after → EndsWith failed answer status before after
  starved_first answer status before after writes = record { ended = inl (memory_ends answer status before after writes); told = inl (memory_status _ status before after writes) }

  failed_first : (answer : RunAnswer) (s : Store) → failed s → (status : Status) (before after : Option (List ℕ)) → SaysError (error.Failed s) status before after → EndsWith failed answer status before after
  failed_first answer s cause status before after (inl writes) = record {
    ended = inr (record { store = s; cause = cause; count = 0; writes = writes });
    told = with_disk answer status (disk_written s _ status before after writes);
  }
  failed_first answer s cause status before after (inr writes) = starved_first answer status before after writes

  -- the line of a refusal was to be written
  said_ends : (e : CommandError) (status : Status) (before after : Option (List ℕ)) → SaysError e status before after → EndsWith failed (store_fault e) status before after
  said_ends e status before after (inl writes) = record {
    ended = inl (record { wanted = error_status e; text = lines_text (error_line e ∷ []); may = whole refl refl; writes = writes });
    told = elim (written_or_outside (error_status e) (lines_text (error_line e ∷ [])) status before after writes) [ inl is ↦ inr (inr (sym is)) | inr outside ↦ inl outside ];
  }
  said_ends e status before after (inr writes) = starved_first (store_fault e) status before after writes

  refusal_ends : (e : CommandError) (status : Status) (before after : Option (List ℕ)) → IsRefusal e → Finishes (Err e) status before after → EndsWith failed (store_fault e) status before after
  refusal_ends error.OutputFailed status before after refuses finishes = absurd refuses
  refusal_ends error.Memory status before after refuses finishes = absurd refuses
  refusal_ends (error.Failed s) status before after refuses finishes = absurd refuses
  refusal_ends error.NotStarted status before after refuses finishes = said_ends error.NotStarted status before after finishes
  refusal_ends (error.NotAStore s at) status before after refuses finishes = said_ends (error.NotAStore s at) status before after finishes
  refusal_ends (error.BadEntry s index) status before after refuses finishes = said_ends (error.BadEntry s index) status before after finishes

  -- a command that was cut short before it had an answer ends a run of any answer
  cut_ends : (answer : RunAnswer) (e : CommandError) → ((s : Store) → e ≡ error.Failed s → failed s) → (status : Status) (before after : Option (List ℕ)) → IsStoreOutside e → Finishes (Err e) status before after → EndsWith failed answer status before after
  cut_ends answer error.OutputFailed causes status before after outside finishes = absurd outside
  cut_ends answer error.Memory causes status before after outside finishes = starved_first answer status before after (memory_says status before after finishes)
  cut_ends answer (error.Failed s) causes status before after outside finishes = failed_first answer s (causes s refl) status before after finishes
  cut_ends answer error.NotStarted causes status before after outside finishes = absurd outside
  cut_ends answer (error.NotAStore s at) causes status before after outside finishes = absurd outside
  cut_ends answer (error.BadEntry s index) causes status before after outside finishes = absurd outside

  -- ---- lines

  printed_with : (lines : List (List ℕ)) (status : Status) (before after : Option (List ℕ)) → status ≡ Done → Wrote before after (lines_text lines) → EndsWith failed (done lines) status before after
  printed_with lines status before after is wrote = record {
    ended = inl (record { wanted = Done; text = lines_text lines; may = whole refl refl; writes = inl (is, wrote) });
    told = inr (inr (sym is));
  }

  fails_with : (lines : List (List ℕ)) (status : Status) (before after : Option (List ℕ)) → status ≡ StdoutFailed → WrotePrefix before after (lines_text lines) → EndsWith failed (done lines) status before after
  fails_with lines status before after is front = record {
    ended = inl (record { wanted = Done; text = lines_text lines; may = whole refl refl; writes = inr (is, front) });
    told = inl (inr (inl is));
  }

  -- lines that were cut
  cut_lines : (lines : List (List ℕ)) (e : CommandError) → ((s : Store) → e ≡ error.Failed s → failed s) → (status : Status) (before middle after : Option (List ℕ)) → CutsLines lines e before middle → Finishes (Err e) status middle after
      → EndsWith failed (done lines) status before after
  cut_lines lines error.OutputFailed causes status before middle after cuts finishes =
      same_after middle after (λ (o : Option (List ℕ)). EndsWith failed (done lines) status before o) finishes.1 (fails_with lines status before middle finishes.0 cuts)
  cut_lines lines error.Memory causes status before middle after cuts finishes = starved_ends (done lines) cuts.0 status before middle after cuts.1 (memory_says status middle after finishes)
  cut_lines lines (error.Failed s) causes status before middle after cuts finishes = failed_ends (done lines) s (causes s refl) cuts.0 status before middle after cuts.1 finishes
  cut_lines lines error.NotStarted causes status before middle after cuts finishes = absurd cuts
  cut_lines lines (error.NotAStore s at) causes status before middle after cuts finishes = absurd cuts
  cut_lines lines (error.BadEntry s index) causes status before middle after cuts finishes = absurd cuts

cut_status : (e : CommandError) (status : Status) (before after : Option (List ℕ)) → IsStoreOutside e → Finishes (Err e) status before after → IsExternalStatus status ⊎ IsDiskStatus status
cut_status error.OutputFailed status before after outside finishes = absurd outside
cut_status error.Memory status before after outside finishes = inl (memory_status _ status before after (memory_says status before after finishes))
cut_status (error.Failed s) status before after outside finishes = failed_says s status before after finishes
cut_status error.NotStarted status before after outside finishes = absurd outside
cut_status (error.NotAStore s at) status before after outside finishes = absurd outside
cut_status (error.BadEntry s index) status before after outside finishes = absurd outside

-- ---- a run

abbrev pub end_of : CommandError → CommandEnd
end_of e = Err e

module _ (Allows : StoreAnswer → Type 0) (failed : Store → Type 0) (one : (a b : StoreAnswer) → Allows a → Allows b → a ≡ b) (refuses : (e : CommandError) → Allows (Err e) → IsRefusal e) where
  with_answer : (answer : StoreAnswer) (status : Status) (before after : Option (List ℕ)) → Allows answer → EndsWith failed (store_answer answer) status before after → RunsStores Allows failed status before after
  with_answer answer status before after told ends = record {
    ended = λ other is. subst (λ (a : StoreAnswer). EndsOrFails failed (store_answer a) status before after) (one answer other told is) ends.ended;
    meant = elim ends.told [
      | inl outside ↦ inl outside
      | inr (inl disk) ↦ inr (inl disk)
      | inr (inr is) ↦ inr (inr (answer, told, is))
    ];
  }

  answered_run : (answer : StoreAnswer) (end : CommandEnd) → ((s : Store) → end ≡ end_of (error.Failed s) → failed s) → (status : Status) (before middle after : Option (List ℕ)) → Allows answer → StoreEnds answer end before middle → Finishes end status middle after
      → RunsStores Allows failed status before after
  answered_run (Ok lines) (Ok nothing) causes status before middle after told ends finishes =
      with_answer (Ok lines) status before after told
      (same_after middle after (λ (o : Option (List ℕ)). EndsWith failed (done lines) status before o) finishes.1 (printed_with failed lines status before middle finishes.0 ends))
  answered_run (Ok lines) (Err e) causes status before middle after told ends finishes =
      with_answer (Ok lines) status before after told (cut_lines failed lines e (λ s is. causes s (ap end_of is)) status before middle after ends finishes)
  answered_run (Err e) (Ok nothing) causes status before middle after told ends finishes = absurd ends
  answered_run (Err e) (Err other) causes status before middle after told ends finishes =
      let said : Finishes (Err e) status middle after = subst (λ (x : CommandError). Finishes (Err x) status middle after) ends.0 finishes in
      with_answer (Err e) status before after told
      (subst (λ (o : Option (List ℕ)). EndsWith failed (store_fault e) status o after) ends.1 (refusal_ends failed e status middle after (refuses e told) said))

  cut_run : (end : CommandEnd) → ((s : Store) → end ≡ end_of (error.Failed s) → failed s) → (status : Status) (before middle after : Option (List ℕ)) → EndsOutside end → middle ≡ before → Finishes end status middle after → RunsStores Allows failed status before after
  cut_run (Ok nothing) causes status before middle after is same finishes = absurd is
  cut_run (Err e) causes status before middle after is same finishes =
      let said : Finishes (Err e) status before after = subst (λ (o : Option (List ℕ)). Finishes (Err e) status o after) same finishes in
      record {
        ended = λ other told. (cut_ends failed (store_answer other) e (λ s here. causes s (ap end_of here)) status before after is said).ended;
        meant = elim (cut_status e status before after is said) [ inl outside ↦ inl outside | inr disk ↦ inr (inl disk) ];
      }

  stores_run : (end : CommandEnd) → ((s : Store) → end ≡ end_of (error.Failed s) → failed s) → (status : Status) (before middle after : Option (List ℕ)) → StoreRuns Allows end before middle → Finishes end status middle after → RunsStores Allows failed status before after
  stores_run end causes status before middle after (answered answer told ends) finishes = answered_run answer end causes status before middle after told ends finishes
  stores_run end causes status before middle after (cut is same) finishes = cut_run end causes status before middle after is same finishes

-- ---- the three commands

pub topics_refuse : (bytes : List ℕ) (e : CommandError) → IsNoLog bytes e → IsRefusal e
topics_refuse bytes error.OutputFailed why = absurd why
topics_refuse bytes error.Memory why = absurd why
topics_refuse bytes (error.Failed s) why = absurd why
topics_refuse bytes error.NotStarted why = tt
topics_refuse bytes (error.NotAStore s at) why = tt
topics_refuse bytes (error.BadEntry s index) why = tt

pub offsets_refuse : (bytes : List ℕ) (e : CommandError) → HasNoOffset bytes e → IsRefusal e
offsets_refuse bytes error.OutputFailed why = absurd why
offsets_refuse bytes error.Memory why = absurd why
offsets_refuse bytes (error.Failed s) why = absurd why
offsets_refuse bytes error.NotStarted why = tt
offsets_refuse bytes (error.NotAStore s at) why = tt
offsets_refuse bytes (error.BadEntry s index) why = tt

pub apply_refuses : (listing : Listing) (topics offsets : List ℕ) (e : CommandError) → AnswersListing listing topics offsets (Err e) → IsRefusal e
apply_refuses listing topics offsets e (no_log why) = topics_refuse topics e why
apply_refuses listing topics offsets e (no_offset groups log why) = offsets_refuse offsets e why
apply_refuses listing topics offsets e (refused r) = subst (λ (x : CommandError). IsRefusal x) (sym r.error_is) tt

-- which disk failed
topics_cause : (P : Type 0) (end : CommandEnd) → IfErr end (λ e. (e ≡ error.OutputFailed) ⊎ IsErrorOf store.Topics e) → (end ≡ end_of (error.Failed store.Topics) → P) → (s : Store) → end ≡ end_of (error.Failed s) → OfDisk P ⊥ s
topics_cause P end kinds cause store.Topics is = cause is
topics_cause P end kinds cause store.Offsets is = other_kind store.Offsets store.Topics (λ same. apart (sym same)) (subst (λ (x : CommandEnd). IfErr x (λ e. (e ≡ error.OutputFailed) ⊎ IsErrorOf store.Topics e)) is kinds)

offsets_cause : (P : Type 0) (end : CommandEnd) → IfErr end (λ e. (e ≡ error.OutputFailed) ⊎ ((e ≡ error.NotStarted) ⊎ IsErrorOf store.Offsets e)) → (end ≡ end_of (error.Failed store.Offsets) → P) → (s : Store) → end ≡ end_of (error.Failed s) → OfDisk ⊥ P s
offsets_cause P end kinds cause store.Topics is = offsets_kind (subst (λ (x : CommandEnd). IfErr x (λ e. (e ≡ error.OutputFailed) ⊎ ((e ≡ error.NotStarted) ⊎ IsErrorOf store.Offsets e))) is kinds)
offsets_cause P end kinds cause store.Offsets is = cause is

apply_cause : (P Q : Type 0) (end : CommandEnd) → (end ≡ end_of (error.Failed store.Topics) → P) → (end ≡ end_of (error.Failed store.Offsets) → Q) → (s : Store) → end ≡ end_of (error.Failed s) → OfDisk P Q s
apply_cause P Q end first second store.Topics is = first is
apply_cause P Q end first second store.Offsets is = second is

-- only a disk that the command opens has failed
pub only_topics : (A B P Q : Type 0) → A → (s : Store) → OfDisk P ⊥ s → OfDisk (A × P) (B × Q) s
only_topics A B P Q opens store.Topics p = (opens, p)
only_topics A B P Q opens store.Offsets none = absurd none

pub only_offsets : (A B P Q : Type 0) → B → (s : Store) → OfDisk ⊥ Q s → OfDisk (A × P) (B × Q) s
only_offsets A B P Q opens store.Topics none = absurd none
only_offsets A B P Q opens store.Offsets q = (opens, q)

pub both_opened : (A B P Q : Type 0) → A → B → (s : Store) → OfDisk P Q s → OfDisk (A × P) (B × Q) s
both_opened A B P Q topics offsets store.Topics p = (topics, p)
both_opened A B P Q topics offsets store.Offsets q = (offsets, q)

pub opened_by : (A B C D P Q : Type 0) → (A → C) → (B → D) → (s : Store) → OfDisk (A × P) (B × Q) s → OfDisk (C × P) (D × Q) s
opened_by A B C D P Q topics offsets store.Topics both = (topics both.0, both.1)
opened_by A B C D P Q topics offsets store.Offsets both = (offsets both.0, both.1)

pub topics_run : (bytes : List ℕ) (P : Type 0) (end : CommandEnd) (status : Status) (before middle after : Option (List ℕ)) → IfErr end (λ e. (e ≡ error.OutputFailed) ⊎ IsErrorOf store.Topics e) → (end ≡ end_of (error.Failed store.Topics) → P)
    → StoreRuns (AnswersTopics bytes) end before middle → Finishes end status middle after → RunsStores (AnswersTopics bytes) (OfDisk P ⊥) status before after
topics_run bytes P end status before middle after kinds cause runs finishes =
    stores_run (AnswersTopics bytes) (OfDisk P ⊥) (topics_once bytes) (topics_refuse bytes) end (topics_cause P end kinds cause) status before middle after runs finishes

pub offsets_run : (bytes : List ℕ) (P : Type 0) (end : CommandEnd) (status : Status) (before middle after : Option (List ℕ)) → IfErr end (λ e. (e ≡ error.OutputFailed) ⊎ ((e ≡ error.NotStarted) ⊎ IsErrorOf store.Offsets e))
    → (end ≡ end_of (error.Failed store.Offsets) → P) → StoreRuns (AnswersOffsets bytes) end before middle → Finishes end status middle after → RunsStores (AnswersOffsets bytes) (OfDisk ⊥ P) status before after
offsets_run bytes P end status before middle after kinds cause runs finishes =
    stores_run (AnswersOffsets bytes) (OfDisk ⊥ P) (offsets_once bytes) (offsets_refuse bytes) end (offsets_cause P end kinds cause) status before middle after runs finishes

pub apply_run : (listing : Listing) (topics offsets : List ℕ) (P Q : Type 0) (end : CommandEnd) (status : Status) (before middle after : Option (List ℕ)) → (end ≡ end_of (error.Failed store.Topics) → P) → (end ≡ end_of (error.Failed store.Offsets) → Q)
    → StoreRuns (AnswersListing listing topics offsets) end before middle → Finishes end status middle after → RunsStores (AnswersListing listing topics offsets) (OfDisk P Q) status before after
apply_run listing topics offsets P Q end status before middle after first second runs finishes =
    stores_run (AnswersListing listing topics offsets) (OfDisk P Q) (listings_once listing topics offsets) (apply_refuses listing topics offsets) end (apply_cause P Q end first second) status before middle after runs finishes
