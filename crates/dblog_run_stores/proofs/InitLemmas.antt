-- How a run of `init` ends, from how `init` ended and what was written after it.
use Rattle.std.proofs.Common.{◌≡◌, ◌⊎◌, inl, inr, ◌∙◌, ℕ, Option, Some, Ok, Err, List, [], ◌∷◌, refl, sym, ap, subst}
use Rattle.std.proofs.lemmas.List.{append-nil}
use Rattle.dbl_base.specs.Lines.{lines_text}
use Rattle.dbl_base.specs.Streams.{FaultCounted}
use Rattle.dblog_stores.specs.declared.error.Store.{Store as Kept}
use Rattle.dblog_stores.specs.declared.error.Store.TheVariants as kept
use Rattle.dblog_init.specs.declared.error.InitError.{InitError}
use Rattle.dblog_init.specs.declared.error.InitError.TheVariants as init
use Rattle.dblog_init.specs.declared.error.Store.TheVariants as store
use Rattle.dblog_init.specs.Answers as inits
use Rattle.dblog_init.proofs.AnswerLaws.{one_answer}
use Rattle.dbl_lines.specs.declared.status.Status.{Status}
use Rattle.dbl_lines.specs.declared.status.Status.TheVariants.{Done}
use Rattle.dbl_lines.specs.declared.run_error.RunError.TheVariants.{Memory}
use Rattle.dblog_run_stores.specs.Disks.{DiskFails, IsDiskStatus, OfDisk}
use Rattle.dbl_lines.specs.Faults.{fault_line, status_of}
use Rattle.dblog_capture_text.specs.InitErrors.{SaysInit, init_line, init_status}
use Rattle.dblog_capture_text.proofs.InitStatuses.{said_status}
use Rattle.dblog_run_stores.specs.Inits.{FailsSource, FinishesInit, IsInitStatus, init_answer, init_fault}
use Rattle.dblog_run_stores.specs.Runs.{RunsInit}
use Rattle.dblog_streams.specs.Answers.{RunAnswer, Ends, FailsReading, IsExternalStatus, whole}
use Rattle.dblog_streams.proofs.AnswerLemmas.{memory_ends, memory_is_outside, written_or_outside}
use Rattle.dbl_lines.specs.Says.{IsCutShort, Writes}

abbrev pub end_status : inits.InitEnd → Status
end_status (Ok made) = Done
end_status (Err e) = init_status e

-- ---- the status

pub finished_status : (end : inits.InitEnd) (status : Status) (before after : Option (List ℕ)) → FinishesInit end status before after → (status ≡ end_status end) ⊎ IsCutShort status
finished_status (Ok made) status before after finishes = inl finishes.0
finished_status (Err e) status before after finishes = said_status e status before after finishes

own_status : (e : InitError) (status : Status) → status ≡ init_status e → IsInitStatus status
own_status (init.Failed store.Wal) status is = inr (inr (inl is))
own_status (init.Failed store.Topics) status is = inr (inr (inr (inl is)))
own_status (init.Failed store.Offsets) status is = inr (inr (inr (inr (inl is))))
own_status (init.NotEmpty s) status is = inr (inr (inr (inr (inr (inr (inr (inl is)))))))
own_status init.InputFailed status is = inr (inr (inr (inr (inr (inl is)))))
own_status init.InputTooLong status is = inr (inr (inr (inr (inr (inr (inl is))))))
own_status (init.Script e) status is = inr (inr (inr (inr (inr (inr (inl is))))))
own_status (init.Model e) status is = inr (inl is)
own_status init.Memory status is = inr (inr (inr (inr (inr (inr (inr (inr (inr is))))))))

pub init_known : (end : inits.InitEnd) (status : Status) (before after : Option (List ℕ)) → FinishesInit end status before after → IsInitStatus status
init_known (Ok made) status before after finishes = inl finishes.0
init_known (Err e) status before after finishes =
    elim (said_status e status before after finishes) [ inl is ↦ own_status e status is | inr cut ↦ inr (inr (inr (inr (inr (inr (inr (inr cut))))))) ]

-- ---- what was written

finish_ends : (end : inits.InitEnd) (status : Status) (before after : Option (List ℕ)) → FinishesInit end status before after → Ends (init_answer end) status before after
finish_ends (Ok made) status before after finishes = record {
  wanted = Done;
  text = [];
  may = whole refl refl;
  writes = inl (finishes.0, λ bytes is. finishes.1 ∙ is ∙ ap (λ (l : List ℕ). let o : Option (List ℕ) = Some l in o) (sym (append-nil bytes)));
}
finish_ends (Err e) status before after (inl writes) = record { wanted = init_status e; text = lines_text (init_line e ∷ []); may = whole refl refl; writes = writes }
finish_ends (Err e) status before after (inr writes) = memory_ends (init_fault e) status before after writes

told_status : (answer : RunAnswer) (end : inits.InitEnd) (status : Status) → answer ≡ init_answer end → (status ≡ end_status end) ⊎ IsCutShort status → IsExternalStatus status ⊎ (answer.status ≡ status)
told_status answer (Ok made) status is (inl same) = inr (ap (λ (a : RunAnswer). a.status) is ∙ sym same)
told_status answer (Err e) status is (inl same) = inr (ap (λ (a : RunAnswer). a.status) is ∙ sym same)
told_status answer end status is (inr cut) = inl (inr cut)

module _ (given : inits.InitInput) (failed : Kept → Type 0) (status : Status) (before after : Option (List ℕ)) where
  -- it told what the disks and the input tell
  pub init_answered : (end : inits.InitEnd) → inits.Answers given end → FinishesInit end status before after → RunsInit given failed status before after
  init_answered end answers finishes = record {
    ended = λ answer told. inl (subst (λ (a : RunAnswer). Ends a status before after)
        (ap init_answer (one_answer given end told.0 answers told.1) ∙ sym told.2) (finish_ends end status before after finishes));
    meant = elim (told_status (init_answer end) end status refl (finished_status end status before after finishes)) [
      | inl outside ↦ inl outside
      | inr is ↦ inr (inr (init_answer end, (end, answers, refl), is))
    ];
  }

  memory_runs : Writes (status_of Memory) (lines_text (fault_line Memory ∷ [])) status before after → RunsInit given failed status before after
  memory_runs writes = record {
    ended = λ answer told. inl (memory_ends answer status before after writes);
    meant = inl (memory_is_outside status (written_or_outside (status_of Memory) (lines_text (fault_line Memory ∷ [])) status before after writes));
  }

  disk_runs : (s : Kept) (e : InitError) → failed s → ((answer : RunAnswer) → Writes (init_status e) (lines_text (init_line e ∷ [])) status before after → DiskFails failed answer status before after)
      → (status ≡ init_status e → IsDiskStatus status) → SaysInit e status before after → RunsInit given failed status before after
  disk_runs s e cause fails disk (inr writes) = memory_runs writes
  disk_runs s e cause fails disk (inl writes) = record {
    ended = λ answer told. inr (fails answer writes);
    meant = elim (written_or_outside (init_status e) (lines_text (init_line e ∷ [])) status before after writes) [ inl is ↦ inr (inl (disk is)) | inr outside ↦ inl outside ];
  }

  -- the disk of the topic log failed, or that of the offset
  pub topics_runs : failed kept.Topics → SaysInit (init.Failed store.Topics) status before after → RunsInit given failed status before after
  topics_runs cause says = disk_runs kept.Topics (init.Failed store.Topics) cause (λ answer writes. record { store = kept.Topics; cause = cause; count = 0; writes = writes }) (λ is. inl is) says

  pub offsets_runs : failed kept.Offsets → SaysInit (init.Failed store.Offsets) status before after → RunsInit given failed status before after
  offsets_runs cause says = disk_runs kept.Offsets (init.Failed store.Offsets) cause (λ answer writes. record { store = kept.Offsets; cause = cause; count = 0; writes = writes }) (λ is. inr is) says

  pub starved_runs : SaysInit init.Memory status before after → RunsInit given failed status before after
  starved_runs (inl writes) = memory_runs writes
  starved_runs (inr writes) = memory_runs writes

-- a run of `init`, by how it ended
abbrev Runs : inits.InitInput → Type 0 → Type 0 → ℕ → ℕ → ℕ → ℕ → Status → Option (List ℕ) → Option (List ℕ) → Type 0
Runs given topics offsets was later wal now status before after =
    RunsInit given (OfDisk topics offsets) status before after ⊎ (FailsReading was later status before after ⊎ FailsSource wal now status before after)

outside_run : (given : inits.InitInput) (topics offsets : Type 0) (was later wal now : ℕ) (status : Status) (before after : Option (List ℕ)) (end : inits.InitEnd) → (end ≡ Err init.InputFailed → FaultCounted was later) → (end ≡ Err (init.Failed store.Wal) → FaultCounted wal now)
    → (end ≡ Err (init.Failed store.Topics) → topics) → (end ≡ Err (init.Failed store.Offsets) → offsets) → inits.IsExternalInitEnd end → FinishesInit end status before after → Runs given topics offsets was later wal now status before after
outside_run given topics offsets was later wal now status before after (Ok made) input source first second outside finishes = absurd outside
outside_run given topics offsets was later wal now status before after (Err (init.Failed store.Wal)) input source first second outside finishes = inr (inr (record { rose = source refl; says = finishes }))
outside_run given topics offsets was later wal now status before after (Err (init.Failed store.Topics)) input source first second outside finishes =
    inl (topics_runs given (OfDisk topics offsets) status before after (first refl) finishes)
outside_run given topics offsets was later wal now status before after (Err (init.Failed store.Offsets)) input source first second outside finishes =
    inl (offsets_runs given (OfDisk topics offsets) status before after (second refl) finishes)
outside_run given topics offsets was later wal now status before after (Err init.InputFailed) input source first second outside finishes = inr (inl (record { rose = input refl; says = finishes }))
outside_run given topics offsets was later wal now status before after (Err init.Memory) input source first second outside finishes = inl (starved_runs given (OfDisk topics offsets) status before after finishes)
outside_run given topics offsets was later wal now status before after (Err (init.NotEmpty s)) input source first second outside finishes = absurd outside
outside_run given topics offsets was later wal now status before after (Err init.InputTooLong) input source first second outside finishes = absurd outside
outside_run given topics offsets was later wal now status before after (Err (init.Script e)) input source first second outside finishes = absurd outside
outside_run given topics offsets was later wal now status before after (Err (init.Model e)) input source first second outside finishes = absurd outside

pub init_run : (given : inits.InitInput) (topics offsets : Type 0) (was later wal now : ℕ) (status : Status) (before after : Option (List ℕ)) (end : inits.InitEnd) → (end ≡ Err init.InputFailed → FaultCounted was later) → (end ≡ Err (init.Failed store.Wal) → FaultCounted wal now)
    → (end ≡ Err (init.Failed store.Topics) → topics) → (end ≡ Err (init.Failed store.Offsets) → offsets) → inits.Answers given end ⊎ inits.IsExternalInitEnd end → FinishesInit end status before after → Runs given topics offsets was later wal now status before after
init_run given topics offsets was later wal now status before after end input source first second (inl answers) finishes = inl (init_answered given (OfDisk topics offsets) status before after end answers finishes)
init_run given topics offsets was later wal now status before after end input source first second (inr outside) finishes = outside_run given topics offsets was later wal now status before after end input source first second outside finishes
