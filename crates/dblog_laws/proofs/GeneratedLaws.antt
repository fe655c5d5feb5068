-- `gen --run` on empty disks, of a workload that can be run: its `init` part is done, or the outside failed; and its capture is supported.
use Rattle.std.proofs.Common.{◌⊎◌, ◌≡◌, ◌≢◌, inl, inr, ◌∙◌, ℕ, ◌≤◌, Option, Some, Ok, Err, List, [], length, refl}
use Rattle.dbl_base.specs.Streams.{input_limit}
use Rattle.dbl_demo_wal.specs.Workloads.{IsWorkload, Workload}
use Rattle.dbl_disk.specs.Model.{DiskModel}
use Rattle.dblog_run.specs.Init.declared.disks.Disks.{Disks}
use Rattle.dblog_run.specs.Init.declared.error.InitError.{InitError}
use Rattle.dblog_run.specs.Init.declared.error.InitError.TheVariants as init
use Rattle.dblog_run.specs.Init.declared.error.Store.TheVariants.{Wal, Topics, Offsets}
use Rattle.dblog_run.specs.Init.Answers as inits
use Rattle.dblog_run.specs.Init.Answers.{all_empty, made as made_stores}
use Rattle.dblog_run.proofs.InitAnswerLaws.{one_answer}
use Rattle.dblog_run.specs.Capture.InitErrors.{SaysInit, init_status}
use Rattle.dblog_run.proofs.CaptureInitStatuses.{said_status}
use Rattle.dblog_run.proofs.CaptureFresh.{made_kept}
use Rattle.dbl_lines.specs.declared.status.Status.{Status}
use Rattle.dbl_lines.specs.declared.status.Status.TheVariants.{Done, BudgetSpent}
use Rattle.dbl_lines.specs.declared.run_error.RunError.TheVariants.{Memory as NoMemory}
use Rattle.dbl_lines.specs.Faults.{status_of}
use Rattle.dbl_lines.specs.Says.{IsCutShort}
use Rattle.dbl_lines.proofs.SayLemmas.{cut_other}
use Rattle.dblog_laws.proofs.BudgetStatuses.{statuses_tell_budgets}
use Rattle.dblog_run.specs.Capture.Generated.{AnswersWorkload, WasRefused, plainly}
use Rattle.dblog_laws.specs.RunLaws.{GeneratedInitsSucceed, GeneratedStatusesTellBudgets, SupportedGeneratedRunsSucceed}
use Rattle.dblog_laws.specs.Sessions.{NoneFailed}
use Rattle.dblog_laws.proofs.SessionLaws.{supported_runs_succeed}

-- ---- the `init` part

outside_memory : (e : InitError) (status : Status) → e ≢ init.InputFailed → inits.IsExternalInitEnd (Err e) → status ≡ init_status e → NoneFailed status → status ≡ status_of NoMemory
outside_memory (init.Failed Wal) status read out is none = absurd (none.wal is)
outside_memory (init.Failed Topics) status read out is none = absurd (none.topics is)
outside_memory (init.Failed Offsets) status read out is none = absurd (none.offsets is)
outside_memory (init.NotEmpty store) status read out is none = absurd out
outside_memory init.InputFailed status read out is none = absurd (read refl)
outside_memory init.InputTooLong status read out is none = absurd out
outside_memory (init.Script e) status read out is none = absurd out
outside_memory (init.Model e) status read out is none = absurd out
outside_memory init.Memory status read out is none = is

cut_memory : (status : Status) → IsCutShort status → NoneFailed status → status ≡ status_of NoMemory
cut_memory status (inl output) none = absurd (none.output output)
cut_memory status (inr memory) none = memory

-- on empty disks, with a workload that can be run, it isn't refused
not_refused : (text : List ℕ) (workload : Workload) (e : InitError) → length text ≤ input_limit → IsWorkload text workload
    → AnswersWorkload text (Some []) (Some []) (Some []) (Err e) → inits.IsExternalInitEnd (Err e)
not_refused text workload e short is answers =
    let given : inits.InitInput = record { wal = []; topics = []; offsets = []; input = text } in
    let empty : inits.AreEmpty given = record { wal = refl; topics = refl; offsets = refl } in
    let makes : inits.Answers given (Ok tt) = all_empty empty (made_stores short workload is refl) in
    elim (answers given refl refl refl refl) [
      | inl told ↦ absurd (let wrong = one_answer given (Err e) (Ok tt) told makes in cc)
      | inr outside ↦ outside
    ]

answered : (text : List ℕ) (told_wal told_topics told_offsets : Option (List ℕ)) (e : InitError) → told_wal ≡ Some [] → told_topics ≡ Some [] → told_offsets ≡ Some []
    → AnswersWorkload text told_wal told_topics told_offsets (Err e) → AnswersWorkload text (Some []) (Some []) (Some []) (Err e)
answered text told_wal told_topics told_offsets e wal topics offsets answers given input_is wal_is topics_is offsets_is =
    answers given input_is (wal ∙ wal_is) (topics ∙ topics_is) (offsets ∙ offsets_is)

-- the status of an error of `init` is neither of a session that had its way
init_other : (e : InitError) (status : Status) → status ≡ init_status e → (status ≡ Done) ⊎ (status ≡ BudgetSpent) → ⊥
init_other (init.Failed Wal) status is (inl zero) = cc
init_other (init.Failed Wal) status is (inr three) = cc
init_other (init.Failed Topics) status is (inl zero) = cc
init_other (init.Failed Topics) status is (inr three) = cc
init_other (init.Failed Offsets) status is (inl zero) = cc
init_other (init.Failed Offsets) status is (inr three) = cc
init_other (init.NotEmpty store) status is (inl zero) = cc
init_other (init.NotEmpty store) status is (inr three) = cc
init_other init.InputFailed status is (inl zero) = cc
init_other init.InputFailed status is (inr three) = cc
init_other init.InputTooLong status is (inl zero) = cc
init_other init.InputTooLong status is (inr three) = cc
init_other (init.Script e) status is (inl zero) = cc
init_other (init.Script e) status is (inr three) = cc
init_other (init.Model e) status is (inl zero) = cc
init_other (init.Model e) status is (inr three) = cc
init_other init.Memory status is (inl zero) = cc
init_other init.Memory status is (inr three) = cc

cut_apart : (status : Status) → IsCutShort status → (status ≡ Done) ⊎ (status ≡ BudgetSpent) → ⊥
cut_apart status cut (inl zero) = cut_other Done status (λ e. cc, λ e. cc) cut zero
cut_apart status cut (inr three) = cut_other BudgetSpent status (λ e. cc, λ e. cc) cut three

not_captured : (e : InitError) (status : Status) (before after : Option (List ℕ)) → SaysInit e status before after → (status ≡ Done) ⊎ (status ≡ BudgetSpent) → ⊥
not_captured e status before after says told = elim (said_status e status before after says) [ inl is ↦ init_other e status is told | inr cut ↦ cut_apart status cut told ]

-- ---- and the capture

module _ {W T F : Type 0} (wal_model : DiskModel W) (topics_model : DiskModel T) (offsets_model : DiskModel F) where
  refused_memory : (text : List ℕ) (workload : Workload) (old new : Disks W T F) (status : Status) (before after : Option (List ℕ))
      → WasRefused wal_model topics_model offsets_model text old new status before after
      → wal_model.seen old.wal ≡ Some [] → topics_model.seen old.topics ≡ Some [] → offsets_model.seen old.offsets ≡ Some [] → length text ≤ input_limit → IsWorkload text workload → NoneFailed status → status ≡ status_of NoMemory
  refused_memory text workload old new status before after refused wal_is topics_is offsets_is short is none =
      let e = refused.error in
      let outside = not_refused text workload e short is (answered text (wal_model.seen old.wal) (topics_model.seen old.topics) (offsets_model.seen old.offsets) e wal_is topics_is offsets_is refused.answers) in
      elim (said_status e status before after refused.says) [
        | inl said ↦ outside_memory e status refused.not_input outside said none
        | inr cut ↦ cut_memory status cut none
      ]

  pub generated_inits_succeed : GeneratedInitsSucceed wal_model topics_model offsets_model
  generated_inits_succeed text workload now old new status before after (inl refused) wal_is topics_is offsets_is short is none =
      inl (refused_memory text workload old new status before after refused wal_is topics_is offsets_is short is none)
  generated_inits_succeed text workload now old new status before after (inr captured) wal_is topics_is offsets_is short is none = inr captured

  pub generated_statuses_tell_budgets : GeneratedStatusesTellBudgets wal_model topics_model offsets_model
  generated_statuses_tell_budgets text now old new status before after (inl refused) told = absurd (not_captured refused.error status before after refused.says told)
  generated_statuses_tell_budgets text now old new status before after (inr captured) told = (
    captured,
    statuses_tell_budgets (wal_model.may_leave captured.made.wal) (topics_model.may_leave captured.made.topics) (offsets_model.may_leave captured.made.offsets) (wal_model.may_leave new.wal) (topics_model.may_leave new.topics) (offsets_model.may_leave new.offsets) plainly now
        (wal_model.seen captured.made.wal) (topics_model.seen captured.made.topics) (offsets_model.seen captured.made.offsets) status before after captured.runs,
  )

  pub supported_generated_runs_succeed : SupportedGeneratedRunsSucceed wal_model topics_model offsets_model
  supported_generated_runs_succeed text workload now old new status before after (inl refused) wal_is topics_is offsets_is short is supported none =
      inr (inr (refused_memory text workload old new status before after refused wal_is topics_is offsets_is short is none))
  supported_generated_runs_succeed text workload now old new status before after (inr captured) wal_is topics_is offsets_is short is supported none =
      let w = captured.wal_made.stored wal_is in
      let t = captured.topics_made.stored topics_is in
      let f = captured.offsets_made.stored offsets_is in
      let kept = made_kept wal_model topics_model offsets_model text captured.made w t f in
      let run = supported w.bytes t.bytes f.bytes w.is t.is f.is in
      supported_runs_succeed (wal_model.may_leave captured.made.wal) (topics_model.may_leave captured.made.topics) (offsets_model.may_leave captured.made.offsets) (wal_model.may_leave new.wal) (topics_model.may_leave new.topics) (offsets_model.may_leave new.offsets) plainly now
      (wal_model.seen captured.made.wal) (topics_model.seen captured.made.topics) (offsets_model.seen captured.made.offsets) status before after captured.runs kept w.bytes t.bytes f.bytes w.told t.told f.told run none (inl refl)
