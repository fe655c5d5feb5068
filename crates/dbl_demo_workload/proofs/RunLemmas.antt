-- A step that was run on the store: what its call answered, and what it adds to the log.
use Rattle.std.proofs.Common.{◌≡◌, ◌∙◌, ℕ, Option, None, Some, List, [], ◌∷◌, ◌++◌, refl, sym, ap, subst, inl, inr}
use Rattle.std.specs.Prelude.{◌≢◌, Result, Ok, Err, IfOk, OnErr, not}
use Rattle.std.proofs.lemmas.List.{append-nil}
use Rattle.dbl_pgmsg.specs.declared.messages.Message.{Message}
use Rattle.dbl_script.specs.declared.script.Step.{Step}
use Rattle.dbl_script.specs.declared.script.Step.TheVariants as says
use Rattle.dbl_model_table.specs.declared.named_cell.NamedCell.{NamedCell}
use Rattle.dbl_model_table.specs.declared.table.TableName.{TableName}
use Rattle.dbl_tables_rows.specs.declared.demo_table.DemoTable.{DemoTable}
use Rattle.dbl_tables_rows.specs.declared.error.StepError.{StepError}
use Rattle.dbl_tables_rows.specs.declared.error.StepError.TheVariants as errors
use Rattle.dbl_tables_rows.specs.Acts.{Accepted, is_open, log_in}
use Rattle.dbl_tables_rows.specs.Acts.Accepted.{Began, Committed, RolledBack}
use Rattle.dbl_tables_rows.specs.Steps.{Step as SessionStep, judged}
use Rattle.dbl_tables_rows.specs.Steps.{Step as asked}
use Rattle.dbl_tables_rows.specs.Serial.{accepted_onto}
use Rattle.dbl_demo_wal.proofs.TablesLawsJudgedLemmas.{passed}
use Rattle.dbl_demo_wal.proofs.TablesLawsDoneLemmas.{insert_done, update_done, delete_done, truncate_done}
use Rattle.dbl_tables.specs.declared.tables.Tables.{Tables}
use Rattle.dbl_tables.specs.Stands.{AnswersStep, EndsSession, IsAccepted, IsGiven, Stands}
use Rattle.dbl_demo_wal.specs.Workloads.{session_step_of}
use Rattle.dbl_demo_workload.specs.Steps.{acts_with, acts_with_call, IsPassed, IsRun}

-- ---- what an accepted step commits

-- nothing, unless it is a commit
abbrev AddsNothing : List DemoTable → List Accepted → SessionStep → Type 0
AddsNothing tables past call = (act : Accepted) → judged tables past call ≡ Ok act → log_in (act ∷ past) ≡ log_in past

module _ (tables : List DemoTable) (past : List Accepted) (s : List ℕ) where
  silent_act : (was act : Accepted) → was ≡ act → log_in (was ∷ past) ≡ log_in past → log_in (act ∷ past) ≡ log_in past
  silent_act was act same none = subst (λ (a : Accepted). log_in (a ∷ past) ≡ log_in past) same none

  pub begin_silent : AddsNothing tables past (asked.Begin s)
  begin_silent act is =
      let told = passed (is_open s past) errors.AlreadyOpen (Ok (Began s)) act is in
      let same : Began s ≡ act = (let h = told.1 in cc) in
      silent_act (Began s) act same refl

  pub rollback_silent : AddsNothing tables past (asked.Rollback s)
  rollback_silent act is =
      let told = passed (not (is_open s past)) errors.NotOpen (Ok (RolledBack s)) act is in
      let same : RolledBack s ≡ act = (let h = told.1 in cc) in
      silent_act (RolledBack s) act same refl

  pub commit_act : (act : Accepted) → judged tables past (asked.Commit s) ≡ Ok act → Committed s ≡ act
  commit_act act is =
      let told = passed (not (is_open s past)) errors.NotOpen (Ok (Committed s)) act is in
      (let h = told.1 in cc)

  pub insert_silent : (name : TableName) (cells : List NamedCell) → AddsNothing tables past (asked.Insert s name cells)
  insert_silent name cells act is = let d = insert_done tables past s name cells act is in silent_act _ act d.did refl

  pub update_silent : (name : TableName) (key set : List NamedCell) → AddsNothing tables past (asked.Update s name key set)
  update_silent name key set act is = let d = update_done tables past s name key set act is in silent_act _ act d.did refl

  pub delete_silent : (name : TableName) (key : List NamedCell) → AddsNothing tables past (asked.Delete s name key)
  delete_silent name key act is = let d = delete_done tables past s name key act is in silent_act _ act d.did refl

  pub truncate_silent : (names : List TableName) → AddsNothing tables past (asked.Truncate s names)
  truncate_silent names act is = let d = truncate_done tables past s names act is in silent_act _ act d.did refl

pub log_onto : (tables : List DemoTable) (past : List Accepted) (call : SessionStep) → AddsNothing tables past call → (r : Result Accepted StepError) → judged tables past call ≡ r → log_in (accepted_onto r past) ≡ log_in past
log_onto tables past call silent (Ok act) is = silent act is
log_onto tables past call silent (Err e) is = refl

-- ---- what a call leaves

module _ (tables : List DemoTable) (past : List Accepted) (call : SessionStep) (new : Tables) where
  onto_refused : (e : StepError) → judged tables past call ≡ Err e → Stands tables past new → Stands tables (accepted_onto (judged tables past call) past) new
  onto_refused e is stands = subst (λ (r : Result Accepted StepError). Stands tables (accepted_onto r past) new) (sym is) stands

  onto_accepted : (act : Accepted) → judged tables past call ≡ Ok act → Stands tables (act ∷ past) new → Stands tables (accepted_onto (judged tables past call) past) new
  onto_accepted act is stands = subst (λ (r : Result Accepted StepError). Stands tables (accepted_onto r past) new) (sym is) stands

  -- it is after the call, unless memory ran out
  pub answered_onto : (answer : Result Unit StepError) → answer ≢ Err errors.Memory → AnswersStep tables past call new answer → Stands tables (accepted_onto (judged tables past call) past) new
  answered_onto (Ok x) none is = onto_accepted is.act is.accepted is.stands
  answered_onto (Err e) none is = elim is.why [
    | inl memory ↦ absurd (none (ap (λ (x : StepError). Err x) memory))
    | inr refused ↦ onto_refused e refused is.stands
  ]

  pub answered_kept : (answer : Result Unit StepError) → answer ≡ Err errors.Memory → AnswersStep tables past call new answer → Stands tables past new
  answered_kept (Ok x) memory is = cc
  answered_kept (Err e) memory is = is.stands

  pub ended_onto : {A : Type 0} (answer : Result A StepError) → EndsSession tables past call new answer → Stands tables (accepted_onto (judged tables past call) past) new
  ended_onto (Ok x) is = onto_accepted is.act is.accepted is.stands
  ended_onto (Err e) is = onto_refused e is.0 is.1

  module _ (s : Step) (asks : session_step_of s ≡ Some call) where
    after_asked : Stands tables (accepted_onto (judged tables past call) past) new → Stands tables (acts_with tables past s) new
    after_asked stands = subst (λ (o : Option SessionStep). Stands tables (acts_with_call tables past o) new) (sym asks) stands

    silent_run : AddsNothing tables past call → Stands tables (accepted_onto (judged tables past call) past) new → IsRun tables past s None new
    silent_run silent stands = record {
      stands = after_asked stands;
      log = ap (λ (o : Option SessionStep). log_in (acts_with_call tables past o)) asks ∙ log_onto tables past call silent (judged tables past call) refl ∙ sym (append-nil (log_in past));
      short = tt;
    }

    -- a call that commits nothing, as its answer was passed on
    pub ran_passed : {E : Type 0} (answer : Result Unit StepError) (r : Result (Option (List Message)) E) → AddsNothing tables past call → AnswersStep tables past call new answer → IsPassed answer r → IfOk r (λ committed. IsRun tables past s committed new)
    ran_passed answer (Ok committed) silent is passing = subst (λ (o : Option (List Message)). IsRun tables past s o new) (sym passing.1) (silent_run silent (answered_onto answer passing.0 is))
    ran_passed answer (Err e) silent is passing = tt

    pub ran_ended : {E : Type 0} (answer : Result Unit StepError) (r : Result (Option (List Message)) E) → AddsNothing tables past call → EndsSession tables past call new answer → IsPassed answer r → IfOk r (λ committed. IsRun tables past s committed new)
    ran_ended answer (Ok committed) silent is passing = subst (λ (o : Option (List Message)). IsRun tables past s o new) (sym passing.1) (silent_run silent (ended_onto answer is))
    ran_ended answer (Err e) silent is passing = tt

  pub kept_passed : {E : Type 0} (answer : Result Unit StepError) (r : Result (Option (List Message)) E) → AnswersStep tables past call new answer → IsPassed answer r → OnErr r (Stands tables past new)
  kept_passed answer (Ok committed) is passing = tt
  kept_passed answer (Err e) is passing = answered_kept answer passing is

-- ---- a commit

module _ (tables : List DemoTable) (past : List Accepted) (s : List ℕ) (new : Tables) where
  pub commit_ran : (messages : List Message) → IsAccepted tables past (asked.Commit s) new → IsGiven past s messages → IsRun tables past (says.Commit s) (Some messages) new
  commit_ran messages is given =
      let act : Committed s ≡ is.act = commit_act tables past s is.act is.accepted in
      let log : log_in (is.act ∷ past) ≡ log_in past ++ messages ∷ [] =
      subst (λ (a : Accepted). log_in (a ∷ past) ≡ log_in past ++ messages ∷ []) act (ap (λ (ms : List Message). log_in past ++ ms ∷ []) (sym given.are)) in
      record {
        stands = onto_accepted tables past (asked.Commit s) new is.act is.accepted is.stands;
        log = ap (λ (r : Result Accepted StepError). log_in (accepted_onto r past)) is.accepted ∙ log;
        short = given.short;
      }

  pub commit_refused : (e : StepError) → (judged tables past (asked.Commit s) ≡ Err e) × Stands tables past new → IsRun tables past (says.Commit s) None new
  commit_refused e is = record {
    stands = onto_refused tables past (asked.Commit s) new e is.0 is.1;
    log = ap (λ (r : Result Accepted StepError). log_in (accepted_onto r past)) is.0 ∙ sym (append-nil (log_in past));
    short = tt;
  }

-- the end of a group asks nothing
pub tick_ran : (tables : List DemoTable) (past : List Accepted) (store : Tables) → Stands tables past store → IsRun tables past says.Tick None store
tick_ran tables past store stands = record { stands = stands; log = sym (append-nil (log_in past)); short = tt }
