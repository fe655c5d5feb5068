-- One step that was run: what it leaves of a source that is known by its parts.
use Rattle.std.proofs.Common.{◌≡◌, ◌∙◌, ◌+◌, ◌<◌, ◌^◌, ℕ, Bool, get_or, Option, None, Some, List, [], length, sym, ap, subst}
use Rattle.std.specs.Prelude.{slice_get, Result, Ok, Err}
use Rattle.dbl_base.specs.Streams.{FailsOnlyIfCounted}
use Rattle.dbl_disk.specs.Model.{DiskModel}
use Rattle.dbl_pgmsg.specs.declared.messages.Message.{Message}
use Rattle.dbl_journal.specs.Stored.{count_of}
use Rattle.dbl_source_log.specs.declared.error.SourceError.{SourceError}
use Rattle.dbl_source_log.specs.declared.error.SourceError.TheVariants.{Failed}
use Rattle.dbl_script.specs.declared.script.Step.{Step}
use Rattle.dbl_tables.specs.declared.tables.Tables.{Tables}
use Rattle.dbl_tables.specs.Stands.{Stands}
use Rattle.dbl_demo_wal.specs.declared.entry.Entry.TheVariants.{Commits}
use Rattle.dbl_demo_wal.specs.Entries.{FitsWalEntry}
use Rattle.dbl_demo_wal.specs.Wals.{Wal}
use Rattle.dbl_demo_wal.specs.Workloads.{Workload, acts_at, steps_of}
use Rattle.dbl_demo_workload.specs.Steps.{IsNextRun, is_tick}
use Rattle.dbl_demo_workload.proofs.WorkloadLemmas.{get_there}
use Rattle.dbl_demo_laws.specs.Demo.{Demo, IsRunning}
use Rattle.dbl_demo_laws.specs.Reading.{IsLogged, LeavesLogged}
use Rattle.dbl_demo_laws.specs.Running.{IsRunOf, LeavesRun, Ran}
use Rattle.dbl_demo_laws.proofs.RunLemmas.{left_alone, left_logged, ran_logged, ran_silent}

module _ {D : Type 0} (model : DiskModel D) {parts whole : Demo D} (is : parts ≡ whole) where
  -- what running the next step of the parts commits
  abbrev pub RunsOne : List Step → Option (List Message) → Tables → Type 0
  RunsOne steps committed store = (w : Workload) → steps ≡ steps_of w → Stands w.tables (acts_at w parts.done) parts.store → IsNextRun w parts.done committed store

  abbrev pub parts_on : Tables → Demo D
  parts_on store = record parts { store = store; done = parts.done + 1 }

  -- nothing was written
  pub one_alone : whole.done < length whole.steps → (wal : Wal) → IsRunning model wal whole → LeavesRun model wal (whole.done + 1) [] whole parts
  one_alone left wal running = left_alone model wal whole running left whole.store parts (whole.done + 1) (ap (λ (s : Demo D). s.journal) is)

  -- it left the rest as it was
  pub one_same : (new : Demo D) → IsRunOf parts new → IsRunOf whole new
  one_same new same =
      same ∙ ap (λ (s : Demo D). let d : Demo D = record s { journal = new.journal; store = new.store; done = new.done; commits = new.commits } in d) is

  -- the disk's faults were counted
  pub one_counted : (failed : Type 0) (faults : ℕ) → FailsOnlyIfCounted failed (model.faults parts.journal.disk) faults → FailsOnlyIfCounted failed (model.faults whole.journal.disk) faults
  one_counted failed faults = subst (λ (s : Demo D). FailsOnlyIfCounted failed (model.faults s.journal.disk) faults) is

  pub one_fails : {A B : Type 0} (one : Result A SourceError) (end : Result B SourceError) (e : SourceError) (faults : ℕ) → one ≡ Err e → end ≡ Err e
      → FailsOnlyIfCounted (one ≡ Err Failed) (model.faults parts.journal.disk) faults → FailsOnlyIfCounted (end ≡ Err Failed) (model.faults whole.journal.disk) faults
  one_fails one end e faults was now counted = one_counted (end ≡ Err Failed) faults (record {
    later = counted.later;
    cause = λ is. counted.cause (was ∙ ap Err (let both = sym now ∙ is in cc));
  })

  pub one_ends_well : {A : Type 0} (x : A) (failed : Type 0) (faults : ℕ) → FailsOnlyIfCounted failed (model.faults parts.journal.disk) faults
      → FailsOnlyIfCounted (◌≡◌ {A = Result A SourceError} (Ok x) (Err Failed)) (model.faults whole.journal.disk) faults
  one_ends_well x failed faults counted = record { later = (one_counted failed faults counted).later; cause = λ is. absurd (let t = is in cc) }

  -- whether it ends a group
  pub one_ends : whole.done < length whole.steps → (tick : Bool) (x step : Step) → x ≡ get_or parts.steps parts.done x → tick ≡ is_tick x → slice_get whole.steps whole.done ≡ Some step → tick ≡ is_tick step
  one_ends left tick x step read told there =
      let left_here : parts.done < length parts.steps = subst (λ (s : Demo D). s.done < length s.steps) (sym is) left in
      let here : slice_get parts.steps parts.done ≡ Some step = subst (λ (s : Demo D). slice_get s.steps s.done ≡ Some step) (sym is) there in
      let is_x : slice_get parts.steps parts.done ≡ Some x = get_there parts.steps parts.done x left_here read in
      let same : x ≡ step = (let both : ◌≡◌ {A = Option Step} (Some x) (Some step) = sym is_x ∙ here in cc) in
      told ∙ ap is_tick same

  module _ (left : whole.done < length whole.steps) (steps : List Step) (are : steps ≡ parts.steps) (store : Tables) (committed : Option (List Message)) (ran : RunsOne steps committed store) (wal : Wal) (running : IsRunning model wal whole) where
    runs : IsRunning model wal parts
    runs = subst (IsRunning model wal) (sym is) running

    left_parts : parts.done < length parts.steps
    left_parts = subst (λ (s : Demo D). s.done < length s.steps) (sym is) left

    next : IsNextRun wal.workload parts.done committed store
    next = ran wal.workload (are ∙ runs.steps) runs.stands

    -- it committed nothing
    pub one_silent : committed ≡ None → Ran model wal (whole.done + 1) [] whole (parts_on store)
    one_silent none =
        let nothing : IsNextRun wal.workload parts.done None store = subst (λ (o : Option (List Message)). IsNextRun wal.workload parts.done o store) none next in
        subst (λ (s : Demo D). Ran model wal (s.done + 1) [] s (parts_on store)) is (ran_silent model wal parts runs left_parts store nothing)

    module _ (messages : List Message) (some : committed ≡ Some messages) (fits : FitsWalEntry (Commits (parts.done + 1) messages)) (small : count_of parts.journal < 2 ^ 40) (new : Demo D) where
      commits : IsNextRun wal.workload parts.done (Some messages) store
      commits = subst (λ (o : Option (List Message)). IsNextRun wal.workload parts.done o store) some next

      -- its commit was appended, or was being appended
      pub one_logged : IsLogged model messages (parts_on store) new → IsRunOf (parts_on store) new → (new.done ≡ parts.done + 1) × (new.store ≡ store) → Ran model wal (whole.done + 1) [] whole new
      one_logged logged same stays =
          subst (λ (s : Demo D). Ran model wal (s.done + 1) [] s new) is (ran_logged model wal parts runs left_parts store messages commits fits small new logged same stays)

      pub one_left : LeavesLogged model messages (parts_on store) new → LeavesRun model wal (whole.done + 1) [] whole new
      one_left leaves = subst (λ (s : Demo D). LeavesRun model wal (s.done + 1) [] s new) is (left_logged model wal parts runs left_parts store messages commits fits small new leaves)
