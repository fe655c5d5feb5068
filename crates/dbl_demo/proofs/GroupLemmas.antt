-- A group that is run step by step, of a source that is known by its parts.
use Rattle.std.proofs.Common.{◌≡◌, ◌∙◌, ℕ, zero, suc, ◌+◌, ◌<◌, ◌≤◌, Bool, true, false, Some, List, [], ◌∷◌, length, sym, subst, refl, arith}
use Rattle.std.specs.Prelude.{IsTrue, slice_get}
use Rattle.dbl_disk.specs.Model.{DiskModel}
use Rattle.dbl_journal.specs.Growth.{ExtendsJournal}
use Rattle.dbl_journal.proofs.Growth.{comes_on}
use Rattle.dbl_script.specs.declared.script.Step.{Step}
use Rattle.dbl_demo_wal.specs.Wals.{Wal}
use Rattle.dbl_demo_workload.specs.Steps.{is_tick}
use Rattle.dbl_demo_laws.specs.Calls.{next_end}
use Rattle.dbl_demo_laws.specs.Demo.{Demo, IsRunning}
use Rattle.dbl_demo_laws.specs.Running.{IsReleasing, IsRunOf, LeavesRun, Ran, StaysKnown}
use Rattle.dbl_demo_laws.proofs.KnownLemmas.{known_on}
use Rattle.dbl_demo_laws.proofs.LoopLemmas.{end_here, left_whole, release_ends, release_goes, release_left, release_stops}

some_at : {A : Type 0} (xs : List A) (n : ℕ) → n < length xs → (x : A) × (slice_get xs n ≡ Some x)
some_at [] n lt = absurd (omega (arith, lt))
some_at (x ∷ xs) zero lt = (x, refl)
some_at (x ∷ xs) (suc n) lt = some_at xs n (omega (arith, lt))

module _ {D : Type 0} (model : DiskModel D) (old : Demo D) {now whole : Demo D} (is : now ≡ whole) (so : IsReleasing model old whole) where
  here : IsReleasing model old now
  here = subst (IsReleasing model old) (sym is) so

  -- however the step ended
  pub group_comes : (new : Demo D) → ExtendsJournal model now.journal new.journal → ExtendsJournal model old.journal new.journal
  group_comes new comes = comes_on model old.journal now.journal new.journal here.comes comes

  pub group_known : (new : Demo D) → StaysKnown model now.journal.disk new.journal.disk → StaysKnown model old.journal.disk new.journal.disk
  group_known new known = known_on model old.journal.disk now.journal.disk new.journal.disk here.known known

  pub group_left : (new : Demo D) → now.done < length now.steps → ((wal : Wal) → IsRunning model wal now → LeavesRun model wal (now.done + 1) [] now new) → (wal : Wal) → IsRunning model wal old → LeavesRun model wal (next_end old) [] old new
  group_left new left leaves = release_left model old now here new left leaves

  module _ (new : Demo D) (left : now.done < length now.steps) (ran : (wal : Wal) → IsRunning model wal now → Ran model wal (now.done + 1) [] now new) (ends : Bool) (tells : (step : Step) → slice_get now.steps now.done ≡ Some step → ends ≡ is_tick step) where
    step : (x : Step) × (slice_get now.steps now.done ≡ Some x)
    step = some_at now.steps now.done left

    -- it ended the group
    pub group_ran : ends ≡ true → (wal : Wal) → IsRunning model wal old → Ran model wal (next_end old) [] old new
    group_ran tick = release_ends model old now new here left ran step.0 step.1 (sym (tells step.0 step.1) ∙ tick)

    pub group_end_is : ends ≡ true → new.done ≡ now.done + 1 → new.done ≡ next_end old
    group_end_is tick one = one ∙ sym (here.ends ∙ end_here now.steps now.done step.0 step.1 (sym (tells step.0 step.1) ∙ tick))

    -- or it didn't
    pub group_goes : ends ≡ false → new.done ≡ now.done + 1 → IsTrue new.journal.live → IsRunOf now new → ExtendsJournal model now.journal new.journal → model.faults now.journal.disk ≤ model.faults new.journal.disk → StaysKnown model now.journal.disk new.journal.disk
        → IsReleasing model old new
    group_goes other one live same comes counted known = release_goes model old now new here left ran step.0 step.1 (sym (tells step.0 step.1) ∙ other) one live same comes counted known

-- no step is left
module _ {D : Type 0} (model : DiskModel D) (old now : Demo D) (so : IsReleasing model old now) (none : length now.steps ≤ now.done) where
  pub group_over : (wal : Wal) → IsRunning model wal old → Ran model wal (next_end old) [] old now
  group_over = release_stops model old now so none

  pub group_over_left : (wal : Wal) → IsRunning model wal old → LeavesRun model wal (next_end old) [] old now
  group_over_left wal running = left_whole model wal (next_end old) old now (group_over wal running)
