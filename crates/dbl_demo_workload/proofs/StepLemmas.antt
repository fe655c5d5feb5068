-- One more step of a workload: the acts after it, and what may come after its log then.
use Rattle.std.proofs.Common.{◌≡◌, ◌∙◌, ℕ, zero, suc, ◌+◌, ◌<◌, Option, None, Some, List, [], ◌∷◌, ◌++◌, length, take, drop, refl, sym, ap, arith}
use Rattle.std.specs.Prelude.{slice_get, option_to_list}
use Rattle.std.specs.List.{AllByRecursion, cons_option}
use Rattle.std.proofs.lemmas.List.{append-nil}
use Rattle.dbl_base.specs.declared.lsn.Lsn.{Lsn}
use Rattle.dbl_pgmsg.specs.declared.messages.Message.{Message}
use Rattle.dbl_script.specs.declared.script.Step.{Step}
use Rattle.dbl_script.specs.declared.script.Step.TheVariants as kinds
use Rattle.dbl_demo_wal.specs.Contents.{HasContent}
use Rattle.dbl_tables_rows.specs.declared.demo_table.DemoTable.{DemoTable}
use Rattle.dbl_tables_rows.specs.Acts.{Accepted, log_in}
use Rattle.dbl_tables_rows.specs.Steps.{Step as SessionStep}
use Rattle.dbl_tables_rows.specs.Serial.{acts_after}
use Rattle.dbl_demo_wal.specs.declared.entry.Entry.{Entry}
use Rattle.dbl_demo_wal.specs.declared.entry.Entry.TheVariants.{Commits, Marks, Confirms}
use Rattle.dbl_demo_wal.specs.Workloads.{Workload, acts_at, session_step_of, session_steps_of, log_at, steps_of}
use Rattle.dbl_demo_wal.specs.Sound.{session_commits, IsNextCommit, IsSilent}
use Rattle.dbl_demo_wal.proofs.GrowthLaws.{acts_plus}
use Rattle.dbl_demo_wal.proofs.SerialLaws.{committed-push, steps_from-append}
use Rattle.dbl_demo_workload.specs.Checking.{commit_places}
use Rattle.dbl_demo_workload.specs.Steps.{acts_with, acts_with_call, IsRunnable}

pub drop_there : {A : Type 0} (xs : List A) (n : ℕ) (x : A) → slice_get xs n ≡ Some x → drop n xs ≡ x ∷ drop (suc n) xs
drop_there [] n x there = absurd (let t = there in cc)
drop_there {A = A} (y ∷ xs) zero x there = let same : y ≡ x = (let t = there in cc) in ap (λ (z : A). z ∷ xs) same
drop_there (y ∷ xs) (suc n) x there = drop_there xs n x there

one_call : (tables : List DemoTable) (past : List Accepted) (o : Option SessionStep) → acts_after tables past (cons_option o []) ≡ acts_with_call tables past o
one_call tables past None = refl
one_call tables past (Some call) = refl

-- the acts after one more step
pub acts_next : (w : Workload) (done : ℕ) (step : Step) → slice_get (steps_of w) done ≡ Some step → acts_at w (suc done) ≡ acts_with w.tables (acts_at w done) step
acts_next w done step there =
    let more : suc done ≡ done + 1 = omega arith in
    ap (acts_at w) more ∙ acts_plus w done 1
    ∙ ap (λ (l : List Step). acts_after w.tables (acts_at w done) (session_steps_of (take 1 l))) (drop_there (steps_of w) done step there)
    ∙ one_call w.tables (acts_at w done) (session_step_of step)

-- the commits after it
pub log_next : (w : Workload) (done : ℕ) (step : Step) (committed : Option (List Message)) → slice_get (steps_of w) done ≡ Some step
    → log_in (acts_with w.tables (acts_at w done) step) ≡ log_in (acts_at w done) ++ option_to_list committed → log_at w (suc done) ≡ log_at w done ++ option_to_list committed
log_next w done step committed there log = ap log_in (acts_next w done step there) ∙ log

-- ---- steps that were read can be run

runnable_step : (s : Step) → HasContent s → IsRunnable s
runnable_step (kinds.Begin session) h = tt
runnable_step (kinds.Commit session) h = tt
runnable_step (kinds.Rollback session) h = tt
runnable_step (kinds.Insert session table cells) h = tt
runnable_step (kinds.Update session table key set) h = tt
runnable_step (kinds.Delete session table key) h = tt
runnable_step (kinds.Truncate session tables) h = h
runnable_step kinds.Tick h = tt

pub runnable_steps : (steps : List Step) → AllByRecursion HasContent steps → AllByRecursion IsRunnable steps
runnable_steps [] h = tt
runnable_steps (s ∷ steps) h = (runnable_step s h.0, runnable_steps steps h.1)

-- ---- what may come after the log

module _ (w : Workload) (entries : List Entry) (done : ℕ) (silent : IsSilent w entries done) (left : done < length (steps_of w)) where
  -- the step committed nothing
  pub silent_next : log_at w (suc done) ≡ log_at w done ++ [] → IsSilent w entries (suc done)
  silent_next log = record { later = omega (arith, silent.later); there = omega (arith, left); none_between = log ∙ append-nil (log_at w done) ∙ silent.none_between }

  module _ (messages : List Message) (log : log_at w (suc done) ≡ log_at w done ++ messages ∷ []) where
    is_next : log_at w (suc done) ≡ session_commits entries ++ messages ∷ []
    is_next = log ∙ ap (λ (l : List (List Message)). l ++ messages ∷ []) silent.none_between

    -- the commit is the next entry
    pub commit_next : IsNextCommit w entries (suc done) messages
    commit_next = record { later = omega (arith, silent.later); there = omega (arith, left); none_between = silent.none_between; is = is_next }

    pub silent_after : IsSilent w (entries ++ Commits (suc done) messages ∷ []) (suc done)
    silent_after = record {
      later = omega (arith, steps_from-append 0 entries (Commits (suc done) messages ∷ []));
      there = omega (arith, left);
      none_between = is_next ∙ sym (committed-push entries (Commits (suc done) messages));
    }

-- a watermark after the steps that were done: nothing changes for those that come
pub silent_mark : (w : Workload) (entries : List Entry) (done : ℕ) (value : List ℕ) → IsSilent w entries done → IsSilent w (entries ++ Marks done value ∷ []) done
silent_mark w entries done value silent = record {
  later = omega (arith, steps_from-append 0 entries (Marks done value ∷ []));
  there = silent.there;
  none_between = silent.none_between ∙ sym (committed-push entries (Marks done value) ∙ append-nil (session_commits entries));
}

pub silent_confirm : (w : Workload) (entries : List Entry) (done : ℕ) (upto : Lsn) → IsSilent w entries done → IsSilent w (entries ++ Confirms upto ∷ []) done
silent_confirm w entries done upto silent = record {
  later = omega (arith, silent.later, steps_from-append 0 entries (Confirms upto ∷ []));
  there = silent.there;
  none_between = silent.none_between ∙ sym (committed-push entries (Confirms upto) ∙ append-nil (session_commits entries));
}

-- ---- the numbers of commits

pub places_append : (number : ℕ) (xs ys : List Entry) → commit_places number (xs ++ ys) ≡ commit_places number xs ++ commit_places (number + length xs) ys
places_append number [] ys = let none : number ≡ number + length {A = Entry} [] = omega arith in ap (λ (n : ℕ). commit_places n ys) none
places_append number (Commits steps messages ∷ xs) ys =
    let on : (number + 1) + length xs ≡ number + suc (length xs) = omega arith in
    ap (λ (l : List ℕ). number ∷ l) (places_append (number + 1) xs ys ∙ ap (λ (n : ℕ). commit_places (number + 1) xs ++ commit_places n ys) on)
places_append number (Marks steps value ∷ xs) ys =
    let on : (number + 1) + length xs ≡ number + suc (length xs) = omega arith in
    ap (λ (l : List ℕ). number ∷ l) (places_append (number + 1) xs ys ∙ ap (λ (n : ℕ). commit_places (number + 1) xs ++ commit_places n ys) on)
places_append number (Confirms upto ∷ xs) ys =
    let on : (number + 1) + length xs ≡ number + suc (length xs) = omega arith in
    places_append (number + 1) xs ys ∙ ap (λ (n : ℕ). commit_places (number + 1) xs ++ commit_places n ys) on
