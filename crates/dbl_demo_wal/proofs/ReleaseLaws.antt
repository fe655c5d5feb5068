-- Running steps adds to a sound log what may stand there.
use Rattle.std.proofs.Common.{◌≡◌, ◌∙◌, ℕ, zero, suc, ◌+◌, ◌-◌, ◌≤◌, Option, None, Some, Result, Ok, Err, List, [], ◌∷◌, ◌++◌, length, map, take, drop, refl, sym, ap, subst, arith, append_assoc, length-append}
use Rattle.std.specs.Prelude.{option_to_list}
use Rattle.std.specs.List.{cons_option}
use Rattle.std.proofs.lemmas.List.{append-nil}
use Rattle.std.proofs.lemmas.List.Elements.{filter_map-append}
use Rattle.dbl_pgmsg.specs.declared.messages.Message.{Message}
use Rattle.dbl_script.specs.declared.script.Step.{Step}
use Rattle.dbl_demo_wal.specs.declared.entry.Entry.{Entry}
use Rattle.dbl_demo_wal.specs.declared.entry.Entry.TheVariants.{Commits}
use Rattle.dbl_tables_laws.specs.TablesRows.declared.demo_table.DemoTable.{DemoTable}
use Rattle.dbl_tables_laws.specs.TablesRows.declared.error.StepError.{StepError}
use Rattle.dbl_tables_laws.specs.TablesRows.Acts.{Accepted, log_in, messages_by}
use Rattle.dbl_tables_laws.specs.TablesRows.Acts.Accepted.{Began, Did, Committed, RolledBack}
use Rattle.dbl_tables_laws.specs.TablesRows.Steps.{Step as SessionStep, judged}
use Rattle.dbl_tables_laws.specs.TablesRows.Serial.{accepted_onto, acts_after}
use Rattle.dbl_demo_wal.specs.Workloads.{Workload, acts_at, log_at, session_step_of, session_steps_of, steps_of}
use Rattle.dbl_demo_wal.specs.Sound.{committed_by, session_commits, steps_in, HasInitialCommit, AreNext, IsSilent}
use Rattle.dbl_demo_wal.specs.Groups.{entry_of_step, entries_of_steps, released}
use Rattle.dbl_demo_wal.specs.SoundLaws.{SoundLogsRelease}
use Rattle.dbl_demo_wal.proofs.SerialLaws.{steps_from-append, committed-push}
use Rattle.dbl_demo_wal.proofs.GrowthLaws.{acts_plus}
use Rattle.dbl_demo_wal.proofs.GroupLemmas.{entry_of_step_is}

-- ---- a step commits once at most

abbrev OneMore : List (List Message) → List (List Message) → Type 0
OneMore old new = (committed : Option (List Message)) × (new ≡ old ++ option_to_list committed)

none_more : (log : List (List Message)) → OneMore log log
none_more log = (None, sym (append-nil log))

one_on : (past : List Accepted) (r : Result Accepted StepError) → OneMore (log_in past) (log_in (accepted_onto r past))
one_on past (Err e) = none_more (log_in past)
one_on past (Ok (Began session)) = none_more (log_in past)
one_on past (Ok (Did session message)) = none_more (log_in past)
one_on past (Ok (Committed session)) = (Some (messages_by session past), refl)
one_on past (Ok (RolledBack session)) = none_more (log_in past)

one_after : (tables : List DemoTable) (past : List Accepted) (steps : List SessionStep) → length steps ≤ 1 → OneMore (log_in past) (log_in (acts_after tables past steps))
one_after tables past [] short = none_more (log_in past)
one_after tables past (step ∷ []) short = one_on past (judged tables past step)
one_after tables past (step ∷ second ∷ steps) short = absurd (omega (arith, short))

one_asked : (o : Option SessionStep) → length (cons_option o []) ≤ 1
one_asked None = omega arith
one_asked (Some step) = omega arith

one_taken : (steps : List Step) → length (session_steps_of (take 1 steps)) ≤ 1
one_taken [] = omega arith
one_taken (step ∷ steps) = one_asked (session_step_of step)

pub one_step : (w : Workload) (done : ℕ) → OneMore (log_at w done) (log_at w (suc done))
one_step w done =
    let k : suc done ≡ done + 1 = omega arith in
    let subsequent : List SessionStep = session_steps_of (take 1 (drop done (steps_of w))) in
    let more = one_after w.tables (acts_at w done) subsequent (one_taken (drop done (steps_of w))) in
    (more.0, ap (log_at w) k ∙ ap log_in (acts_plus w done 1) ∙ more.1)

-- ---- what a step adds may stand there

pub next_append : (w : Workload) (before xs ys : List Entry) → AreNext w before xs → AreNext w (before ++ xs) ys → AreNext w before (xs ++ ys)
next_append w before [] ys a b = subst (λ (l : List Entry). AreNext w l ys) (append-nil before) b
next_append w before (x ∷ xs) ys a b =
    (a.0, next_append w (before ++ x ∷ []) xs ys a.1 (subst (λ (l : List Entry). AreNext w l ys) (sym (append_assoc before (x ∷ []) xs)) b))

pub begun_more : (w : Workload) (entries more : List Entry) → HasInitialCommit w entries → HasInitialCommit w (entries ++ more)
begun_more w entries more begun =
    omega (arith, begun, ap (λ (l : List (List Message)). length l) (filter_map-append committed_by entries more), length-append (session_commits entries) (session_commits more))

-- these entries may come after others, and then so many steps were done, none of which commits anything that doesn't stand there
pub record Runs (w : Workload) (entries more : List Entry) (upto : ℕ) : Type 0 where
  pub each : AreNext w entries more
  pub silent : IsSilent w (entries ++ more) upto

step_runs : (w : Workload) (entries : List Entry) (done : ℕ) (committed : Option (List Message)) → log_at w (suc done) ≡ log_at w done ++ option_to_list committed → IsSilent w entries done → suc done ≤ length (steps_of w)
    → Runs w entries (map (Commits (suc done)) (option_to_list committed)) (suc done)
step_runs w entries done None log silent within = record {
  each = tt;
  silent = subst (λ (l : List Entry). IsSilent w l (suc done)) (sym (append-nil entries)) (record {
    later = omega (arith, silent.later);
    there = within;
    none_between = log ∙ append-nil (log_at w done) ∙ silent.none_between;
  });
}
step_runs w entries done (Some messages) log silent within =
    let is : log_at w (suc done) ≡ session_commits entries ++ messages ∷ [] = log ∙ ap (λ (l : List (List Message)). l ++ messages ∷ []) silent.none_between in
    let counted : steps_in (entries ++ Commits (suc done) messages ∷ []) ≡ suc done = steps_from-append 0 entries (Commits (suc done) messages ∷ []) in
    record {
      each = (record { later = omega (arith, silent.later); there = within; none_between = silent.none_between; is = is }, tt);
      silent = record {
        later = omega (arith, counted);
        there = within;
        none_between = is ∙ sym (committed-push entries (Commits (suc done) messages));
      };
    }

-- ---- and so may what more steps add

pub steps_run : (w : Workload) (entries : List Entry) (done count : ℕ) → IsSilent w entries done → done + count ≤ length (steps_of w) → Runs w entries (entries_of_steps w done count) (done + count)
steps_run w entries done zero silent within =
    let same : done ≡ done + 0 = omega arith in
    record { each = tt; silent = subst (λ (l : List Entry). IsSilent w l (done + 0)) (sym (append-nil entries)) (subst (λ (n : ℕ). IsSilent w entries n) same silent) }
steps_run w entries done (suc count) silent within =
    let one = one_step w done in
    let added : entry_of_step w done ≡ map (Commits (suc done)) (option_to_list one.0) = entry_of_step_is w done one.0 one.1 in
    let first : Runs w entries (entry_of_step w done) (suc done) =
    subst (λ (es : List Entry). Runs w entries es (suc done)) (sym added) (step_runs w entries done one.0 one.1 silent (omega (arith, within))) in
    let rest = steps_run w (entries ++ entry_of_step w done) (suc done) count first.silent (omega (arith, within)) in
    let last : suc done + count ≡ done + suc count = omega arith in
    let whole : IsSilent w (entries ++ (entry_of_step w done ++ entries_of_steps w (suc done) count)) (suc done + count) =
    subst (λ (l : List Entry). IsSilent w l (suc done + count)) (append_assoc entries (entry_of_step w done) (entries_of_steps w (suc done) count)) rest.silent in
    record {
      each = next_append w entries (entry_of_step w done) (entries_of_steps w (suc done) count) first.each rest.each;
      silent = subst (λ (n : ℕ). IsSilent w (entries ++ (entry_of_step w done ++ entries_of_steps w (suc done) count)) n) last whole;
    }

pub logs_release : SoundLogsRelease
logs_release w entries done upto sound silent le within =
    let total : done + (upto - done) ≡ upto = omega (arith, le) in
    let runs = steps_run w entries done (upto - done) silent (omega (arith, total, within)) in
    (record { each = next_append w [] entries (released w done upto) sound.each runs.each; begun = begun_more w entries (released w done upto) sound.begun }, subst (λ (n : ℕ). IsSilent w (entries ++ released w done upto) n) total runs.silent)
