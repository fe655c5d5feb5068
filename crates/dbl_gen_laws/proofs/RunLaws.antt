-- Each generated workload can be run.
use Rattle.std.proofs.Common.{◌≡◌, ◌+◌, ◌≤◌, ℕ, zero, suc, Bool, List, [], ◌∷◌, ◌++◌, map, refl, sym, subst, arith}
use Rattle.std.specs.Prelude.{not, Result, Ok, IsOk}
use Rattle.std.specs.List.{AllZip}
use Rattle.dbl_base.specs.Lines.{lines_of}
use Rattle.dbl_script.specs.declared.script.ScriptRow.{ScriptRow}
use Rattle.dbl_script.specs.declared.script.ScriptTable.{ScriptTable}
use Rattle.dbl_script.specs.Scripts.{script_of}
use Rattle.dbl_tables_rows.specs.declared.error.StepError.{StepError}
use Rattle.dbl_tables_rows.specs.declared.error.StepError.TheVariants as errors
use Rattle.dbl_tables_rows.specs.Acts.{Accepted}
use Rattle.dbl_tables_rows.specs.Acts.Accepted.{Committed}
use Rattle.dbl_tables_rows.specs.Refusals.{◌>>=◌, refuse_step_if}
use Rattle.dbl_tables_rows.specs.Serial.{InitialRow, accepted_onto, initial_steps}
use Rattle.dbl_tables_rows.specs.Steps.{Step}
use Rattle.dbl_tables_rows.specs.Steps.Step.{Commit, Insert}
use Rattle.dbl_demo_wal.specs.Workloads.{AreAccepted, IsTableOf, Workload, initial_row}
use Rattle.dbl_gen.specs.Laws.{account_rows}
use Rattle.dbl_gen.specs.Workload.{workload}
use Rattle.dbl_gen.proofs.Accepted.{workload_read}
use Rattle.dbl_gen_laws.specs.Runs.{GeneratedWorkloadsCanRun}
use Rattle.dbl_gen_laws.proofs.Accounts.{accounts_are, empties_are, tables}
use Rattle.dbl_gen_laws.proofs.Inserts.{inserted, past, still_open}

abbrev insert_of : InitialRow → Step
insert_of row = Insert [] row.0 row.1

abbrev rest_of : List ScriptRow → List Step
rest_of rows = map insert_of (map initial_row rows) ++ Commit [] ∷ []

rest_accepted : (count done line : ℕ) → done + count ≤ 400000 → AreAccepted tables (past done) (rest_of (account_rows (done + 1) line count))
rest_accepted zero done line few =
    (subst (λ (b : Bool). IsOk (refuse_step_if (not b) errors.NotOpen >>= λ (u : Unit). (let r : Result Accepted StepError = Ok (Committed []) in r))) (sym (still_open done)) refl, tt)
rest_accepted (suc count) done line few =
    let one = inserted done (omega (arith, few)) in
    let next : suc done + 1 ≡ done + 1 + 1 = omega arith in (
      subst IsOk (sym one) refl,
      subst (λ (r : Result Accepted StepError). AreAccepted tables (accepted_onto r (past done)) (rest_of (account_rows (done + 1 + 1) (line + 1) count))) (sym one)
          (subst (λ (key : ℕ). AreAccepted tables (past (suc done)) (rest_of (account_rows key (line + 1) count))) next (rest_accepted count (suc done) (line + 1) (omega (arith, few)))),
    )

rows_accepted : (count : ℕ) → count ≤ 400000 → AreAccepted tables [] (initial_steps (map initial_row (account_rows 1 3 count)))
rows_accepted zero few = tt
rows_accepted (suc count) few = (refl, rest_accepted (suc count) 0 3 (omega (arith, few)))

pub can_run : GeneratedWorkloadsCanRun
can_run number rows groups few_rows few_groups =
    let read = workload_read number rows groups few_rows few_groups in
    let w : Workload = record { script = script_of (lines_of (workload number rows groups)); tables = tables } in (
      w,
      record {
        few = read.few;
        good = read.good;
        script = refl;
        tables = subst (λ (ts : List ScriptTable). AllZip IsTableOf ts tables) (sym read.tables) (accounts_are, (empties_are, tt));
        rows = subst (λ (rs : List ScriptRow). AreAccepted tables [] (initial_steps (map initial_row rs))) (sym read.rows_are) (rows_accepted rows few_rows);
      },
    )
