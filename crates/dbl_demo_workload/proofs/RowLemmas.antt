-- Rows that are inserted one after the other, and a workload that is read whole, as the code has them.
use Rattle.std.proofs.Common.{◌≡◌, ◌∙◌, ◌⊎◌, ℕ, ◌<◌, None, Some, List, length, take, get_or, sym, ap, subst, inl, inr, zero, suc, true, false, [], ◌∷◌, refl, arith}
use Rattle.std.proofs.lemmas.Bool.Decides.{Decides-eqb}
use Rattle.std.specs.Prelude.{◌==◌, ◌↔◌, Result, Ok, Err, IfOk, IfErr, IfSome}
use Rattle.dbl_base.specs.Lines.{lines_of}
use Rattle.dbl_model_table.specs.declared.table.TableName.{TableName}
use Rattle.dbl_source_log.specs.declared.logged.LogTable.{LogTable}
use Rattle.dbl_script.specs.declared.script.Script.{Script}
use Rattle.dbl_script.specs.declared.script.ScriptRow.{ScriptRow}
use Rattle.dbl_script.specs.declared.script.ScriptTable.{ScriptTable}
use Rattle.dbl_script.specs.declared.error.ScriptError.{ScriptError}
use Rattle.dbl_script.specs.declared.error.ScriptError.TheVariants as script
use Rattle.dbl_script.specs.Scripts.{first_bad, script_of}
use Rattle.dbl_tables_rows.specs.declared.demo_table.DemoTable.{DemoTable}
use Rattle.dbl_tables_rows.specs.Acts.{Accepted}
use Rattle.dbl_tables_rows.specs.Serial.{acts_after}
use Rattle.dbl_demo_wal.specs.TablesLaws.Reachable.{AreTables}
use Rattle.dbl_tables.specs.declared.first_rows.FirstRows.{FirstRows}
use Rattle.dbl_demo_wal.specs.Contents.{HasFewTables}
use Rattle.dbl_demo_wal.specs.Workloads.{IsWorkload, Workload}
use Rattle.dbl_demo_wal.proofs.RangeLaws.{tables_can}
use Rattle.dbl_demo_wal.proofs.TableLemmas.{good_scripts}
use Rattle.dbl_demo_workload.specs.declared.preparing.Prepared.{Prepared}
use Rattle.dbl_demo_workload.specs.Errors.{script_error}
use Rattle.dbl_demo_workload.specs.Ready.{IsReady}
use Rattle.dbl_demo_workload.specs.Steps.{FitAnEntry}
use Rattle.dbl_demo_workload.specs.declared.error.DemoError.{DemoError}
use Rattle.dbl_demo_workload.specs.declared.error.DemoError.TheVariants as demo
use Rattle.dbl_demo_workload.specs.Preparing.{AreTablesRead, CommitsRows, HasBadTableIn, InsertsRow, InsertsRows, IsReadyOf, IsRefusedBy}
use Rattle.dbl_demo_workload.specs.Preparing.{IsRefusedBy as refused_by}
use Rattle.dbl_demo_workload.specs.Refusals.{HasGoodLines, IsRefused, row_calls}
use Rattle.dbl_demo_workload.proofs.OneOfLaws.{begun}
use Rattle.dbl_demo_workload.proofs.PrepareLemmas.{AreIn, bad_row, lines_good, lines_refused, ready_of, workload_ready, workload_refused}
use Rattle.dbl_demo_workload.proofs.WorkloadLemmas.{rows_fit}

-- ---- no row, and some

pub no_rows : (rows : List ScriptRow) (n : ℕ) → n ≡ length rows → (n == 0) ≡ true → rows ≡ []
no_rows [] n is none = refl
no_rows (row ∷ rows) n is none =
    let zero_is : n ≡ 0 = (Decides-eqb n 0).0 none in
    let contra : 0 ≡ suc (length rows) = sym zero_is ∙ is in
    cc

pub some_rows : (rows : List ScriptRow) (n : ℕ) → n ≡ length rows → (n == 0) ≡ false → 0 < length rows
some_rows [] zero is some = cc
some_rows [] (suc n) is some = cc
some_rows (row ∷ rows) n is some = omega arith

-- ---- one more row

pub row_bad : (tables : List DemoTable) (past : List Accepted) (rows : List ScriptRow) (n : ℕ) (row : ScriptRow) (first new : FirstRows) (e : DemoError) → n < length rows → row ≡ get_or rows n row → AreIn tables past (take n rows) first
    → InsertsRow tables (acts_after tables past (row_calls (take n rows))) row new (Err e) → InsertsRows tables past rows new (Err e)
row_bad tables past rows n row first new e within is before (inl memory) = inl memory
row_bad tables past rows n row first new e within is before (inr refused) = inr (bad_row tables past rows n row e within is before.0 refused)

-- a bad one in the commit of all
pub commit_refused : (tables : List DemoTable) (rows : List ScriptRow) (new : FirstRows) (e : DemoError) → InsertsRows tables (begun tables) rows new (Err e) → CommitsRows tables rows (Err e)
commit_refused tables rows new e inserts = inserts

-- ---- a script, whose lines and rows the code has

module _ (script : Script) (lines : List ScriptTable) (lines_are : lines ≡ script.tables) where
  -- the store can have the tables that were read
  pub can_make : (names : List TableName) (tables : List DemoTable) (log : List LogTable) → HasFewTables script → AreTablesRead lines names tables log → AreTables tables
  can_make names tables log few read =
      let moved : AreTablesRead script.tables names tables log = subst (λ (ls : List ScriptTable). AreTablesRead ls names tables log) lines_are read in
      tables_can script tables few moved.are

  -- a table can't be captured
  pub table_refused : (e : DemoError) → (e ≡ demo.Memory) ⊎ HasBadTableIn lines e → (e ≡ demo.Memory) ⊎ IsRefusedBy script e
  table_refused e (inl memory) = inl memory
  table_refused e (inr bad) = inr (refused_by.table (subst (λ (ls : List ScriptTable). HasBadTableIn ls e) lines_are bad))

  module _ (rows : List ScriptRow) (rows_are : rows ≡ script.rows) (tables : List DemoTable) where
    -- a row can't be inserted
    pub row_refused : (names : List TableName) (log : List LogTable) (e : DemoError) → AreTablesRead lines names tables log → CommitsRows tables rows (Err e) → (e ≡ demo.Memory) ⊎ IsRefusedBy script e
    row_refused names log e read commits =
        let moved : AreTablesRead script.tables names tables log = subst (λ (ls : List ScriptTable). AreTablesRead ls names tables log) lines_are read in
        let here : CommitsRows tables script.rows (Err e) = subst (λ (rs : List ScriptRow). CommitsRows tables rs (Err e)) rows_are commits in
        elim here [
          | inl memory ↦ inl memory
          | inr bad ↦ inr (refused_by.row tables moved.are bad)
        ]

    pub script_ready : (ready : Prepared) → AreTablesRead lines ready.names.items tables ready.tables.items → ready.steps.items ≡ script.steps → CommitsRows tables rows (Ok (ready.store, ready.rows)) → IsReadyOf script ready
    script_ready ready read steps commits =
        let moved : AreTablesRead script.tables ready.names.items tables ready.tables.items = subst (λ (ls : List ScriptTable). AreTablesRead ls ready.names.items tables ready.tables.items) lines_are read in
        let here : CommitsRows tables script.rows (Ok (ready.store, ready.rows)) = subst (λ (rs : List ScriptRow). CommitsRows tables rs (Ok (ready.store, ready.rows))) rows_are commits in
        ready_of script tables ready moved steps here.0 here.1 here.2 here.3

-- ---- a workload, as its lines were read

module _ (bytes : List ℕ) (good : HasGoodLines bytes) (s : Script) (is : s ≡ script_of (lines_of bytes)) where
  pub all_ready : (r : Result Prepared DemoError) → IfOk r (IsReadyOf s) → IfOk r (λ ready. (w : Workload) × IsWorkload bytes w × IsReady w ready)
  all_ready (Ok ready) of = workload_ready bytes good s is ready of
  all_ready (Err e) of = tt

  pub all_fitting : (r : Result Prepared DemoError) → IfOk r (IsReadyOf s) → IfOk r (λ ready. IfSome ready.rows FitAnEntry)
  all_fitting (Ok ready) of = let w = workload_ready bytes good s is ready of in rows_fit bytes w.0 ready w.1 w.2
  all_fitting (Err e) of = tt

  pub all_refused : (r : Result Prepared DemoError) → IfErr r (λ e. (e ≡ demo.Memory) ⊎ IsRefusedBy s e) → IfErr r (λ e. (e ≡ demo.Memory) ⊎ IsRefused bytes e)
  all_refused (Ok ready) of = tt
  all_refused (Err e) (inl memory) = inl memory
  all_refused (Err e) (inr refused) = inr (workload_refused bytes good s is e refused)

-- the lines couldn't be read
pub parse_refused : (bytes : List ℕ) (r : Result Script ScriptError) (e : ScriptError) (f : DemoError) → r ≡ Err e → ((n : ℕ) → r ≡ Err (script.BadLine n) → first_bad (lines_of bytes) ≡ Some n) → (r ≡ Err script.TooManyLines) ↔ (1000000 < length (lines_of bytes)) → f ≡ script_error e
    → (f ≡ demo.Memory) ⊎ IsRefused bytes f
parse_refused bytes r e f was bad many told =
    lines_refused bytes e f (λ n same. bad n (was ∙ ap (λ (x : ScriptError). Err x) same)) ((λ same. many.0 (was ∙ ap (λ (x : ScriptError). Err x) same)), (λ more. (let same : r ≡ Err script.TooManyLines = many.1 more in cc))) told

-- they were
pub parse_good : (bytes : List ℕ) (r : Result Script ScriptError) (s : Script) → r ≡ Ok s → (r ≡ Err script.TooManyLines) ↔ (1000000 < length (lines_of bytes)) → first_bad (lines_of bytes) ≡ None → HasGoodLines bytes
parse_good bytes r s was many good = lines_good bytes (λ more. (let same : r ≡ Err script.TooManyLines = many.1 more in cc)) good

pub few_tables : (bytes : List ℕ) (s : Script) → s ≡ script_of (lines_of bytes) → first_bad (lines_of bytes) ≡ None → HasFewTables s
few_tables bytes s is good = subst HasFewTables (sym is) (good_scripts (lines_of bytes) good)
