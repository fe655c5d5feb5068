-- Bytes are a workload that can be run, or there is a cause why not.
use Rattle.std.proofs.Common.{◌≡◌, ◌∙◌, ◌⊎◌, ℕ, ◌≤◌, Bool, true, false, Option, None, Some, List, [], ◌∷◌, ◌++◌, length, map, refl, sym, ap, subst, inl, inr}
use Rattle.std.specs.Prelude.{Result, Ok, Err, IsOk, is_ok}
use Rattle.std.specs.List.{AllByRecursion, AllZip}
use Rattle.std.proofs.lemmas.Bool.{cases_lt}
use Rattle.dbl_base.specs.Lines.{lines_of}
use Rattle.dbl_model_table.specs.declared.error.ModelError.{ModelError}
use Rattle.dbl_model_table.specs.declared.named_cell.NamedCell.{NamedCell}
use Rattle.dbl_model_table.specs.declared.table.TableName.{TableName}
use Rattle.dbl_model_table.specs.Laws.{CapturableEntriesHaveAnInfo}
use Rattle.dbl_model_table.specs.Made.{table_fault}
use Rattle.dbl_script.specs.declared.script.ScriptTable.{ScriptTable}
use Rattle.dbl_script.specs.declared.script.ScriptRow.{ScriptRow}
use Rattle.dbl_script.specs.declared.error.ScriptError.TheVariants as script
use Rattle.dbl_script.specs.Scripts.{script_of, first_bad}
use Rattle.dbl_tables_rows.specs.declared.demo_table.DemoTable.{DemoTable}
use Rattle.dbl_tables_rows.specs.declared.error.StepError.{StepError}
use Rattle.dbl_tables_rows.specs.Acts.{Accepted, is_open}
use Rattle.dbl_tables_rows.specs.Steps.{Step as SessionStep, judged, insert_judged}
use Rattle.dbl_tables_rows.specs.Steps.Step.{Begin, Commit, Insert}
use Rattle.dbl_tables_rows.specs.Serial.{acts_after, initial_steps, accepted_onto}
use Rattle.dbl_demo_wal.proofs.TablesLawsDoneLemmas.{insert_done}
use Rattle.dbl_demo_wal.specs.Workloads.{Workload, AreAccepted, IsTableOf, IsWorkload, initial_row}
use Rattle.dbl_demo_workload.specs.declared.error.DemoError.{DemoError}
use Rattle.dbl_demo_workload.specs.declared.error.DemoError.TheVariants as demo
use Rattle.dbl_demo_workload.specs.Laws.{WorkloadsOrRefusals}
use Rattle.dbl_demo_workload.specs.Refusals.{HasGoodLines, IsRefused, row_calls}
use Rattle.dbl_demo_workload.specs.Refusals.{IsRefused as refused}
use Rattle.dbl_demo_workload.specs.Refusals.HasBadLines.{too_many, bad_line}

-- ---- tables

abbrev HasNoFault : ScriptTable → Type 0
HasNoFault table = table_fault table.raw ≡ None

record FirstFault (lines : List ScriptTable) : Type 0 where
  before : List ScriptTable
  table : ScriptTable
  subsequent : List ScriptTable
  are : lines ≡ before ++ table ∷ subsequent
  good : AllByRecursion HasNoFault before
  fault : ModelError
  is : table_fault table.raw ≡ Some fault

fault_or_none : (lines : List ScriptTable) → AllByRecursion HasNoFault lines ⊎ FirstFault lines
fault_or_none [] = inl tt
fault_or_none (line ∷ lines) = by (table_fault line.raw) refl (fault_or_none lines)
  where
    by : (o : Option ModelError) → table_fault line.raw ≡ o → AllByRecursion HasNoFault lines ⊎ FirstFault lines → AllByRecursion HasNoFault (line ∷ lines) ⊎ FirstFault (line ∷ lines)
    by (Some e) is rest = inr (record { before = []; table = line; subsequent = lines; are = refl; good = tt; fault = e; is = is })
    by None is (inl all) = inl (is, all)
    by None is (inr f) = inr (record {
      before = line ∷ f.before;
      table = f.table;
      subsequent = f.subsequent;
      are = ap (λ (l : List ScriptTable). line ∷ l) f.are;
      good = (is, f.good);
      fault = f.fault;
      is = f.is;
    })

tables_for : CapturableEntriesHaveAnInfo → (lines : List ScriptTable) → AllByRecursion HasNoFault lines → (tables : List DemoTable) × AllZip IsTableOf lines tables
tables_for captured [] all = ([], tt)
tables_for captured (line ∷ lines) all =
    let info = (captured line.raw).0 all.0 in
    let rest = tables_for captured lines all.1 in
    let table : DemoTable = record { info = info.0; full = line.full; toast = line.toast } in
    (table ∷ rest.0, (record { info = info.1; full = refl; toast = refl }, rest.1))

-- ---- rows

abbrev insert : ScriptRow → SessionStep
insert row = Insert [] row.table row.cells

record FirstRefused (tables : List DemoTable) (past : List Accepted) (rows : List ScriptRow) : Type 0 where
  before : List ScriptRow
  row : ScriptRow
  subsequent : List ScriptRow
  are : rows ≡ before ++ row ∷ subsequent
  accepted : AreAccepted tables past (row_calls before)
  refused : ¬ IsOk (judged tables (acts_after tables past (row_calls before)) (Insert [] row.table row.cells))

refused_or_none : (tables : List DemoTable) (rows : List ScriptRow) (past : List Accepted) → AreAccepted tables past (row_calls rows) ⊎ FirstRefused tables past rows
refused_or_none tables [] past = inl tt
refused_or_none tables (row ∷ rows) past = by (is_ok (judged tables past (insert row))) refl (refused_or_none tables rows (accepted_onto (judged tables past (insert row)) past))
  where
    by : (b : Bool) → is_ok (judged tables past (insert row)) ≡ b → AreAccepted tables (accepted_onto (judged tables past (insert row)) past) (row_calls rows) ⊎ FirstRefused tables (accepted_onto (judged tables past (insert row)) past) rows → AreAccepted tables past (row_calls (row ∷ rows)) ⊎ FirstRefused tables past (row ∷ rows)
    by false is rest = inr (record {
      before = [];
      row = row;
      subsequent = rows;
      are = refl;
      accepted = tt;
      refused = λ ok. (let contra : false ≡ true = sym is ∙ ok in cc);
    })
    by true is (inl all) = inl (is, all)
    by true is (inr f) = inr (record {
      before = row ∷ f.before;
      row = f.row;
      subsequent = f.subsequent;
      are = ap (λ (l : List ScriptRow). row ∷ l) f.are;
      accepted = (is, f.accepted);
      refused = f.refused;
    })

-- an insert that is accepted changes rows: its session stays open
open_on : (tables : List DemoTable) (past : List Accepted) (row : ScriptRow) → is_open [] past ≡ true → is_open [] (accepted_onto (judged tables past (insert row)) past) ≡ true
open_on tables past row opened = by (insert_judged tables past [] row.table row.cells) refl
  where
    by : (r : Result Accepted StepError) → insert_judged tables past [] row.table row.cells ≡ r → is_open [] (accepted_onto r past) ≡ true
    by (Err e) is = opened
    by (Ok act) is = let d = insert_done tables past [] row.table row.cells act is in subst (λ (a : Accepted). is_open [] (a ∷ past) ≡ true) d.did opened

-- so the commit after all inserts is accepted
with_commit : (tables : List DemoTable) (rows : List ScriptRow) (past : List Accepted) → is_open [] past ≡ true → AreAccepted tables past (row_calls rows) → AreAccepted tables past (row_calls rows ++ Commit [] ∷ [])
with_commit tables [] past opened all = (rw opened refl, tt)
with_commit tables (row ∷ rows) past opened all = (all.0, with_commit tables rows (accepted_onto (judged tables past (insert row)) past) (open_on tables past row opened) all.1)

pub same_calls : (rows : List ScriptRow) → map (λ (r : TableName × List NamedCell). Insert [] r.0 r.1) (map initial_row rows) ≡ row_calls rows
same_calls [] = refl
same_calls (row ∷ rows) = ap (λ (l : List SessionStep). insert row ∷ l) (same_calls rows)

abbrev pub begun : List DemoTable → List Accepted
begun tables = acts_after tables [] (Begin [] ∷ [])

pub all_accepted : (tables : List DemoTable) (rows : List ScriptRow) → AreAccepted tables (begun tables) (row_calls rows) → AreAccepted tables [] (initial_steps (map initial_row rows))
all_accepted tables [] all = tt
all_accepted tables (row ∷ rows) all =
    let calls : row_calls (row ∷ rows) ++ Commit [] ∷ [] ≡ map (λ (r : TableName × List NamedCell). Insert [] r.0 r.1) (map initial_row (row ∷ rows)) ++ Commit [] ∷ [] =
    ap (λ (l : List SessionStep). l ++ Commit [] ∷ []) (sym (same_calls (row ∷ rows))) in
    (refl, subst (AreAccepted tables (begun tables)) calls (with_commit tables (row ∷ rows) (begun tables) refl all))

-- ---- one of them

module _ (captured : CapturableEntriesHaveAnInfo) (bytes : List ℕ) where
  abbrev lines : List (List ℕ)
  lines = lines_of bytes

  abbrev Either : Type 0
  Either = ((w : Workload) × IsWorkload bytes w) ⊎ ((e : DemoError) × IsRefused bytes e)

  by_rows : HasGoodLines bytes → (tables : List DemoTable) → AllZip IsTableOf (script_of lines).tables tables → Either
  by_rows good tables are =
      elim (refused_or_none tables (script_of lines).rows (begun tables)) [
        | inl all ↦ inl (record { script = script_of lines; tables = tables }, record { few = good.few; good = good.good; script = refl; tables = are; rows = all_accepted tables (script_of lines).rows all })
        | inr f ↦ inr (
          demo.Script (script.BadLine f.row.line),
          refused.row f.row.line (record {
            lines = good;
            tables = tables;
            are_tables = are;
            before = f.before;
            row = f.row;
            subsequent = f.subsequent;
            are = f.are;
            accepted = (refl, f.accepted);
            refused = f.refused;
            line = refl;
          }) refl,
        )
      ]

  by_tables : HasGoodLines bytes → Either
  by_tables good =
      elim (fault_or_none (script_of lines).tables) [
        | inl all ↦ (let tables = tables_for captured (script_of lines).tables all in by_rows good tables.0 tables.1)
        | inr f ↦ inr (demo.Model f.fault, refused.table f.fault (record { lines = good; before = f.before; table = f.table; subsequent = f.subsequent; are = f.are; good = f.good; fault = f.is }) refl)
      ]

  by_lines : length lines ≤ 1000000 → (o : Option ℕ) → first_bad lines ≡ o → Either
  by_lines few None good = by_tables (record { few = few; good = good })
  by_lines few (Some number) bad = inr (demo.Script (script.BadLine number), refused.lines (script.BadLine number) (bad_line number few bad refl) refl)

  one_of : Either
  one_of =
      elim (cases_lt 1000000 (length lines)) [
        | inl many ↦ inr (demo.Script script.TooManyLines, refused.lines script.TooManyLines (too_many many refl) refl)
        | inr few ↦ by_lines few (first_bad lines) refl
      ]

pub workload_or_refused : CapturableEntriesHaveAnInfo → WorkloadsOrRefusals
workload_or_refused captured bytes = one_of captured bytes
