-- A workload that can be run has tables.
use Rattle.std.proofs.Common.{◌≡◌, ℕ, zero, suc, ◌+◌, ◌==◌, ◌≤◌, Bool, true, false, if◌then◌else◌, List, [], ◌∷◌, ◌++◌, length, map, Some, None, refl, sym, ap, subst, arith, append_assoc}
use Rattle.std.specs.List.{AllZip}
use Rattle.std.proofs.lemmas.List.{append-nil}
use Rattle.dbl_base.specs.Lines.{lines_of}
use Rattle.dbl_script.specs.declared.script.Script.{Script}
use Rattle.dbl_script.specs.declared.script.ScriptTable.{ScriptTable}
use Rattle.dbl_script.specs.Scripts.{first_bad_after, is_good, script_of}
use Rattle.dbl_demo_laws.specs.TablesRows.declared.demo_table.DemoTable.{DemoTable}
use Rattle.dbl_demo_laws.specs.DemoWal.Workloads.{IsTableOf}
use Rattle.dbl_demo_laws.proofs.DemoWalRangeLaws.{tables_can}
use Rattle.dbl_demo_laws.proofs.DemoWalTableLemmas.{good_scripts}
use Rattle.dblog_promise.specs.PromiseLaws.{WorkloadsHaveTables}

-- where no line is bad there is a table
some_from : (before lines : List (List ℕ)) → first_bad_after before lines ≡ None → 1 ≤ length (script_of (before ++ lines)).tables
some_from before [] none = subst (λ (l : List (List ℕ)). 1 ≤ length (script_of l).tables) (sym (append-nil before)) (by (length (script_of before).tables) none)
  where
    by : (n : ℕ) → (if n == 0 then Some (length before + 1) else None) ≡ None → 1 ≤ n
    by zero none = absurd (let e : Some (length before + 1) ≡ None = none in cc)
    by (suc n) none = omega arith
some_from before (line ∷ lines) none = by (is_good before line) none (λ rest. some_from (before ++ line ∷ []) lines rest)
  where
    by : (b : Bool) → (if b then first_bad_after (before ++ line ∷ []) lines else Some (length before + 1)) ≡ None
        → (first_bad_after (before ++ line ∷ []) lines ≡ None → 1 ≤ length (script_of ((before ++ line ∷ []) ++ lines)).tables) → 1 ≤ length (script_of (before ++ line ∷ lines)).tables
    by true rest on = subst (λ (l : List (List ℕ)). 1 ≤ length (script_of l).tables) (append_assoc before (line ∷ []) lines) (on rest)
    by false rest on = absurd (let e : Some (length before + 1) ≡ None = rest in cc)

as_long : (lines : List ScriptTable) (tables : List DemoTable) → AllZip IsTableOf lines tables → length (map (λ (t : DemoTable). t.info.name) tables) ≡ length lines
as_long [] [] zipped = refl
as_long [] (t ∷ tables) zipped = absurd zipped
as_long (line ∷ lines) [] zipped = absurd zipped
as_long (line ∷ lines) (t ∷ tables) zipped = ap suc (as_long lines tables zipped.1)

at_least : (a b : ℕ) → a ≡ b → 1 ≤ b → 1 ≤ a
at_least a b is some = omega (arith, is, some)

at_most : (a b : ℕ) → a ≡ b → b ≤ 64 → a ≤ 64
at_most a b is few = omega (arith, is, few)

same_length : (tables : List DemoTable) → length (map (λ (t : DemoTable). t.info.name) tables) ≡ length tables
same_length [] = refl
same_length (t ∷ tables) = ap suc (same_length tables)

pub workloads_have_tables : WorkloadsHaveTables
workloads_have_tables bytes w is =
    let lines = lines_of bytes in
    let zipped = subst (λ (s : Script). AllZip IsTableOf s.tables w.tables) is.script is.tables in
    let can = tables_can (script_of lines) w.tables (good_scripts lines is.good) zipped in
    record {
      some = at_least (length (map (λ (t : DemoTable). t.info.name) w.tables)) (length (script_of lines).tables) (as_long (script_of lines).tables w.tables zipped) (some_from [] lines is.good);
      few = at_most (length (map (λ (t : DemoTable). t.info.name) w.tables)) (length w.tables) (same_length w.tables) can.few;
      distinct = can.distinct;
    }
