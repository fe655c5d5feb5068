-- Bytes are a workload, or there is one first cause why they aren't.
use Rattle.std.proofs.Common.{◌≡◌, ◌∙◌, ℕ, Option, None, Some, IsOk, List, [], ◌∷◌, ◌++◌, refl, sym, ap, subst, arith, map}
use Rattle.std.specs.List.{AllByRecursion, AllZip}
use Rattle.dbl_base.specs.Lines.{lines_of}
use Rattle.dbl_model_table.specs.declared.error.ModelError.{ModelError}
use Rattle.dbl_model_table.specs.Laws.{CapturableEntriesHaveAnInfo}
use Rattle.dbl_model_table.specs.Made.{table_fault}
use Rattle.dbl_script.specs.declared.script.Script.{Script}
use Rattle.dbl_script.specs.declared.script.ScriptTable.{ScriptTable}
use Rattle.dbl_script.specs.declared.script.ScriptRow.{ScriptRow}
use Rattle.dbl_script.specs.declared.error.ScriptError.{ScriptError}
use Rattle.dbl_script.specs.declared.error.ScriptError.TheVariants as script
use Rattle.dbl_script.specs.Scripts.{script_of}
use Rattle.dbl_tables_rows.specs.declared.demo_table.DemoTable.{DemoTable}
use Rattle.dbl_tables_rows.specs.Acts.{Accepted}
use Rattle.dbl_tables_rows.specs.Steps.{Step as SessionStep, judged}
use Rattle.dbl_tables_rows.specs.Steps.Step.{Begin, Commit, Insert}
use Rattle.dbl_tables_rows.specs.Serial.{InitialRow, acts_after, initial_steps, accepted_onto}
use Rattle.dbl_demo_wal.specs.Workloads.{Workload, AreAccepted, IsTableOf, IsWorkload, initial_row}
use Rattle.dbl_demo_wal.proofs.WalLaws.{tables_are}
use Rattle.dbl_demo_workload.specs.declared.error.DemoError.{DemoError}
use Rattle.dbl_demo_workload.specs.declared.error.DemoError.TheVariants as demo
use Rattle.dbl_demo_workload.specs.Refusals.{HasBadLines, HasBadRow, HasBadTable, HasGoodLines, IsRefused, row_calls}
use Rattle.dbl_demo_workload.specs.Refusals.{IsRefused as refused}
use Rattle.dbl_demo_workload.specs.Refusals.HasBadLines.{too_many, bad_line}

-- ---- the first of a list that fails

-- of two places at which a list fails that doesn't before, one
first_one : {A : Type 0} (Good Bad : A → Type 0) → ((x : A) → Good x → Bad x → ⊥) → (before before' : List A) (x x' : A) (subsequent subsequent' : List A) → before ++ x ∷ subsequent ≡ before' ++ x' ∷ subsequent'
    → AllByRecursion Good before → AllByRecursion Good before' → Bad x → Bad x' → x ≡ x'
first_one Good Bad apart [] [] x x' subsequent subsequent' same g g' b b' = cc
first_one Good Bad apart [] (y ∷ before') x x' subsequent subsequent' same g g' b b' = let head : x ≡ y = cc in absurd (apart y g'.0 (subst Bad head b))
first_one Good Bad apart (y ∷ before) [] x x' subsequent subsequent' same g g' b b' = let head : y ≡ x' = cc in absurd (apart y g.0 (subst Bad (sym head) b'))
first_one Good Bad apart (y ∷ before) (z ∷ before') x x' subsequent subsequent' same g g' b b' =
    let tail : before ++ x ∷ subsequent ≡ before' ++ x' ∷ subsequent' = cc in
    first_one Good Bad apart before before' x x' subsequent subsequent' tail g.1 g'.1 b b'

-- ---- lines

some_one : (m n : ℕ) → ◌≡◌ {A = Option ℕ} (Some m) (Some n) → m ≡ n
some_one m n h = cc

none_some : (n : ℕ) → ◌≡◌ {A = Option ℕ} None (Some n) → ⊥
none_some n h = cc

lines_one : (bytes : List ℕ) (a b : ScriptError) → HasBadLines bytes a → HasBadLines bytes b → a ≡ b
lines_one bytes a b (too_many m x) (too_many n y) = x ∙ sym y
lines_one bytes a b (too_many m x) (bad_line number few bad y) = absurd (omega (arith, m, few))
lines_one bytes a b (bad_line number few bad x) (too_many m y) = absurd (omega (arith, m, few))
lines_one bytes a b (bad_line number few bad x) (bad_line other few' bad' y) = x ∙ ap (λ (n : ℕ). script.BadLine n) (some_one number other (sym bad ∙ bad')) ∙ sym y

good_or_bad : (bytes : List ℕ) (e : ScriptError) → HasBadLines bytes e → HasGoodLines bytes → ⊥
good_or_bad bytes e (too_many m x) good = omega (arith, m, good.few)
good_or_bad bytes e (bad_line number few bad x) good = none_some number (sym good.good ∙ bad)

-- ---- tables

abbrev HasNoFault : ScriptTable → Type 0
HasNoFault table = table_fault table.raw ≡ None

abbrev HasFault : ScriptTable → Type 0
HasFault table = (e : ModelError) × (table_fault table.raw ≡ Some e)

fault_apart : (table : ScriptTable) → HasNoFault table → HasFault table → ⊥
fault_apart table good bad = let contra : ◌≡◌ {A = Option ModelError} None (Some bad.0) = sym good ∙ bad.1 in cc

fault_one : (d e : ModelError) → ◌≡◌ {A = Option ModelError} (Some d) (Some e) → d ≡ e
fault_one d e h = cc

tables_one : (bytes : List ℕ) (d e : ModelError) → HasBadTable bytes d → HasBadTable bytes e → d ≡ e
tables_one bytes d e a b =
    let same : a.table ≡ b.table = first_one HasNoFault HasFault fault_apart a.before b.before a.table b.table a.subsequent b.subsequent (sym a.are ∙ b.are) a.good b.good (d, a.fault) (e, b.fault) in
    fault_one d e (sym a.fault ∙ ap (λ (t : ScriptTable). table_fault t.raw) same ∙ b.fault)

-- tables that all have an info have no fault
no_fault_in : CapturableEntriesHaveAnInfo → (lines : List ScriptTable) (tables : List DemoTable) → AllZip IsTableOf lines tables → AllByRecursion HasNoFault lines
no_fault_in captured [] tables are = tt
no_fault_in captured (line ∷ lines) [] are = absurd are
no_fault_in captured (line ∷ lines) (table ∷ tables) are = ((captured line.raw).1 (table.info, are.0.info), no_fault_in captured lines tables are.1)

all_but : {A : Type 0} (P : A → Type 0) (before : List A) (x : A) (subsequent : List A) → AllByRecursion P (before ++ x ∷ subsequent) → P x
all_but P [] x subsequent h = h.0
all_but P (y ∷ before) x subsequent h = all_but P before x subsequent h.1

table_or_all : CapturableEntriesHaveAnInfo → (bytes : List ℕ) (e : ModelError) (tables : List DemoTable) → HasBadTable bytes e → AllZip IsTableOf (script_of (lines_of bytes)).tables tables → ⊥
table_or_all captured bytes e tables bad are =
    let all = subst (AllByRecursion HasNoFault) bad.are (no_fault_in captured (script_of (lines_of bytes)).tables tables are) in
    fault_apart bad.table (all_but HasNoFault bad.before bad.table bad.subsequent all) (e, bad.fault)

-- ---- rows

-- calls that are accepted after some acts, and one that isn't, are the first ones of a list in one way
record IsFirstRefused (tables : List DemoTable) (past : List Accepted) (rows before : List ScriptRow) (row : ScriptRow) : Type 0 where
  subsequent : List ScriptRow
  are : rows ≡ before ++ row ∷ subsequent
  accepted : AreAccepted tables past (row_calls before)
  refused : ¬ IsOk (judged tables (acts_after tables past (row_calls before)) (Insert [] row.table row.cells))

rows_one : (tables : List DemoTable) (past : List Accepted) (rows before before' : List ScriptRow) (row row' : ScriptRow) → IsFirstRefused tables past rows before row → IsFirstRefused tables past rows before' row' → row ≡ row'
rows_one tables past rows [] [] row row' a b = let same : row ∷ a.subsequent ≡ row' ∷ b.subsequent = sym a.are ∙ b.are in cc
rows_one tables past rows [] (x ∷ before') row row' a b =
    let same : row ∷ a.subsequent ≡ x ∷ (before' ++ row' ∷ b.subsequent) = sym a.are ∙ b.are in
    let head : row ≡ x = cc in
    absurd (a.refused (subst (λ (r : ScriptRow). IsOk (judged tables past (Insert [] r.table r.cells))) (sym head) b.accepted.0))
rows_one tables past rows (x ∷ before) [] row row' a b =
    let same : row' ∷ b.subsequent ≡ x ∷ (before ++ row ∷ a.subsequent) = sym b.are ∙ a.are in
    let head : row' ≡ x = cc in
    absurd (b.refused (subst (λ (r : ScriptRow). IsOk (judged tables past (Insert [] r.table r.cells))) (sym head) a.accepted.0))
rows_one tables past rows (x ∷ before) (y ∷ before') row row' a b =
    let same : x ∷ (before ++ row ∷ a.subsequent) ≡ y ∷ (before' ++ row' ∷ b.subsequent) = sym a.are ∙ b.are in
    let head : x ≡ y = cc in
    let tail : before ++ row ∷ a.subsequent ≡ before' ++ row' ∷ b.subsequent = cc in
    let next = accepted_onto (judged tables past (Insert [] x.table x.cells)) past in
    let moved : IsFirstRefused tables past (y ∷ (before' ++ row' ∷ b.subsequent)) (x ∷ before') row' = subst (λ (z : ScriptRow). IsFirstRefused tables past (y ∷ (before' ++ row' ∷ b.subsequent)) (z ∷ before') row') (sym head)
    (record { subsequent = b.subsequent; are = refl; accepted = b.accepted; refused = b.refused }) in
    rows_one tables next (before ++ row ∷ a.subsequent) before before' row row'
    (record { subsequent = a.subsequent; are = refl; accepted = a.accepted.1; refused = a.refused })
    (record { subsequent = b.subsequent; are = tail; accepted = moved.accepted.1; refused = moved.refused })

row_one : (bytes : List ℕ) (m n : ℕ) → HasBadRow bytes m → HasBadRow bytes n → m ≡ n
row_one bytes m n a b =
    let tables = tables_are (script_of (lines_of bytes)).tables a.tables b.tables a.are_tables b.are_tables in
    let past = acts_after b.tables [] (Begin [] ∷ []) in
    let rows = (script_of (lines_of bytes)).rows in
    let first : IsFirstRefused b.tables past rows a.before a.row = subst (λ (ts : List DemoTable). IsFirstRefused ts (acts_after ts [] (Begin [] ∷ [])) rows a.before a.row) tables
    (record { subsequent = a.subsequent; are = a.are; accepted = a.accepted.1; refused = a.refused }) in
    let second : IsFirstRefused b.tables past rows b.before b.row = record { subsequent = b.subsequent; are = b.are; accepted = b.accepted.1; refused = b.refused } in
    a.line ∙ ap (λ (r : ScriptRow). r.line) (rows_one b.tables past rows a.before b.before a.row b.row first second) ∙ sym b.line

-- ---- rows that are all accepted

abbrev insert_of : InitialRow → SessionStep
insert_of row = Insert [] row.0 row.1

inserted : (tables : List DemoTable) (past : List Accepted) (before : List ScriptRow) (row : ScriptRow) (subsequent : List ScriptRow) → AreAccepted tables past (map insert_of (map initial_row (before ++ row ∷ subsequent)) ++ Commit [] ∷ [])
    → IsOk (judged tables (acts_after tables past (row_calls before)) (Insert [] row.table row.cells))
inserted tables past [] row subsequent h = h.0
inserted tables past (x ∷ before) row subsequent h = inserted tables (accepted_onto (judged tables past (Insert [] x.table x.cells)) past) before row subsequent h.1

accepted_row : (tables : List DemoTable) (before : List ScriptRow) (row : ScriptRow) (subsequent : List ScriptRow) → AreAccepted tables [] (initial_steps (map initial_row (before ++ row ∷ subsequent)))
    → IsOk (judged tables (acts_after tables [] (Begin [] ∷ row_calls before)) (Insert [] row.table row.cells))
accepted_row tables [] row subsequent h = inserted tables (acts_after tables [] (Begin [] ∷ [])) [] row subsequent h.1
accepted_row tables (x ∷ before) row subsequent h = inserted tables (acts_after tables [] (Begin [] ∷ [])) (x ∷ before) row subsequent h.1

-- ---- one cause

module _ (captured : CapturableEntriesHaveAnInfo) (bytes : List ℕ) where
  pub one_refused : (d e : DemoError) → IsRefused bytes d → IsRefused bytes e → d ≡ e
  one_refused d e (refused.lines x a h) (refused.lines y b k) = h ∙ ap (λ (z : ScriptError). demo.Script z) (lines_one bytes x y a b) ∙ sym k
  one_refused d e (refused.lines x a h) (refused.table y b k) = absurd (good_or_bad bytes x a b.lines)
  one_refused d e (refused.lines x a h) (refused.row n b k) = absurd (good_or_bad bytes x a b.lines)
  one_refused d e (refused.table x a h) (refused.lines y b k) = absurd (good_or_bad bytes y b a.lines)
  one_refused d e (refused.table x a h) (refused.table y b k) = h ∙ ap (λ (z : ModelError). demo.Model z) (tables_one bytes x y a b) ∙ sym k
  one_refused d e (refused.table x a h) (refused.row n b k) = absurd (table_or_all captured bytes x b.tables a b.are_tables)
  one_refused d e (refused.row m a h) (refused.lines y b k) = absurd (good_or_bad bytes y b a.lines)
  one_refused d e (refused.row m a h) (refused.table y b k) = absurd (table_or_all captured bytes y a.tables b a.are_tables)
  one_refused d e (refused.row m a h) (refused.row n b k) = h ∙ ap (λ (z : ℕ). demo.Script (script.BadLine z)) (row_one bytes m n a b) ∙ sym k

  -- ---- a workload that can be run has none

  good_of : (w : Workload) → IsWorkload bytes w → HasGoodLines bytes
  good_of w is = record { few = is.few; good = is.good }

  pub not_refused : (w : Workload) (e : DemoError) → IsWorkload bytes w → ¬ IsRefused bytes e
  not_refused w e is (refused.lines x a h) = good_or_bad bytes x a (good_of w is)
  not_refused w e is (refused.table x a h) = table_or_all captured bytes x w.tables a (subst (λ (s : Script). AllZip IsTableOf s.tables w.tables) is.script is.tables)
  not_refused w e is (refused.row n a h) =
      let tables = tables_are (script_of (lines_of bytes)).tables a.tables w.tables a.are_tables (subst (λ (s : Script). AllZip IsTableOf s.tables w.tables) is.script is.tables) in
      let rows : w.script.rows ≡ a.before ++ a.row ∷ a.subsequent = ap (λ (s : Script). s.rows) is.script ∙ a.are in
      let accepted : AreAccepted w.tables [] (initial_steps (map initial_row (a.before ++ a.row ∷ a.subsequent))) = subst (λ (rs : List ScriptRow). AreAccepted w.tables [] (initial_steps (map initial_row rs))) rows is.rows in
      let ok = accepted_row w.tables a.before a.row a.subsequent accepted in
      a.refused (subst (λ (ts : List DemoTable). IsOk (judged ts (acts_after ts [] (Begin [] ∷ row_calls a.before)) (Insert [] a.row.table a.row.cells))) (sym tables) ok)
