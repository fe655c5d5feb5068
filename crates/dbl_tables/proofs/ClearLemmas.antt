-- The changes of a truncate of the tables at some places: which tables they are of, which keys they lock, and what they leave.
use Rattle.std.proofs.Common.{◌≡◌, ◌∙◌, ◌+◌, ◌-◌, ℕ, Bool, true, false, Option, Some, None, List, [], ◌∷◌, map, refl, sym, ap, arith}
use Rattle.std.specs.Prelude.{◌&&◌, ◌||◌, nat_eq, nat_lt, if◌then◌else◌, IsSome, option_map, filter_map, slice_get}
use Rattle.std.specs.List.{AllByRecursion, list_any, cons_option}
use Rattle.std.proofs.lemmas.Bool.Decides.{Decides-eqb, nat_tests}
use Rattle.std.proofs.lemmas.Option.{slice_get-map}
use Rattle.dbl_model_table.specs.declared.row.Key.{Key}
use Rattle.dbl_model_table.specs.declared.table.TableName.{TableName}
use Rattle.dbl_model_table.specs.Tables.{same_name, are_distinct}
use Rattle.dbl_model_history.specs.History.{RawChange, name_of}
use Rattle.dbl_model_history.specs.History.RawChange.{Clear}
use Rattle.dbl_tables_rows.specs.SourceLog.declared.logged.LogTable.{LogTable}
use Rattle.dbl_tables_rows.specs.SourceLog.Relations.{first_oid, table_at}
use Rattle.dbl_tables_rows.specs.SourceLog.TextRows.{TextRows, log_table_named, text_row_in, text_rows_after, text_rows_with}
use Rattle.dbl_tables_rows.proofs.SourceLogThemselvesLemmas.{name_same, name_itself}
use Rattle.dbl_tables_rows.specs.declared.demo_table.DemoTable.{DemoTable}
use Rattle.dbl_tables_rows.specs.Locks.{names_key_in, locks, is_of}
use Rattle.dbl_tables_rows.specs.Sending.{log_table, log_tables}
use Rattle.dbl_tables_rows.specs.declared.rows.Rows.{Rows}
use Rattle.dbl_tables.proofs.DoStands.{names_of_tables, apart_at}

-- changes that clear tables
abbrev pub AreClears : List RawChange → Type 0
AreClears cs = AllByRecursion (λ (c : RawChange). c ≡ Clear (name_of c)) cs

-- ---- what they lock and leave

module _ (tables : List LogTable) (name : TableName) (t : LogTable) (there : log_table_named tables name ≡ Some t) (key : Key) where
  clear_locks : (c : RawChange) → c ≡ Clear (name_of c) → locks tables name key c ≡ is_of name c
  clear_locks c clears = by (same_name (name_of c) name) refl
    where
      by : (b : Bool) → same_name (name_of c) name ≡ b → (b && names_key_in (log_table_named tables (name_of c)) key c) ≡ b
      by false other = refl
      by true same =
          ap (λ (n : TableName). names_key_in (log_table_named tables n) key c) (name_same (name_of c) name same)
          ∙ (ap (λ (o : Option LogTable). names_key_in o key c) there
          ∙ ap (names_key_in (Some t) key) clears)

  -- they lock all keys of the tables that they are of
  pub all_locked : (cs : List RawChange) → AreClears cs → list_any (locks tables name key) cs ≡ list_any (is_of name) cs
  all_locked [] clears = refl
  all_locked (c ∷ cs) clears =
      ap (λ (b : Bool). b || list_any (locks tables name key) cs) (clear_locks c clears.0)
      ∙ ap (λ (b : Bool). is_of name c || b) (all_locked cs clears.1)

  one_left : (c : RawChange) (rows : TextRows) → c ≡ Clear (name_of c) → text_rows_after tables c rows name key ≡ (if is_of name c then None else rows name key)
  one_left c rows clears = by (same_name (name_of c) name)
    where
      cleared : text_row_in (log_table_named tables name) c (rows name) key ≡ None
      cleared = ap (λ (o : Option LogTable). text_row_in o c (rows name) key) there ∙ ap (λ (x : RawChange). text_row_in (Some t) x (rows name) key) clears

      by : (b : Bool) → (if b then text_row_in (log_table_named tables name) c (rows name) key else rows name key) ≡ (if b then None else rows name key)
      by true = cleared
      by false = refl

  none_left : (cs : List RawChange) (rows : TextRows) → AreClears cs → rows name key ≡ None → text_rows_with tables cs rows name key ≡ None
  none_left [] rows clears none = none
  none_left (c ∷ cs) rows clears none = none_left cs (text_rows_after tables c rows) clears.1 (one_left c rows clears.0 ∙ by (is_of name c))
    where
      by : (b : Bool) → (if b then None else rows name key) ≡ None
      by true = refl
      by false = none

  -- and leave no row there
  pub all_cleared : (cs : List RawChange) (rows : TextRows) → AreClears cs → list_any (is_of name) cs ≡ true → text_rows_with tables cs rows name key ≡ None
  all_cleared [] rows clears some = cc
  all_cleared (c ∷ cs) rows clears some = by (λ more. all_cleared cs (text_rows_after tables c rows) clears.1 more) (is_of name c) refl some
    where
      by : (list_any (is_of name) cs ≡ true → text_rows_with tables cs (text_rows_after tables c rows) name key ≡ None) → (b : Bool) → is_of name c ≡ b → (b || list_any (is_of name) cs) ≡ true → text_rows_with tables (c ∷ cs) rows name key ≡ None
      by later true own told = none_left cs (text_rows_after tables c rows) clears.1 (one_left c rows clears.0 ∙ ap (λ (b : Bool). if b then None else rows name key) own)
      by later false other told = later told

-- ---- the tables at some places

module _ (tables : List DemoTable) (rs : List Rows) (tables_are : map (λ (r : Rows). r.table) rs ≡ tables) (distinct : are_distinct same_name (names_of_tables rs) ≡ true) where
  abbrev pub clears_at : List ℕ → List RawChange
  clears_at places = filter_map (λ (oid : ℕ). option_map (λ (t : LogTable). Clear t.raw.name) (table_at (log_tables tables) oid)) (map (λ (place : ℕ). first_oid + place) places)

  -- the table at a place has the OID of the place
  pub at_place : (p : ℕ) (r : Rows) → slice_get rs p ≡ Some r → table_at (log_tables tables) (first_oid + p) ≡ Some (log_table r.table)
  at_place p r there =
      let high : nat_lt (first_oid + p) first_oid ≡ false = grind (arith, nat_tests) in
      let place : (first_oid + p) - first_oid ≡ p = omega arith in
      ap (λ (b : Bool). if b then None else slice_get (log_tables tables) ((first_oid + p) - first_oid)) high
      ∙ (ap (slice_get (log_tables tables)) place
      ∙ (slice_get-map log_table tables p
      ∙ (ap (λ (l : List DemoTable). option_map log_table (slice_get l p)) (sym tables_are)
      ∙ (ap (option_map log_table) (slice_get-map (λ (r : Rows). r.table) rs p)
      ∙ ap (λ (o : Option Rows). option_map log_table (option_map (λ (x : Rows). x.table) o)) there))))

  pub are_clears : (places : List ℕ) → AreClears (clears_at places)
  are_clears [] = tt
  are_clears (q ∷ places) = by (table_at (log_tables tables) (first_oid + q)) (are_clears places)
    where
      by : (o : Option LogTable) → AreClears (clears_at places) → AreClears (cons_option (option_map (λ (t : LogTable). Clear t.raw.name) o) (clears_at places))
      by None rest = rest
      by (Some t) rest = (refl, rest)

  -- a table is cleared where its place is named
  pub cleared_at : (p : ℕ) (r : Rows) → slice_get rs p ≡ Some r → (places : List ℕ) → AllByRecursion (λ (q : ℕ). IsSome (slice_get rs q)) places → list_any (is_of r.table.info.name) (clears_at places) ≡ list_any (nat_eq p) places
  cleared_at p r there [] all = refl
  cleared_at p r there (q ∷ places) all = by (cleared_at p r there places all.1) (slice_get rs q) refl all.0
    where
      same : (x : Rows) → slice_get rs q ≡ Some x → (b : Bool) → nat_eq p q ≡ b → same_name x.table.info.name r.table.info.name ≡ b
      same x is true own =
          let e : p ≡ q = (Decides-eqb p q).0 own in
          let f : x ≡ r = (let both : Some x ≡ Some r = sym is ∙ (ap (slice_get rs) (sym e) ∙ there) in cc) in
          ap (λ (y : Rows). same_name y.table.info.name r.table.info.name) f ∙ name_itself r.table.info.name
      same x is false other =
          apart_at rs q p x r distinct is there (λ e. (let contra : true ≡ false = sym ((Decides-eqb p q).1 (sym e)) ∙ other in cc))

      by : list_any (is_of r.table.info.name) (clears_at places) ≡ list_any (nat_eq p) places → (o : Option Rows) → slice_get rs q ≡ o → IsSome o → list_any (is_of r.table.info.name) (clears_at (q ∷ places)) ≡ (nat_eq p q || list_any (nat_eq p) places)
      by rest None is some = cc
      by rest (Some x) is some =
          ap (λ (o : Option LogTable). list_any (is_of r.table.info.name) (cons_option (option_map (λ (t : LogTable). Clear t.raw.name) o) (clears_at places))) (at_place q x is)
          ∙ (ap (λ (b : Bool). b || list_any (is_of r.table.info.name) (clears_at places)) (same x is (nat_eq p q) refl)
          ∙ ap (λ (b : Bool). nat_eq p q || b) rest)
