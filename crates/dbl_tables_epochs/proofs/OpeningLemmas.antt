-- One commit that inserts the rows of all tables: its changes, that they are valid, and the rows after it.
use Rattle.std.proofs.Common.{◌≡◌, ◌∙◌, ◌+◌, ℕ, zero, suc, Bool, true, false, Option, Some, None, List, [], ◌∷◌, ◌++◌, map, refl, sym, ap, subst, arith}
use Rattle.std.specs.Prelude.{not, if◌then◌else◌, is_some, IsSomeAnd, slice_get}
use Rattle.std.specs.List.{AllZip, list_any}
use Rattle.dbl_pgmsg.specs.declared.messages.Message.{Message}
use Rattle.dbl_model_table.specs.declared.row.Key.{Key}
use Rattle.dbl_model_table.specs.declared.table.TableName.{TableName}
use Rattle.dbl_model_table.specs.Tables.{is_watermark, same_name, are_distinct}
use Rattle.dbl_model_table.proofs.Lists.{and_left, and_right, or_false}
use Rattle.dbl_model_table.proofs.InfoLemmas.{not_true}
use Rattle.dbl_model_history.specs.History.{RawChange}
use Rattle.dbl_model_history.specs.History.RawChange.{Insert}
use Rattle.dbl_source_log.specs.declared.logged.LogTable.{LogTable}
use Rattle.dbl_source_log.specs.Relations.{table_at}
use Rattle.dbl_source_log.specs.Texts.{Texts}
use Rattle.dbl_source_log.specs.TextRows.{TextRows, text_row_in, log_table_named, text_rows_after, text_rows_with}
use Rattle.dbl_source_log.specs.RawChanges.{changes_from}
use Rattle.dbl_source_log.specs.FitLogs.{IsFitText, AreFitChanges}
use Rattle.dbl_source_log.proofs.ThemselvesLemmas.{name_itself, name_same}
use Rattle.dbl_tables_rows.specs.Sending.{insert_message}
use Rattle.dbl_tables_laws.proofs.MessageLemmas.{insert_change}
use Rattle.dbl_tables_laws.proofs.OrderLemmas.{subsequent-append}
use Rattle.dbl_tables_laws.proofs.SeenLemmas.{names_in}
use Rattle.dbl_tables_epochs.proofs.ListLemmas.{among, AreOwnRows, put, put_all, first_of, put_all_is, AreNewRows, new_rows}

-- ---- names

pub flip_name : (a b : TableName) → same_name a b ≡ false → same_name b a ≡ false
flip_name a b other = by (same_name b a) refl
  where
    by : (c : Bool) → same_name b a ≡ c → c ≡ false
    by true same = let contra : true ≡ false = sym (ap (same_name a) (name_same b a same) ∙ name_itself a) ∙ other in cc
    by false is = refl

-- ---- what is inserted

-- The messages that insert rows of tables, the first of which has this OID.
abbrev pub opening_from : ℕ → List (List Texts) → List Message
opening_from oid [] = []
opening_from oid (list ∷ lists) = map (insert_message oid) list ++ opening_from (oid + 1) lists

-- The insert of a row.
abbrev pub insert_of_row : LogTable → Texts → RawChange
insert_of_row t row = Insert t.raw.name (record { cells = row })

-- The inserts of the rows of tables.
abbrev pub opened_by : List LogTable → List (List Texts) → List RawChange
opened_by [] lists = []
opened_by (t ∷ ts) [] = []
opened_by (t ∷ ts) (list ∷ lists) = map (insert_of_row t) list ++ opened_by ts lists

-- Each table has rows that it can have.
abbrev pub HaveOwnRows : List LogTable → List (List Texts) → Type 0
HaveOwnRows ts lists = AllZip (λ t list. AreOwnRows t.raw list) ts lists

-- The row of a table at a key.
abbrev pub shown : List LogTable → List (List Texts) → TableName → Key → Option Texts
shown [] lists name key = None
shown (t ∷ ts) [] name key = None
shown (t ∷ ts) (list ∷ lists) name key = if same_name t.raw.name name then among t.raw list key else shown ts lists name key

-- no row is of a name that no table has
none_shown : (ts : List LogTable) (lists : List (List Texts)) (name : TableName) (key : Key) → list_any (same_name name) (names_in ts) ≡ false
    → shown ts lists name key ≡ None
none_shown [] lists name key none = refl
none_shown (t ∷ ts) [] name key none = refl
none_shown (t ∷ ts) (list ∷ lists) name key none =
    let both = or_false (same_name name t.raw.name) (list_any (same_name name) (names_in ts)) none in
    ap (λ (b : Bool). if b then among t.raw list key else shown ts lists name key) (flip_name name t.raw.name both.0)
    ∙ none_shown ts lists name key both.1

-- ---- the tables of the log

-- What a table has among the tables of the log.
pub record IsHad (tables : List LogTable) (oid : ℕ) (t : LogTable) : Type 0 where
  pub at : table_at tables oid ≡ Some t
  pub named : log_table_named tables t.raw.name ≡ Some t
  pub plain : is_watermark t.raw.name ≡ false

-- Each of these tables has that, the first at this OID.
abbrev pub AreHad : List LogTable → ℕ → List LogTable → Type 0
AreHad tables oid ts = (i : ℕ) (t : LogTable) → slice_get ts i ≡ Some t → IsHad tables (oid + i) t

none_on : (n : ℕ) → n + zero ≡ n
none_on n = omega arith

one_on : (n i : ℕ) → n + suc i ≡ (n + 1) + i
one_on n i = omega arith

module _ (tables : List LogTable) where
  first_had : (oid : ℕ) (t : LogTable) (ts : List LogTable) → AreHad tables oid (t ∷ ts) → IsHad tables oid t
  first_had oid t ts had = subst (λ (n : ℕ). IsHad tables n t) (none_on oid) (had zero t refl)

  later_had : (oid : ℕ) (t : LogTable) (ts : List LogTable) → AreHad tables oid (t ∷ ts) → AreHad tables (oid + 1) ts
  later_had oid t ts had = λ i u there. subst (λ (n : ℕ). IsHad tables n u) (one_on oid i) (had (suc i) u there)

  -- ---- one table

  block_changes : (oid : ℕ) (t : LogTable) (list : List Texts) (rest : List Message) (rows : TextRows) → table_at tables oid ≡ Some t
      → changes_from tables rows (map (insert_message oid) list ++ rest)
      ≡ map (insert_of_row t) list ++ changes_from tables (text_rows_with tables (map (insert_of_row t) list) rows) rest
  block_changes oid t [] rest rows at = refl
  block_changes oid t (row ∷ list) rest rows at =
      ap (λ (l : List RawChange). l ++ changes_from tables (text_rows_with tables l rows) (map (insert_message oid) list ++ rest))
      (insert_change tables rows oid t row at)
      ∙ ap (λ (l : List RawChange). insert_of_row t row ∷ l) (block_changes oid t list rest (text_rows_after tables (insert_of_row t row) rows) at)

  -- rows of another table
  other_block : (t : LogTable) (list : List Texts) (rows : TextRows) (name : TableName) (key : Key) → same_name t.raw.name name ≡ false
      → text_rows_with tables (map (insert_of_row t) list) rows name key ≡ rows name key
  other_block t [] rows name key other = refl
  other_block t (row ∷ list) rows name key other =
      other_block t list (text_rows_after tables (insert_of_row t row) rows) name key other
      ∙ ap (λ (b : Bool). if b then text_row_in (log_table_named tables name) (insert_of_row t row) (rows name) key else rows name key) other

  -- rows of the table itself
  after_insert : (t : LogTable) (row : Texts) (rows : TextRows) (key : Key) → log_table_named tables t.raw.name ≡ Some t
      → text_rows_after tables (insert_of_row t row) rows t.raw.name key ≡ put t.raw row (rows t.raw.name) key
  after_insert t row rows key named =
      ap (λ (b : Bool). if b then text_row_in (log_table_named tables t.raw.name) (insert_of_row t row) (rows t.raw.name) key else rows t.raw.name key)
      (name_itself t.raw.name)
      ∙ ap (λ (o : Option LogTable). text_row_in o (insert_of_row t row) (rows t.raw.name) key) named

  all_after : (t : LogTable) (row : Texts) (rows : TextRows) → log_table_named tables t.raw.name ≡ Some t
      → text_rows_after tables (insert_of_row t row) rows t.raw.name ≡ put t.raw row (rows t.raw.name)
  all_after t row rows named = λ i key. after_insert t row rows key named i

  own_block : (t : LogTable) (list : List Texts) (rows : TextRows) (key : Key) → log_table_named tables t.raw.name ≡ Some t
      → text_rows_with tables (map (insert_of_row t) list) rows t.raw.name key ≡ put_all t.raw list (rows t.raw.name) key
  own_block t [] rows key named = refl
  own_block t (row ∷ list) rows key named =
      own_block t list (text_rows_after tables (insert_of_row t row) rows) key named
      ∙ ap (λ (f : Key → Option Texts). put_all t.raw list f key) (all_after t row rows named)

  block_fit : (t : LogTable) (list : List Texts) (rows : TextRows) → is_watermark t.raw.name ≡ false → log_table_named tables t.raw.name ≡ Some t
      → AreOwnRows t.raw list → AreNewRows t.raw list (rows t.raw.name)
      → AreFitChanges tables rows (map (insert_of_row t) list)
  block_fit t [] rows plain named own new = tt
  block_fit t (row ∷ list) rows plain named own new =
      let fits : IsSomeAnd (log_table_named tables t.raw.name) (λ u. IsFitText u.raw (rows t.raw.name) (insert_of_row t row)) =
      subst (λ (o : Option LogTable). IsSomeAnd o (λ u. IsFitText u.raw (rows t.raw.name) (insert_of_row t row))) (sym named)
      (record { wide = own.0; key = own.1; absent = new.0 }) in (
        (plain, fits),
        block_fit t list (text_rows_after tables (insert_of_row t row) rows) plain named own.3
            (subst (AreNewRows t.raw list) (sym (all_after t row rows named)) new.1),
      )

  fit_both : (cs ds : List RawChange) (rows : TextRows) → AreFitChanges tables rows cs → AreFitChanges tables (text_rows_with tables cs rows) ds
      → AreFitChanges tables rows (cs ++ ds)
  fit_both [] ds rows first rest = rest
  fit_both (c ∷ cs) ds rows first rest = (first.0, fit_both cs ds (text_rows_after tables c rows) first.1 rest)

  -- ---- all tables

  pub opening_changes : (oid : ℕ) (ts : List LogTable) (lists : List (List Texts)) (rows : TextRows) → AreHad tables oid ts → HaveOwnRows ts lists
      → changes_from tables rows (opening_from oid lists) ≡ opened_by ts lists
  opening_changes oid [] [] rows had own = refl
  opening_changes oid [] (list ∷ lists) rows had own = absurd own
  opening_changes oid (t ∷ ts) [] rows had own = absurd own
  opening_changes oid (t ∷ ts) (list ∷ lists) rows had own =
      let first = first_had oid t ts had in
      block_changes oid t list (opening_from (oid + 1) lists) rows first.at
      ∙ ap (λ (l : List RawChange). map (insert_of_row t) list ++ l)
      (opening_changes (oid + 1) ts lists (text_rows_with tables (map (insert_of_row t) list) rows) (later_had oid t ts had) own.1)

  pub opened_rows : (oid : ℕ) (ts : List LogTable) (lists : List (List Texts)) (rows : TextRows) (name : TableName) (key : Key) → AreHad tables oid ts
      → are_distinct same_name (names_in ts) ≡ true → HaveOwnRows ts lists
      → text_rows_with tables (opened_by ts lists) rows name key ≡ first_of (shown ts lists name key) (rows name key)
  opened_rows oid [] lists rows name key had distinct own = refl
  opened_rows oid (t ∷ ts) [] rows name key had distinct own = absurd own
  opened_rows oid (t ∷ ts) (list ∷ lists) rows name key had distinct own =
      ap (λ (r : TextRows). r name key) (subsequent-append tables (map (insert_of_row t) list) (opened_by ts lists) rows)
      ∙ (opened_rows (oid + 1) ts lists (text_rows_with tables (map (insert_of_row t) list) rows) name key (later_had oid t ts had)
      (and_right (not (list_any (same_name t.raw.name) (names_in ts))) (are_distinct same_name (names_in ts)) distinct) own.1
      ∙ by (same_name t.raw.name name) refl)
    where
      alone : list_any (same_name t.raw.name) (names_in ts) ≡ false
      alone = not_true (list_any (same_name t.raw.name) (names_in ts))
          (and_left (not (list_any (same_name t.raw.name) (names_in ts))) (are_distinct same_name (names_in ts)) distinct)

      here : first_of (shown ts lists t.raw.name key) (text_rows_with tables (map (insert_of_row t) list) rows t.raw.name key)
          ≡ first_of (among t.raw list key) (rows t.raw.name key)
      here =
          let first = first_had oid t ts had in
          ap (λ (o : Option Texts). first_of o (text_rows_with tables (map (insert_of_row t) list) rows t.raw.name key))
          (none_shown ts lists t.raw.name key alone)
          ∙ (own_block t list rows key first.named ∙ put_all_is t.raw list (rows t.raw.name) key own.0)

      by : (b : Bool) → same_name t.raw.name name ≡ b
          → first_of (shown ts lists name key) (text_rows_with tables (map (insert_of_row t) list) rows name key)
          ≡ first_of (if b then among t.raw list key else shown ts lists name key) (rows name key)
      by true same =
          subst (λ (n : TableName). first_of (shown ts lists n key) (text_rows_with tables (map (insert_of_row t) list) rows n key)
          ≡ first_of (among t.raw list key) (rows n key)) (name_same t.raw.name name same) here
      by false other = ap (first_of (shown ts lists name key)) (other_block t list rows name key other)

  pub opened_fit : (oid : ℕ) (ts : List LogTable) (lists : List (List Texts)) (rows : TextRows) → AreHad tables oid ts
      → are_distinct same_name (names_in ts) ≡ true → HaveOwnRows ts lists
      → ((name : TableName) (key : Key) → is_some (shown ts lists name key) ≡ true → rows name key ≡ None) → AreFitChanges tables rows (opened_by ts lists)
  opened_fit oid [] lists rows had distinct own none = tt
  opened_fit oid (t ∷ ts) [] rows had distinct own none = absurd own
  opened_fit oid (t ∷ ts) (list ∷ lists) rows had distinct own none =
      let first = first_had oid t ts had in
      fit_both (map (insert_of_row t) list) (opened_by ts lists) rows
      (block_fit t list rows first.plain first.named own.0 (new_rows t.raw list (rows t.raw.name) own.0 here))
      (opened_fit (oid + 1) ts lists (text_rows_with tables (map (insert_of_row t) list) rows) (later_had oid t ts had)
      (and_right (not (list_any (same_name t.raw.name) (names_in ts))) (are_distinct same_name (names_in ts)) distinct) own.1 later)
    where
      alone : list_any (same_name t.raw.name) (names_in ts) ≡ false
      alone = not_true (list_any (same_name t.raw.name) (names_in ts))
          (and_left (not (list_any (same_name t.raw.name) (names_in ts))) (are_distinct same_name (names_in ts)) distinct)

      here : (key : Key) → is_some (among t.raw list key) ≡ true → rows t.raw.name key ≡ None
      here key some = none t.raw.name key (ap (λ (b : Bool). is_some (if b then among t.raw list key else shown ts lists t.raw.name key))
          (name_itself t.raw.name) ∙ some)

      later : (name : TableName) (key : Key) → is_some (shown ts lists name key) ≡ true
          → text_rows_with tables (map (insert_of_row t) list) rows name key ≡ None
      later name key some = by (same_name t.raw.name name) refl
        where
          by : (b : Bool) → same_name t.raw.name name ≡ b → text_rows_with tables (map (insert_of_row t) list) rows name key ≡ None
          by true same =
              let absent : shown ts lists name key ≡ None = subst (λ (n : TableName). shown ts lists n key ≡ None) (name_same t.raw.name name same)
              (none_shown ts lists t.raw.name key alone) in
              let contra : true ≡ false = sym some ∙ ap is_some absent in
              cc
          by false other =
              other_block t list rows name key other
              ∙ none name key (ap (λ (b : Bool). is_some (if b then among t.raw list key else shown ts lists name key)) other ∙ some)
