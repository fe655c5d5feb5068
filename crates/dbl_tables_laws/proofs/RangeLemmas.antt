-- Texts that are given are UTF-8, and so is all that is made of them: rows, messages and the log. And a commit has few changes.
use Rattle.std.proofs.Common.{◌≡◌, ◌∙◌, ◌+◌, ◌*◌, ◌<◌, ◌≤◌, ◌^◌, ℕ, zero, suc, Bool, true, false, cond, Option, Some, None, List, [], ◌∷◌, ◌++◌, length, map, refl, subst, arith}
use Rattle.std.specs.Prelude.{not, if◌then◌else◌, IfSome, option_map, option_and_then, unwrap_or, slice_get, filter_map, fold, sum, bytes_eq}
use Rattle.std.specs.List.{AllByRecursion, cons_option}
use Rattle.std.specs.Str.{IsUtf8}
use Rattle.std.proofs.lemmas.List.{length-append}
use Rattle.dbl_tables_rows.specs.Pgmsg.declared.messages.Message.{Message}
use Rattle.dbl_tables_rows.specs.Pgmsg.declared.messages.Message.TheVariants as says
use Rattle.dbl_tables_rows.specs.Pgmsg.Grammar.{spelling}
use Rattle.dbl_pgmsg.proofs.MessageSizes.{truncate_size}
use Rattle.dbl_tables_rows.specs.ModelTable.declared.named_cell.NamedCell.{NamedCell}
use Rattle.dbl_tables_rows.specs.ModelTable.declared.row.Key.{Key}
use Rattle.dbl_tables_rows.specs.ModelTable.declared.table.RawColumn.{RawColumn}
use Rattle.dbl_tables_rows.specs.ModelTable.declared.table.RawTable.{RawTable}
use Rattle.dbl_tables_rows.specs.ModelTable.declared.table.TableName.{TableName}
use Rattle.dbl_tables_rows.specs.ModelTable.Keys.{same_key}
use Rattle.dbl_tables_rows.specs.ModelTable.Made.{raw_names, place_of}
use Rattle.dbl_tables_rows.specs.ModelTable.Tables.{same_name, is_watermark}
use Rattle.dbl_model_table.proofs.InfoLemmas.{good_name, not_true}
use Rattle.dbl_model_table.proofs.Lists.{and_right}
use Rattle.dbl_tables_rows.specs.ModelHistory.History.{RawCell, RawChange, name_of}
use Rattle.dbl_tables_rows.specs.ModelHistory.History.RawCell.{Given, Unchanged}
use Rattle.dbl_tables_rows.specs.ModelHistory.History.RawChange.{Insert, Update, Delete, Clear}
use Rattle.dbl_tables_rows.specs.ModelHistory.Ranges.{most_raw_events, IsNameInRange, IsEntryInRange, AreTextsInRange, IsRawCellInRange, IsRawChangeInRange}
use Rattle.dbl_tables_rows.specs.ModelCommit.Stated.{list_of}
use Rattle.dbl_tables_rows.specs.SourceLog.declared.logged.LogTable.{LogTable}
use Rattle.dbl_tables_rows.specs.SourceLog.RawChanges.{insert_of, update_of, delete_of, raw_changes, changes_from}
use Rattle.dbl_tables_rows.specs.SourceLog.Relations.{table_at, catalogue}
use Rattle.dbl_tables_rows.specs.SourceLog.TextRows.{TextRows, updated_texts, text_row_after, text_row_in, log_table_named, text_rows_after, text_rows_with}
use Rattle.dbl_tables_rows.specs.SourceLog.Texts.{Texts, text_named, raw_key, key_from, key_in, given_text, all_texts, overlaid}
use Rattle.dbl_tables_rows.specs.declared.demo_table.DemoTable.{DemoTable}
use Rattle.dbl_tables_rows.specs.Cells.{cell_named, text_given, row_given, text_or, row_set}
use Rattle.dbl_tables_laws.specs.Laws.{AreCellsInRange}
use Rattle.dbl_tables_rows.specs.Sending.{raw_of, log_tables, entry_size}
use Rattle.dbl_tables_rows.specs.Steps.{FoundTable, found_from}
use Rattle.dbl_tables_laws.proofs.KeyedLemmas.{all_given_texts}
use Rattle.dbl_tables_laws.proofs.MessageLemmas.{some_one}
use Rattle.dbl_tables_rows.proofs.SizeLemmas.{size_in}

-- ---- cells that are given

named_ranged : (cells : List NamedCell) (name : List ℕ) → AreCellsInRange cells → IfSome (cell_named cells name) (λ c. IfSome c.text IsUtf8)
named_ranged [] name range = tt
named_ranged (c ∷ cells) name range = by (bytes_eq c.column name) (named_ranged cells name range.1)
  where
    by : (b : Bool) → IfSome (cell_named cells name) (λ x. IfSome x.text IsUtf8) → IfSome (cond b (Some c) (cell_named cells name)) (λ x. IfSome x.text IsUtf8)
    by true later = range.0
    by false later = later

given_ranged : (cells : List NamedCell) (name : List ℕ) → AreCellsInRange cells → IfSome (text_given cells name) IsUtf8
given_ranged cells name range = by (cell_named cells name) (named_ranged cells name range)
  where
    by : (o : Option NamedCell) → IfSome o (λ c. IfSome c.text IsUtf8) → IfSome (option_and_then (λ (c : NamedCell). c.text) o) IsUtf8
    by None fine = tt
    by (Some c) fine = fine

pub row_given_ranged : (raw : RawTable) (cells : List NamedCell) → AreCellsInRange cells → AreTextsInRange (row_given raw cells)
row_given_ranged raw cells range = each raw.columns
  where
    each : (columns : List RawColumn) → AreTextsInRange (map (λ (c : RawColumn). text_given cells c.name) columns)
    each [] = tt
    each (c ∷ columns) = (given_ranged cells c.name range, each columns)

pub row_set_ranged : (columns : List RawColumn) (set : List NamedCell) (row : Texts) → AreCellsInRange set → AreTextsInRange row → AreTextsInRange (row_set columns set row)
row_set_ranged [] set row given range = tt
row_set_ranged (c ∷ columns) set [] given range = tt
row_set_ranged (c ∷ columns) set (x ∷ row) given range = (by (cell_named set c.name) (named_ranged set c.name given), row_set_ranged columns set row given range.1)
  where
    by : (o : Option NamedCell) → IfSome o (λ y. IfSome y.text IsUtf8) → IfSome (text_or o x) IsUtf8
    by None fine = range.0
    by (Some y) fine = fine

-- ---- cells of a row

cell_ranged : (row : Texts) (p : ℕ) → AreTextsInRange row → IfSome (unwrap_or (slice_get row p) None) IsUtf8
cell_ranged [] p range = tt
cell_ranged (x ∷ row) zero range = range.0
cell_ranged (x ∷ row) (suc p) range = cell_ranged row p range.1

pub raw_key_ranged : (raw : RawTable) (row : Texts) → AreTextsInRange row → AreTextsInRange (raw_key raw row)
raw_key_ranged raw row range = each raw.key
  where
    one : (o : Option ℕ) → IfSome (unwrap_or (option_and_then (slice_get row) o) None) IsUtf8
    one None = tt
    one (Some p) = cell_ranged row p range

    each : (names : List (List ℕ)) → AreTextsInRange (map (text_named raw row) names)
    each [] = tt
    each (name ∷ names) = (one (place_of (raw_names raw.columns) name), each names)

-- ---- rows after changes

abbrev pub AreRowsInRange : TextRows → Type 0
AreRowsInRange rows = (name : TableName) (key : Key) (row : Texts) → rows name key ≡ Some row → AreTextsInRange row

given_texts_ranged : (cells : List RawCell) → AllByRecursion IsRawCellInRange cells → AreTextsInRange (map given_text cells)
given_texts_ranged [] range = tt
given_texts_ranged (Given text ∷ cells) range = (range.0, given_texts_ranged cells range.1)
given_texts_ranged (Unchanged ∷ cells) range = (tt, given_texts_ranged cells range.1)

overlaid_ranged : (cells : List RawCell) (row : Texts) → AllByRecursion IsRawCellInRange cells → AreTextsInRange row → AreTextsInRange (overlaid cells row)
overlaid_ranged [] row cells_range range = range
overlaid_ranged (c ∷ cells) [] cells_range range = tt
overlaid_ranged (Given text ∷ cells) (x ∷ row) cells_range range = (cells_range.0, overlaid_ranged cells row cells_range.1 range.1)
overlaid_ranged (Unchanged ∷ cells) (x ∷ row) cells_range range = (range.0, overlaid_ranged cells row cells_range.1 range.1)

-- of a table
row_after_ranged : (raw : RawTable) (c : RawChange) (rows : Key → Option Texts) (key : Key) (row : Texts) → IsRawChangeInRange c → ((r : Texts) → rows key ≡ Some r → AreTextsInRange r) → text_row_after raw c rows key ≡ Some row → AreTextsInRange row
row_after_ranged raw (Insert name new) rows key row range was is = by (same_key (key_in raw new.cells) key) is
  where
    by : (b : Bool) → (if b then Some new.cells else rows key) ≡ Some row → AreTextsInRange row
    by true told = let e : new.cells ≡ row = cc in subst AreTextsInRange e range.1
    by false told = was row told
row_after_ranged raw (Update name from old cells) rows key row range was is = by (same_key (key_in raw (map given_text cells)) key) (same_key (key_from raw from) key) is
  where
    led : (o : Option Texts) → all_texts cells ≡ o → (r : Option Texts) → rows key ≡ r → updated_texts o cells r ≡ Some row → AreTextsInRange row
    led (Some whole) all r there told = let e : whole ≡ row = cc in subst AreTextsInRange (all_given_texts cells whole all ∙ e) (given_texts_ranged cells range.cells)
    led None all None there told = cc
    led None all (Some r) there told = let e : overlaid cells r ≡ row = cc in subst AreTextsInRange e (overlaid_ranged cells r range.cells (was r there))

    by : (b g : Bool) → (if b then updated_texts (all_texts cells) cells (rows key) else (if g then None else rows key)) ≡ Some row → AreTextsInRange row
    by true g told = led (all_texts cells) refl (rows key) refl told
    by false true told = cc
    by false false told = was row told
row_after_ranged raw (Delete name from old) rows key row range was is = by (same_key (key_from raw from) key) is
  where
    by : (b : Bool) → (if b then None else rows key) ≡ Some row → AreTextsInRange row
    by true told = cc
    by false told = was row told
row_after_ranged raw (Clear name) rows key row range was is = cc

module _ (tables : List LogTable) where
  rows_after_ranged : (c : RawChange) (rows : TextRows) → IsRawChangeInRange c → AreRowsInRange rows → AreRowsInRange (text_rows_after tables c rows)
  rows_after_ranged c rows range was name key row is = by (same_name (name_of c) name) is
    where
      here : (o : Option LogTable) → text_row_in o c (rows name) key ≡ Some row → AreTextsInRange row
      here None told = was name key row told
      here (Some t) told = row_after_ranged t.raw c (rows name) key row range (λ r there. was name key r there) told

      by : (b : Bool) → (if b then text_row_in (log_table_named tables name) c (rows name) key else rows name key) ≡ Some row → AreTextsInRange row
      by true told = here (log_table_named tables name) told
      by false told = was name key row told

  pub rows_since_ranged : (cs : List RawChange) (rows : TextRows) → AllByRecursion IsRawChangeInRange cs → AreRowsInRange rows → AreRowsInRange (text_rows_with tables cs rows)
  rows_since_ranged [] rows range was = was
  rows_since_ranged (c ∷ cs) rows range was = rows_since_ranged cs (text_rows_after tables c rows) range.1 (rows_after_ranged c rows range.0 was)

-- ---- names of tables

-- no table of the store is that of the watermarks, so the catalogue shows each
pub name_ranged : (oid : ℕ) (tables : List DemoTable) (name : TableName) (at : FoundTable) → AllByRecursion IsEntryInRange (catalogue (log_tables tables)) → found_from oid tables name ≡ Some at → IsNameInRange at.table.info.name
name_ranged oid [] name at range is = cc
name_ranged oid (t ∷ tables) name at range is = by (same_name t.info.name name) is (shown range) (name_ranged (oid + 1) tables name at)
  where
    plain : is_watermark t.info.name ≡ false
    plain = not_true (is_watermark t.info.name) (and_right _ (not (is_watermark t.info.name)) (good_name t.info))

    shown : AllByRecursion IsEntryInRange (catalogue (log_tables (t ∷ tables))) → IsEntryInRange (raw_of t) × AllByRecursion IsEntryInRange (catalogue (log_tables tables))
    shown all = subst (λ (b : Bool). AllByRecursion IsEntryInRange (cond (not b) (raw_of t ∷ catalogue (log_tables tables)) (catalogue (log_tables tables)))) plain all

    by : (b : Bool) → (if b then Some (record { oid = oid; table = t }) else found_from (oid + 1) tables name) ≡ Some at → IsEntryInRange (raw_of t) × AllByRecursion IsEntryInRange (catalogue (log_tables tables))
        → (AllByRecursion IsEntryInRange (catalogue (log_tables tables)) → found_from (oid + 1) tables name ≡ Some at → IsNameInRange at.table.info.name) → IsNameInRange at.table.info.name
    by true told fine later = let first : IsEntryInRange (raw_of t) = fine.0 in subst (λ (f : FoundTable). IsNameInRange f.table.info.name) (some_one (record { oid = oid; table = t }) at told) first.name
    by false told fine later = later fine.1 told

-- ---- how many changes a commit has

one_at_most : {A B : Type 0} (f : A → B) (o : Option A) → length (list_of (option_map f o)) ≤ 1
one_at_most f None = omega arith
one_at_most f (Some x) = omega arith

no_more : {A B : Type 0} (f : A → Option B) (xs : List A) → length (filter_map f xs) ≤ length xs
no_more f [] = omega arith
no_more {A} {B} f (x ∷ xs) = by (f x) (no_more f xs)
  where
    by : (o : Option B) → length (filter_map f xs) ≤ length xs → length (cons_option o (filter_map f xs)) ≤ length (x ∷ xs)
    by None few = omega (arith, few)
    by (Some y) few = omega (arith, few)

many : (tables : List LogTable) (rows : TextRows) (m : Message) → length (raw_changes tables rows m) ≤ 4 + length (spelling m)
many tables rows (says.Insert oid new) = let few = one_at_most (λ (t : LogTable). insert_of t new) (table_at tables oid) in omega (arith, few)
many tables rows (says.Update oid before new) = let few = one_at_most (λ (t : LogTable). update_of t rows before new) (table_at tables oid) in omega (arith, few)
many tables rows (says.Delete oid before) = let few = one_at_most (λ (t : LogTable). delete_of t before) (table_at tables oid) in omega (arith, few)
many tables rows (says.Truncate options oids) =
    let few = no_more (λ (oid : ℕ). option_map (λ (t : LogTable). Clear t.raw.name) (table_at tables oid)) oids in
    omega (arith, few, truncate_size options oids)
many tables rows (says.Begin l t x) = omega arith
many tables rows (says.Commit f l e t) = omega arith
many tables rows (says.Origin l n) = omega arith
many tables rows (says.TypeName o n m) = omega arith
many tables rows (says.Relation o n m i c) = omega arith
many tables rows (says.Logical f l p c) = omega arith

fold_from : (a : ℕ) (xs : List ℕ) → fold (λ (b x : ℕ). b + x) a xs ≡ a + fold (λ (b x : ℕ). b + x) 0 xs
fold_from a [] = omega arith
fold_from a (x ∷ xs) =
    let here : fold (λ (b y : ℕ). b + y) (a + x) xs ≡ (a + x) + fold (λ (b y : ℕ). b + y) 0 xs = fold_from (a + x) xs in
    let there : fold (λ (b y : ℕ). b + y) (0 + x) xs ≡ (0 + x) + fold (λ (b y : ℕ). b + y) 0 xs = fold_from (0 + x) xs in
    omega (arith, here, there)

all_many : (tables : List LogTable) (rows : TextRows) (ms : List Message) → length (changes_from tables rows ms) ≤ sum (map size_in ms)
all_many tables rows [] = omega arith
all_many tables rows (m ∷ ms) =
    let cs : List RawChange = raw_changes tables rows m in
    let next : TextRows = text_rows_with tables cs rows in
    let both : length (cs ++ changes_from tables next ms) ≡ length cs + length (changes_from tables next ms) = length-append cs (changes_from tables next ms) in
    let total : sum (map size_in (m ∷ ms)) ≡ (0 + size_in m) + sum (map size_in ms) = fold_from (0 + size_in m) (map size_in ms) in
    omega (arith, both, total, many tables rows m, all_many tables next ms)

events_of_changes : (changes : List RawChange) → most_raw_events changes ≤ 3 * length changes
events_of_changes [] = omega arith
events_of_changes (Insert name row ∷ changes) = omega (arith, events_of_changes changes)
events_of_changes (Update name key old cells ∷ changes) = omega (arith, events_of_changes changes)
events_of_changes (Delete name key old ∷ changes) = omega (arith, events_of_changes changes)
events_of_changes (Clear name ∷ changes) = omega (arith, events_of_changes changes)

pub few_changes : (tables : List LogTable) (rows : TextRows) (ms : List Message) → entry_size ms ≤ 268435456 → most_raw_events (changes_from tables rows ms) < 2 ^ 62
few_changes tables rows ms short = omega (arith, events_of_changes (changes_from tables rows ms), all_many tables rows ms, short)
