-- Every table that is read has short columns, every row and step texts, and every truncate a table.
use Rattle.std.proofs.Common.{◌≡◌, ℕ, ◌+◌, ◌≤◌, ◌==◌, ◌&&◌, nat_lt, nat_le, if◌then◌else◌, Bool, true, false, List, [], ◌∷◌, length, Option, Some, None, option_map, bytes_eq, codes, refl, arith}
use Rattle.std.specs.Prelude.{IfSome, IsUtf8}
use Rattle.std.specs.List.{AllByRecursion, filter_map, cons_option, list_all}
use Rattle.std.specs.Str.{is_utf8}
use Rattle.std.proofs.lemmas.Bool.{leb-true}
use Rattle.std.proofs.lemmas.Str.{IsUtf8-from_is_utf8}
use Rattle.dbl_base.specs.Lines.{is_passed_over}
use Rattle.dbl_script.specs.ModelTable.declared.named_cell.NamedCell.{NamedCell}
use Rattle.dbl_script.specs.ModelTable.declared.table.TableName.{TableName}
use Rattle.dbl_script.specs.declared.columns.ColumnWord.{ColumnWord}
use Rattle.dbl_script.specs.declared.script.Step.{Step}
use Rattle.dbl_script.specs.declared.script.Step.TheVariants.{Begin, Commit, Rollback, Insert, Update, Delete, Truncate, Tick}
use Rattle.dbl_script.specs.declared.line.Line.{Line}
use Rattle.dbl_script.specs.declared.line.Line.TheVariants.{Passed, Table, Row, Act}
use Rattle.dbl_script.specs.Words.{cut_at, parts_at, words_of}
use Rattle.dbl_script.specs.Reads.{◌>>=◌, all_of, some_of}
use Rattle.dbl_script.specs.Texts.{utf8_text, table_name_of, session_of, is_column_byte, column_name_of, oid_of, unescaped_bytes, text_of}
use Rattle.dbl_script.specs.Columns.{column_with, typed_column, named_column, column_of, columns_in, key_in, columns_of}
use Rattle.dbl_script.specs.Grammar.{identity_of, toast_of, value_cell_of, null_cell_of, cell_in, cell_of, cells_of, table_in, row_in, alone, insert_in, before_set, words_after_set, update_in, delete_in, truncate_in, verb_in, step_in, worded, line_at}
use Rattle.dbl_script.specs.Scripts.{said, table_said, row_said, step_said}
use Rattle.dbl_demo_wal.specs.Contents.{IsShortColumn, HasShortColumns, IsTextCell, AreTextCells, IsTextRow, HasContent, ScriptsAreFilled}

-- ---- cells

text_fits : (bytes : List ℕ) → IfSome (utf8_text bytes) IsUtf8
unfolding utf8_text
text_fits bytes = by_test (is_utf8 bytes) refl
  where
    by_test : (b : Bool) → is_utf8 bytes ≡ b → IfSome (if b then Some bytes else None) IsUtf8
    by_test true h = IsUtf8-from_is_utf8 bytes h
    by_test false h = tt

spelled_fits : (bytes : Option (List ℕ)) → IfSome (do
  b ← bytes
  utf8_text b) IsUtf8
spelled_fits None = tt
spelled_fits (Some b) = text_fits b

word_fits : (word : List ℕ) → IfSome (text_of word) IsUtf8
unfolding text_of
word_fits word = spelled_fits (unescaped_bytes (parts_at 37 word))

value_parts : (column text : Option (List ℕ)) → IfSome text IsUtf8 → IfSome (do
  c ← column
  t ← text
  Some (record { column = c; text = Some t })) IsTextCell
value_parts None text h = tt
value_parts (Some c) None h = tt
value_parts (Some c) (Some t) h = h

value_fits : (parts : List ℕ × List ℕ) → IfSome (value_cell_of parts) IsTextCell
unfolding value_cell_of
value_fits parts = value_parts (column_name_of parts.0) (text_of parts.1) (word_fits parts.1)

null_parts : (column : Option (List ℕ)) → IfSome (do
  c ← column
  Some (record { column = c; text = None })) IsTextCell
null_parts None = tt
null_parts (Some c) = tt

if_fits : {A : Type 0} (P : A → Type 0) (b : Bool) (o : Option A) → IfSome o P → IfSome (if b then o else None) P
if_fits P true o h = h
if_fits P false o h = tt

unless_fits : {A : Type 0} (P : A → Type 0) (b : Bool) (o : Option A) → IfSome o P → IfSome (if b then None else o) P
unless_fits P true o h = tt
unless_fits P false o h = h

null_fits : (parts : Option (List ℕ × List ℕ)) → IfSome (null_cell_of parts) IsTextCell
unfolding null_cell_of
null_fits None = tt
null_fits (Some parts) = if_fits IsTextCell (length parts.1 == 0) _ (null_parts (column_name_of parts.0))

cell_parts : (word : List ℕ) (parts : Option (List ℕ × List ℕ)) → IfSome (cell_in word parts) IsTextCell
unfolding cell_in
cell_parts word None = null_fits (cut_at 126 word)
cell_parts word (Some parts) = value_fits parts

cell_fits : (word : List ℕ) → IfSome (cell_of word) IsTextCell
unfolding cell_of
cell_fits word = cell_parts word (cut_at 61 word)

-- ---- some items, at least one

module _ {A B : Type 0} (read : A → Option B) (P : B → Type 0) (fits : (x : A) → IfSome (read x) P) where
  all_parts : (first : Option B) (others : Option (List B)) → IfSome first P → IfSome others (AllByRecursion P) → IfSome (do
    f ← first
    os ← others
    Some (f ∷ os)) (AllByRecursion P)
  all_parts None others h k = tt
  all_parts (Some f) None h k = tt
  all_parts (Some f) (Some os) h k = (h, k)

  all_fits : (xs : List A) → IfSome (all_of read xs) (AllByRecursion P)
  unfolding all_of
  all_fits [] = tt
  all_fits (x ∷ xs) = all_parts (read x) (all_of read xs) (fits x) (all_fits xs)

  some_parts : (all : Option (List B)) → IfSome all (AllByRecursion P) → IfSome (do
    items ← all
    if length items == 0 then None else Some items) (λ items. AllByRecursion P items × (1 ≤ length items))
  some_parts None h = tt
  some_parts (Some []) h = tt
  some_parts (Some (x ∷ items)) h = unless_fits (λ items. AllByRecursion P items × (1 ≤ length items)) (length (x ∷ items) == 0) (Some (x ∷ items)) (h, omega arith)

  some_fits : (xs : List A) → IfSome (some_of read xs) (λ items. AllByRecursion P items × (1 ≤ length items))
  unfolding some_of
  some_fits xs = some_parts (all_of read xs) (all_fits xs)

first_of : {B : Type 0} (P : List B → Type 0) (Q : List B → Type 0) (o : Option (List B)) → IfSome o (λ items. P items × Q items) → IfSome o P
first_of P Q None h = tt
first_of P Q (Some items) h = h.0

second_of : {B : Type 0} (P : List B → Type 0) (Q : List B → Type 0) (o : Option (List B)) → IfSome o (λ items. P items × Q items) → IfSome o Q
second_of P Q None h = tt
second_of P Q (Some items) h = h.1

abbrev IsSomeList : {B : Type 0} → List B → Type 0
IsSomeList items = 1 ≤ length items

cells_fit : (words : List (List ℕ)) → IfSome (cells_of words) AreTextCells
cells_fit words = first_of AreTextCells IsSomeList (cells_of words) (some_fits cell_of IsTextCell cell_fits words)

any_name : (word : List ℕ) → IfSome (table_name_of word) (λ (name : TableName). Unit {0})
any_name word = trivial (table_name_of word)
  where
    trivial : (o : Option TableName) → IfSome o (λ (name : TableName). Unit {0})
    trivial None = tt
    trivial (Some name) = tt

names_fit : (words : List (List ℕ)) → IfSome (some_of table_name_of words) IsSomeList
names_fit words = second_of (AllByRecursion (λ (name : TableName). Unit {0})) IsSomeList (some_of table_name_of words) (some_fits table_name_of (λ (name : TableName). Unit {0}) any_name words)

-- ---- columns

abbrev IsShortName : List ℕ → Type 0
IsShortName name = length name ≤ 63

where_three : (a b c : Bool) (name : List ℕ) → (b ≡ true → IsShortName name) → IfSome (if a && b && c then Some name else None) IsShortName
where_three true true true name h = h refl
where_three true true false name h = tt
where_three true false c name h = tt
where_three false b c name h = tt

column_name_short : (word : List ℕ) → IfSome (column_name_of word) IsShortName
unfolding column_name_of
column_name_short word = where_three (nat_lt 0 (length word)) (nat_le (length word) 63) (list_all is_column_byte word) word (λ short. leb-true (length word) 63 short)

abbrev IsShortWord : ColumnWord → Type 0
IsShortWord word = IsShortColumn word.column

pair_short : (name : Option (List ℕ)) (oid : Option ℕ) (is_key : Bool) → IfSome name IsShortName → IfSome (do
  n ← name
  o ← oid
  Some (record { column = record { name = n; oid = o }; is_key = is_key })) IsShortWord
pair_short None oid is_key h = tt
pair_short (Some n) None is_key h = tt
pair_short (Some n) (Some o) is_key h = h

column_with_short : (name type : List ℕ) (is_key : Bool) → IfSome (column_with name type is_key) IsShortWord
column_with_short name type is_key = pair_short (column_name_of name) (oid_of type) is_key (column_name_short name)

typed_short : (name type : List ℕ) (parts : Option (List ℕ × List ℕ)) → IfSome (typed_column name type parts) IsShortWord
unfolding typed_column
typed_short name type None = column_with_short name type false
typed_short name type (Some parts) = if_fits IsShortWord (bytes_eq parts.1 (codes "key")) (column_with name parts.0 true) (column_with_short name parts.0 true)

named_short : (parts : Option (List ℕ × List ℕ)) → IfSome (named_column parts) IsShortWord
unfolding named_column
named_short None = tt
named_short (Some parts) = typed_short parts.0 parts.1 (cut_at 58 parts.1)

column_short : (word : List ℕ) → IfSome (column_of word) IsShortWord
unfolding column_of
column_short word = named_short (cut_at 58 word)

few_short : (some : Option (List ColumnWord)) → IfSome some (AllByRecursion IsShortWord) → IfSome (do
  columns ← some
  if nat_le (length columns) 1600 then Some columns else None) (AllByRecursion IsShortWord)
few_short None h = tt
few_short (Some words) h = if_fits (AllByRecursion IsShortWord) (nat_le (length words) 1600) (Some words) h

columns_short : (words : List (List ℕ)) → IfSome (columns_of words) (AllByRecursion IsShortWord)
unfolding columns_of
columns_short words = few_short (some_of column_of words) (first_of (AllByRecursion IsShortWord) IsSomeList (some_of column_of words) (some_fits column_of IsShortWord column_short words))

columns_in_short : (words : List ColumnWord) → AllByRecursion IsShortWord words → AllByRecursion IsShortColumn (columns_in words)
columns_in_short [] h = tt
columns_in_short (word ∷ words) h = (h.0, columns_in_short words h.1)

parts_short : (line : ℕ) (named : Option TableName) (full : Option Bool) (bytes : Option ℕ) (words : Option (List ColumnWord)) → IfSome words (AllByRecursion IsShortWord) → IfSome (do
  n ← named
  f ← full
  b ← bytes
  w ← words
  Some (record { raw = record { name = n; columns = columns_in w; key = key_in w; version = 1 }; full = f; toast = b; line = line })) HasShortColumns
parts_short line None full bytes words h = tt
parts_short line (Some n) None bytes words h = tt
parts_short line (Some n) (Some f) None words h = tt
parts_short line (Some n) (Some f) (Some b) None h = tt
parts_short line (Some n) (Some f) (Some b) (Some w) h = columns_in_short w h

table_short : (line : ℕ) (words : List (List ℕ)) → IfSome (table_in line words) HasShortColumns
unfolding table_in
table_short line [] = tt
table_short line (name ∷ []) = tt
table_short line (name ∷ identity ∷ []) = tt
table_short line (name ∷ identity ∷ toast ∷ []) = tt
table_short line (name ∷ identity ∷ toast ∷ size ∷ columns) = parts_short line (table_name_of name) (identity_of identity) (toast_of toast size) (columns_of columns) (columns_short columns)

-- ---- rows and steps

row_parts : (line : ℕ) (table : Option TableName) (cells : Option (List NamedCell)) → IfSome cells AreTextCells → IfSome (do
  t ← table
  c ← cells
  Some (record { table = t; cells = c; line = line })) IsTextRow
row_parts line None cells h = tt
row_parts line (Some t) None h = tt
row_parts line (Some t) (Some c) h = h

row_fits : (line : ℕ) (words : List (List ℕ)) → IfSome (row_in line words) IsTextRow
unfolding row_in
row_fits line [] = tt
row_fits line (name ∷ words) = row_parts line (table_name_of name) (cells_of words) (cells_fit words)

module _ (session : List ℕ) where
  alone_fits : (step : Step) (words : List (List ℕ)) → HasContent step → IfSome (alone step words) HasContent
  alone_fits step [] h = h
  alone_fits step (word ∷ words) h = tt

  insert_parts : (table : Option TableName) (cells : Option (List NamedCell)) → IfSome cells AreTextCells → IfSome (do
    t ← table
    c ← cells
    Some (Insert session t c)) HasContent
  insert_parts None cells h = tt
  insert_parts (Some t) None h = tt
  insert_parts (Some t) (Some c) h = h

  insert_fits : (words : List (List ℕ)) → IfSome (insert_in session words) HasContent
  unfolding insert_in
  insert_fits [] = tt
  insert_fits (name ∷ words) = insert_parts (table_name_of name) (cells_of words) (cells_fit words)

  update_parts : (table : Option TableName) (key set : Option (List NamedCell)) → IfSome key AreTextCells → IfSome set AreTextCells → IfSome (do
    t ← table
    k ← key
    s ← set
    Some (Update session t k s)) HasContent
  update_parts None key set h k = tt
  update_parts (Some t) None set h k = tt
  update_parts (Some t) (Some x) None h k = tt
  update_parts (Some t) (Some x) (Some s) h k = (h, k)

  update_fits : (words : List (List ℕ)) → IfSome (update_in session words) HasContent
  unfolding update_in
  update_fits [] = tt
  update_fits (name ∷ words) = update_parts (table_name_of name) (cells_of (before_set words)) (cells_of (words_after_set words)) (cells_fit (before_set words)) (cells_fit (words_after_set words))

  delete_parts : (table : Option TableName) (key : Option (List NamedCell)) → IfSome key AreTextCells → IfSome (do
    t ← table
    k ← key
    Some (Delete session t k)) HasContent
  delete_parts None key h = tt
  delete_parts (Some t) None h = tt
  delete_parts (Some t) (Some k) h = h

  delete_fits : (words : List (List ℕ)) → IfSome (delete_in session words) HasContent
  unfolding delete_in
  delete_fits [] = tt
  delete_fits (name ∷ words) = delete_parts (table_name_of name) (cells_of words) (cells_fit words)

  truncate_parts : (tables : Option (List TableName)) → IfSome tables IsSomeList → IfSome (do
    ts ← tables
    Some (Truncate session ts)) HasContent
  truncate_parts None h = tt
  truncate_parts (Some ts) h = h

  truncate_fits : (words : List (List ℕ)) → IfSome (truncate_in session words) HasContent
  unfolding truncate_in
  truncate_fits words = truncate_parts (some_of table_name_of words) (names_fit words)

  seven : (a b c d e f g : Bool) (o p q r s t u : Option Step) → IfSome o HasContent → IfSome p HasContent → IfSome q HasContent → IfSome r HasContent → IfSome s HasContent → IfSome t HasContent → IfSome u HasContent → IfSome (if a then o else (if b then p else (if c then q else (if d then r else (if e then s else (if f then t else (if g then u else None))))))) HasContent
  seven true b c d e f g o p q r s t u ho hp hq hr hs ht hu = ho
  seven false true c d e f g o p q r s t u ho hp hq hr hs ht hu = hp
  seven false false true d e f g o p q r s t u ho hp hq hr hs ht hu = hq
  seven false false false true e f g o p q r s t u ho hp hq hr hs ht hu = hr
  seven false false false false true f g o p q r s t u ho hp hq hr hs ht hu = hs
  seven false false false false false true g o p q r s t u ho hp hq hr hs ht hu = ht
  seven false false false false false false true o p q r s t u ho hp hq hr hs ht hu = hu
  seven false false false false false false false o p q r s t u ho hp hq hr hs ht hu = tt

  verb_fits : (verb : List ℕ) (words : List (List ℕ)) → IfSome (verb_in session verb words) HasContent
  unfolding verb_in
  verb_fits verb words =
      seven (bytes_eq verb (codes "begin")) (bytes_eq verb (codes "commit")) (bytes_eq verb (codes "rollback")) (bytes_eq verb (codes "insert")) (bytes_eq verb (codes "update")) (bytes_eq verb (codes "delete")) (bytes_eq verb (codes "truncate"))
      (alone (Begin session) words) (alone (Commit session) words) (alone (Rollback session) words) (insert_in session words) (update_in session words) (delete_in session words) (truncate_in session words)
      (alone_fits (Begin session) words tt) (alone_fits (Commit session) words tt) (alone_fits (Rollback session) words tt) (insert_fits words) (update_fits words) (delete_fits words) (truncate_fits words)

session_parts : (session : Option (List ℕ)) (verb : List ℕ) (words : List (List ℕ)) → IfSome (do
  s ← session
  verb_in s verb words) HasContent
session_parts None verb words = tt
session_parts (Some s) verb words = verb_fits s verb words

step_fits : (first : List ℕ) (words : List (List ℕ)) → IfSome (step_in first words) HasContent
unfolding step_in
step_fits first [] = tt
step_fits first (verb ∷ words) = session_parts (session_of first) verb words

-- ---- lines

abbrev Fits : Line → Type 0
Fits Passed = Unit {0}
Fits (Table table) = HasShortColumns table
Fits (Row row) = IsTextRow row
Fits (Act step) = HasContent step

module _ {A : Type 0} (P : A → Type 0) (line : A → Line) (fits : (a : A) → P a → Fits (line a)) where
  mapped : (o : Option A) → IfSome o P → IfSome (option_map line o) Fits
  mapped None h = tt
  mapped (Some a) h = fits a h

tick_fits : (words : List (List ℕ)) → IfSome (alone Tick words) HasContent
tick_fits [] = tt
tick_fits (word ∷ words) = tt

four : (a b c : Bool) (o p q r : Option Line) → IfSome o Fits → IfSome p Fits → IfSome q Fits → IfSome r Fits → IfSome (if a then o else (if b then p else (if c then q else r))) Fits
four true b c o p q r ho hp hq hr = ho
four false true c o p q r ho hp hq hr = hp
four false false true o p q r ho hp hq hr = hq
four false false false o p q r ho hp hq hr = hr

worded_fits : (number : ℕ) (words : List (List ℕ)) → IfSome (worded number words) Fits
unfolding worded
worded_fits number [] = tt
worded_fits number (first ∷ words) =
    four (bytes_eq first (codes "table")) (bytes_eq first (codes "row")) (bytes_eq first (codes "tick"))
    (option_map Table (table_in number words)) (option_map Row (row_in number words)) (option_map Act (alone Tick words)) (option_map Act (step_in first words))
    (mapped HasShortColumns Table (λ table h. h) (table_in number words) (table_short number words))
    (mapped IsTextRow Row (λ row h. h) (row_in number words) (row_fits number words))
    (mapped HasContent Act (λ step h. h) (alone Tick words) (tick_fits words))
    (mapped HasContent Act (λ step h. h) (step_in first words) (step_fits first words))

choice_fits : (b : Bool) (o p : Option Line) → IfSome o Fits → IfSome p Fits → IfSome (if b then o else p) Fits
choice_fits true o p h k = h
choice_fits false o p h k = k

line_fits : (number : ℕ) (line : List ℕ) → IfSome (line_at number line) Fits
unfolding line_at
line_fits number line = choice_fits (is_passed_over line) (Some Passed) (worded number (words_of line)) tt (worded_fits number (words_of line))

cons_fits : (o : Option Line) (lines : List Line) → IfSome o Fits → AllByRecursion Fits lines → AllByRecursion Fits (cons_option o lines)
cons_fits None lines h k = k
cons_fits (Some line) lines h k = (h, k)

said_fits : (number : ℕ) (lines : List (List ℕ)) → AllByRecursion Fits (said number lines)
said_fits number [] = tt
said_fits number (line ∷ lines) = cons_fits (line_at number line) (said (number + 1) lines) (line_fits number line) (said_fits (number + 1) lines)

tables_fit : (lines : List Line) → AllByRecursion Fits lines → AllByRecursion HasShortColumns (filter_map table_said lines)
tables_fit [] h = tt
tables_fit (Passed ∷ lines) h = tables_fit lines h.1
tables_fit (Table table ∷ lines) h = (h.0, tables_fit lines h.1)
tables_fit (Row row ∷ lines) h = tables_fit lines h.1
tables_fit (Act step ∷ lines) h = tables_fit lines h.1

rows_fit : (lines : List Line) → AllByRecursion Fits lines → AllByRecursion IsTextRow (filter_map row_said lines)
rows_fit [] h = tt
rows_fit (Passed ∷ lines) h = rows_fit lines h.1
rows_fit (Table table ∷ lines) h = rows_fit lines h.1
rows_fit (Row row ∷ lines) h = (h.0, rows_fit lines h.1)
rows_fit (Act step ∷ lines) h = rows_fit lines h.1

steps_fit : (lines : List Line) → AllByRecursion Fits lines → AllByRecursion HasContent (filter_map step_said lines)
steps_fit [] h = tt
steps_fit (Passed ∷ lines) h = steps_fit lines h.1
steps_fit (Table table ∷ lines) h = steps_fit lines h.1
steps_fit (Row row ∷ lines) h = steps_fit lines h.1
steps_fit (Act step ∷ lines) h = (h.0, steps_fit lines h.1)

pub scripts_filled : ScriptsAreFilled
scripts_filled lines =
    let fits = said_fits 1 lines in
    record { tables = tables_fit (said 1 lines) fits; rows = rows_fit (said 1 lines) fits; steps = steps_fit (said 1 lines) fits }
