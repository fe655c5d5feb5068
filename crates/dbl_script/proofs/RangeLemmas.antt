-- Every line that is read keeps to its range.
use Rattle.std.proofs.Common.{◌≡◌, ℕ, ◌+◌, ◌<◌, ◌≤◌, ◌^◌, ◌==◌, ◌&&◌, nat_eq, nat_lt, nat_le, if◌then◌else◌, Bool, true, false, List, [], ◌∷◌, length, drop, Option, Some, None, option_map, bytes_eq, codes, refl, arith, lit<}
use Rattle.std.specs.Prelude.{IfSome, IsUtf8, not, is_none}
use Rattle.std.specs.Char.{is_ascii_digit}
use Rattle.std.specs.List.{AllByRecursion, list_all, filter_map, cons_option, starts_with}
use Rattle.std.specs.Str.{is_utf8}
use Rattle.std.specs.Str.Parse.{digits_value}
use Rattle.std.proofs.lemmas.Bool.{ltb-true, leb-true}
use Rattle.std.proofs.lemmas.Str.{IsUtf8-from_is_utf8}
use Rattle.dbl_base.specs.Lines.{is_passed_over}
use Rattle.dbl_model_table.specs.declared.table.TableName.{TableName}
use Rattle.dbl_script.specs.declared.columns.ColumnWord.{ColumnWord}
use Rattle.dbl_model_table.specs.declared.named_cell.NamedCell.{NamedCell}
use Rattle.dbl_script.specs.declared.script.Step.{Step}
use Rattle.dbl_script.specs.declared.script.Step.TheVariants.{Begin, Commit, Rollback, Insert, Update, Delete, Truncate, Tick}
use Rattle.dbl_script.specs.declared.line.Line.{Line}
use Rattle.dbl_script.specs.declared.line.Line.TheVariants.{Passed, Table, Row, Act}
use Rattle.dbl_script.specs.Words.{cut_at, words_of}
use Rattle.dbl_script.specs.Reads.{◌>>=◌, all_of, some_of}
use Rattle.dbl_script.specs.Texts.{utf8_text, name_of, names_of, table_name_of, is_column_byte, column_name_of, is_session_byte, session_of, number_of, measured_oid_of, listed_oid_of, oid_of}
use Rattle.dbl_script.specs.Columns.{column_with, typed_column, named_column, column_of, columns_in, key_in, columns_of}
use Rattle.dbl_script.specs.Grammar.{identity_of, toast_of, table_in, row_in, alone, insert_in, before_set, words_after_set, update_in, delete_in, truncate_in, verb_in, step_in, worded, line_at, cells_of}
use Rattle.dbl_script.specs.Scripts.{said, table_said, step_said}
use Rattle.dbl_script.specs.Ranges.{AreTexts, IsColumnInRange, IsTableInRange, HasSession, ScriptsAreInRange}
use Rattle.dbl_script.proofs.TextLemmas.{column_utf8, column_no_zero, digits_small}

-- ---- where a test holds

module _ {A : Type 0} (P : A → Type 0) where
  if_then : (b : Bool) (o : Option A) → IfSome o P → IfSome (if b then o else None) P
  if_then true o h = h
  if_then false o h = tt

  either : (b : Bool) (o p : Option A) → IfSome o P → IfSome p P → IfSome (if b then o else p) P
  either true o p h k = h
  either false o p h k = k

  where_three : (a b c : Bool) (x : A) → (a ≡ true → b ≡ true → c ≡ true → P x) → IfSome (if a && b && c then Some x else None) P
  where_three true true true x h = h refl refl refl
  where_three true true false x h = tt
  where_three true false c x h = tt
  where_three false b c x h = tt

-- ---- names

utf8_fits : (bytes : List ℕ) → IfSome (utf8_text bytes) IsUtf8
unfolding utf8_text
utf8_fits bytes = by_test (is_utf8 bytes) refl
  where
    by_test : (b : Bool) → is_utf8 bytes ≡ b → IfSome (if b then Some bytes else None) IsUtf8
    by_test true h = IsUtf8-from_is_utf8 bytes h
    by_test false h = tt

name_fits : (bytes : List ℕ) → IfSome (name_of bytes) IsUtf8
unfolding name_of
name_fits bytes = if_then IsUtf8 (not (length bytes == 0) && is_none (cut_at 46 bytes)) (utf8_text bytes) (utf8_fits bytes)

both_fit : (schema name : Option (List ℕ)) → IfSome schema IsUtf8 → IfSome name IsUtf8 → IfSome (do
  s ← schema
  n ← name
  Some (record { schema = s; name = n })) AreTexts
both_fit None name h k = tt
both_fit (Some s) None h k = tt
both_fit (Some s) (Some n) h k = record { schema = h; name = k }

names_fit : (parts : Option (List ℕ × List ℕ)) → IfSome (names_of parts) AreTexts
names_fit None = tt
names_fit (Some p) = both_fit (name_of p.0) (name_of p.1) (name_fits p.0) (name_fits p.1)

table_name_fits : (word : List ℕ) → IfSome (table_name_of word) AreTexts
unfolding table_name_of
table_name_fits word = names_fit (cut_at 46 word)

-- ---- columns

abbrev IsColumnName : List ℕ → Type 0
IsColumnName name = IsUtf8 name × AllByRecursion (λ b. b ≡ 0 → ⊥) name

column_name_fits : (word : List ℕ) → IfSome (column_name_of word) IsColumnName
unfolding column_name_of
column_name_fits word = where_three IsColumnName (nat_lt 0 (length word)) (nat_le (length word) 63) (list_all is_column_byte word) word (λ some short all. (column_utf8 word all, column_no_zero word all))

abbrev IsOid : ℕ → Type 0
IsOid n = n < 2 ^ 32

number_fits : (word : List ℕ) → IfSome (number_of word) IsOid
unfolding number_of
number_fits word = where_three IsOid (nat_lt 0 (length word)) (nat_le (length word) 9) (list_all is_ascii_digit word) (digits_value 10 word) (λ some short all. digits_small word (leb-true (length word) 9 short) all (ltb-true 0 (length word) some))

measured : (a b c d e f g h i j : Bool) → IfSome (if a then Some 16 else (if b then Some 21 else (if c then Some 23 else (if d then Some 20 else (if e then Some 700 else (if f then Some 701 else (if g then Some 1082 else (if h then Some 1083 else (if i then Some 1114 else (if j then Some 1184 else None)))))))))) IsOid
measured true b c d e f g h i j = lit< tt
measured false true c d e f g h i j = lit< tt
measured false false true d e f g h i j = lit< tt
measured false false false true e f g h i j = lit< tt
measured false false false false true f g h i j = lit< tt
measured false false false false false true g h i j = lit< tt
measured false false false false false false true h i j = lit< tt
measured false false false false false false false true i j = lit< tt
measured false false false false false false false false true j = lit< tt
measured false false false false false false false false false true = lit< tt
measured false false false false false false false false false false = tt

measured_oid_fits : (word : List ℕ) → IfSome (measured_oid_of word) IsOid
unfolding measured_oid_of
measured_oid_fits word = measured (bytes_eq word (codes "bool")) (bytes_eq word (codes "int2")) (bytes_eq word (codes "int4")) (bytes_eq word (codes "int8")) (bytes_eq word (codes "float4")) (bytes_eq word (codes "float8")) (bytes_eq word (codes "date")) (bytes_eq word (codes "time")) (bytes_eq word (codes "timestamp")) (bytes_eq word (codes "timestamptz"))

listed : (a b c d e f g h : Bool) (o : Option ℕ) → IfSome o IsOid → IfSome (if a then Some 25 else (if b then Some 1043 else (if c then Some 1042 else (if d then Some 114 else (if e then Some 3802 else (if f then Some 1700 else (if g then Some 2950 else (if h then Some 17 else o)))))))) IsOid
listed true b c d e f g h o small = lit< tt
listed false true c d e f g h o small = lit< tt
listed false false true d e f g h o small = lit< tt
listed false false false true e f g h o small = lit< tt
listed false false false false true f g h o small = lit< tt
listed false false false false false true g h o small = lit< tt
listed false false false false false false true h o small = lit< tt
listed false false false false false false false true o small = lit< tt
listed false false false false false false false false o small = small

listed_oid_fits : (word : List ℕ) → IfSome (listed_oid_of word) IsOid
unfolding listed_oid_of
listed_oid_fits word = listed (bytes_eq word (codes "text")) (bytes_eq word (codes "varchar")) (bytes_eq word (codes "bpchar")) (bytes_eq word (codes "json")) (bytes_eq word (codes "jsonb")) (bytes_eq word (codes "numeric")) (bytes_eq word (codes "uuid")) (bytes_eq word (codes "bytea")) (measured_oid_of word) (measured_oid_fits word)

oid_fits : (word : List ℕ) → IfSome (oid_of word) IsOid
unfolding oid_of
oid_fits word = either IsOid (starts_with nat_eq word (codes "oid")) (number_of (drop 3 word)) (listed_oid_of word) (number_fits (drop 3 word)) (listed_oid_fits word)

abbrev IsWordInRange : ColumnWord → Type 0
IsWordInRange word = IsColumnInRange word.column

pair_fits : (name : Option (List ℕ)) (oid : Option ℕ) (is_key : Bool) → IfSome name IsColumnName → IfSome oid IsOid → IfSome (do
  n ← name
  o ← oid
  Some (record { column = record { name = n; oid = o }; is_key = is_key })) IsWordInRange
pair_fits None oid is_key h k = tt
pair_fits (Some n) None is_key h k = tt
pair_fits (Some n) (Some o) is_key h k = record { text = h.0; no_zero = h.1; oid = k }

column_with_fits : (name type : List ℕ) (is_key : Bool) → IfSome (column_with name type is_key) IsWordInRange
column_with_fits name type is_key = pair_fits (column_name_of name) (oid_of type) is_key (column_name_fits name) (oid_fits type)

typed_fits : (name type : List ℕ) (parts : Option (List ℕ × List ℕ)) → IfSome (typed_column name type parts) IsWordInRange
unfolding typed_column
typed_fits name type None = column_with_fits name type false
typed_fits name type (Some parts) = if_then IsWordInRange (bytes_eq parts.1 (codes "key")) (column_with name parts.0 true) (column_with_fits name parts.0 true)

named_fits : (parts : Option (List ℕ × List ℕ)) → IfSome (named_column parts) IsWordInRange
unfolding named_column
named_fits None = tt
named_fits (Some parts) = typed_fits parts.0 parts.1 (cut_at 58 parts.1)

column_fits : (word : List ℕ) → IfSome (column_of word) IsWordInRange
unfolding column_of
column_fits word = named_fits (cut_at 58 word)

first_and_others : (first : Option ColumnWord) (others : Option (List ColumnWord)) → IfSome first IsWordInRange → IfSome others (AllByRecursion IsWordInRange) → IfSome (do
  x ← first
  xs ← others
  Some (x ∷ xs)) (AllByRecursion IsWordInRange)
first_and_others None others h k = tt
first_and_others (Some x) None h k = tt
first_and_others (Some x) (Some xs) h k = (h, k)

all_fit : (words : List (List ℕ)) → IfSome (all_of column_of words) (AllByRecursion IsWordInRange)
unfolding all_of
all_fit [] = tt
all_fit (word ∷ words) = first_and_others (column_of word) (all_of column_of words) (column_fits word) (all_fit words)

some_fit : (all : Option (List ColumnWord)) → IfSome all (AllByRecursion IsWordInRange) → IfSome (do
  xs ← all
  if length xs == 0 then None else Some xs) (AllByRecursion IsWordInRange)
some_fit None h = tt
some_fit (Some xs) h = either (AllByRecursion IsWordInRange) (length xs == 0) None (Some xs) tt h

pub record AreColumns (words : List ColumnWord) : Type 0 where
  pub few : length words ≤ 1600
  pub each : AllByRecursion IsWordInRange words

few_fit : (some : Option (List ColumnWord)) → IfSome some (AllByRecursion IsWordInRange) → IfSome (do
  columns ← some
  if nat_le (length columns) 1600 then Some columns else None) AreColumns
few_fit None h = tt
few_fit (Some words) h = by_test (nat_le (length words) 1600) refl
  where
    by_test : (b : Bool) → nat_le (length words) 1600 ≡ b → IfSome (if b then Some words else None) AreColumns
    by_test true small = record { few = leb-true (length words) 1600 small; each = h }
    by_test false small = tt

columns_fit : (words : List (List ℕ)) → IfSome (columns_of words) AreColumns
unfolding columns_of some_of
columns_fit words = few_fit (some_of column_of words) (some_fit (all_of column_of words) (all_fit words))

-- ---- tables

columns_in_fit : (words : List ColumnWord) → AllByRecursion IsWordInRange words → AllByRecursion IsColumnInRange (columns_in words)
columns_in_fit [] h = tt
columns_in_fit (word ∷ words) h = (h.0, columns_in_fit words h.1)

columns_in_count : (words : List ColumnWord) → length (columns_in words) ≡ length words
columns_in_count [] = refl
columns_in_count (word ∷ words) = omega (arith, columns_in_count words)

parts_fit : (line : ℕ) (named : Option TableName) (full : Option Bool) (bytes : Option ℕ) (words : Option (List ColumnWord)) → IfSome named AreTexts → IfSome words AreColumns → IfSome (do
  n ← named
  f ← full
  b ← bytes
  w ← words
  Some (record { raw = record { name = n; columns = columns_in w; key = key_in w; version = 1 }; full = f; toast = b; line = line })) IsTableInRange
parts_fit line None full bytes words h k = tt
parts_fit line (Some n) None bytes words h k = tt
parts_fit line (Some n) (Some f) None words h k = tt
parts_fit line (Some n) (Some f) (Some b) None h k = tt
parts_fit line (Some n) (Some f) (Some b) (Some w) h k = record { named = h; few = omega (arith, columns_in_count w, k.few); columns = columns_in_fit w k.each }

table_fits : (line : ℕ) (words : List (List ℕ)) → IfSome (table_in line words) IsTableInRange
unfolding table_in
table_fits line [] = tt
table_fits line (name ∷ []) = tt
table_fits line (name ∷ identity ∷ []) = tt
table_fits line (name ∷ identity ∷ toast ∷ []) = tt
table_fits line (name ∷ identity ∷ toast ∷ size ∷ columns) = parts_fit line (table_name_of name) (identity_of identity) (toast_of toast size) (columns_of columns) (table_name_fits name) (columns_fit columns)

-- ---- steps

abbrev IsNamed : List ℕ → Type 0
IsNamed session = 0 < length session

session_fits : (word : List ℕ) → IfSome (session_of word) IsNamed
unfolding session_of
session_fits word = where_three IsNamed (nat_lt 0 (length word)) (nat_le (length word) 16) (list_all is_session_byte word) word (λ some short all. ltb-true 0 (length word) some)

module _ (session : List ℕ) (some : 0 < length session) where
  alone_fits : (step : Step) (words : List (List ℕ)) → HasSession step → IfSome (alone step words) HasSession
  alone_fits step [] h = h
  alone_fits step (word ∷ words) h = tt

  insert_parts : (table : Option TableName) (cells : Option (List NamedCell)) → IfSome (do
    t ← table
    c ← cells
    Some (Insert session t c)) HasSession
  insert_parts None cells = tt
  insert_parts (Some t) None = tt
  insert_parts (Some t) (Some c) = some

  insert_fits : (words : List (List ℕ)) → IfSome (insert_in session words) HasSession
  unfolding insert_in
  insert_fits [] = tt
  insert_fits (name ∷ words) = insert_parts (table_name_of name) (cells_of words)

  update_parts : (table : Option TableName) (key set : Option (List NamedCell)) → IfSome (do
    t ← table
    k ← key
    s ← set
    Some (Update session t k s)) HasSession
  update_parts None key set = tt
  update_parts (Some t) None set = tt
  update_parts (Some t) (Some k) None = tt
  update_parts (Some t) (Some k) (Some s) = some

  update_fits : (words : List (List ℕ)) → IfSome (update_in session words) HasSession
  unfolding update_in
  update_fits [] = tt
  update_fits (name ∷ words) = update_parts (table_name_of name) (cells_of (before_set words)) (cells_of (words_after_set words))

  delete_parts : (table : Option TableName) (key : Option (List NamedCell)) → IfSome (do
    t ← table
    k ← key
    Some (Delete session t k)) HasSession
  delete_parts None key = tt
  delete_parts (Some t) None = tt
  delete_parts (Some t) (Some k) = some

  delete_fits : (words : List (List ℕ)) → IfSome (delete_in session words) HasSession
  unfolding delete_in
  delete_fits [] = tt
  delete_fits (name ∷ words) = delete_parts (table_name_of name) (cells_of words)

  truncate_parts : (tables : Option (List TableName)) → IfSome (do
    ts ← tables
    Some (Truncate session ts)) HasSession
  truncate_parts None = tt
  truncate_parts (Some ts) = some

  truncate_fits : (words : List (List ℕ)) → IfSome (truncate_in session words) HasSession
  unfolding truncate_in
  truncate_fits words = truncate_parts (some_of table_name_of words)

  seven : (a b c d e f g : Bool) (o p q r s t u : Option Step) → IfSome o HasSession → IfSome p HasSession → IfSome q HasSession → IfSome r HasSession → IfSome s HasSession → IfSome t HasSession → IfSome u HasSession → IfSome (if a then o else (if b then p else (if c then q else (if d then r else (if e then s else (if f then t else (if g then u else None))))))) HasSession
  seven true b c d e f g o p q r s t u ho hp hq hr hs ht hu = ho
  seven false true c d e f g o p q r s t u ho hp hq hr hs ht hu = hp
  seven false false true d e f g o p q r s t u ho hp hq hr hs ht hu = hq
  seven false false false true e f g o p q r s t u ho hp hq hr hs ht hu = hr
  seven false false false false true f g o p q r s t u ho hp hq hr hs ht hu = hs
  seven false false false false false true g o p q r s t u ho hp hq hr hs ht hu = ht
  seven false false false false false false true o p q r s t u ho hp hq hr hs ht hu = hu
  seven false false false false false false false o p q r s t u ho hp hq hr hs ht hu = tt

  verb_fits : (verb : List ℕ) (words : List (List ℕ)) → IfSome (verb_in session verb words) HasSession
  unfolding verb_in
  verb_fits verb words =
      seven (bytes_eq verb (codes "begin")) (bytes_eq verb (codes "commit")) (bytes_eq verb (codes "rollback")) (bytes_eq verb (codes "insert")) (bytes_eq verb (codes "update")) (bytes_eq verb (codes "delete")) (bytes_eq verb (codes "truncate"))
      (alone (Begin session) words) (alone (Commit session) words) (alone (Rollback session) words) (insert_in session words) (update_in session words) (delete_in session words) (truncate_in session words)
      (alone_fits (Begin session) words some) (alone_fits (Commit session) words some) (alone_fits (Rollback session) words some) (insert_fits words) (update_fits words) (delete_fits words) (truncate_fits words)

session_parts : (session : Option (List ℕ)) (verb : List ℕ) (words : List (List ℕ)) → IfSome session IsNamed → IfSome (do
  s ← session
  verb_in s verb words) HasSession
session_parts None verb words h = tt
session_parts (Some s) verb words h = verb_fits s h verb words

step_fits : (first : List ℕ) (words : List (List ℕ)) → IfSome (step_in first words) HasSession
unfolding step_in
step_fits first [] = tt
step_fits first (verb ∷ words) = session_parts (session_of first) verb words (session_fits first)

-- ---- lines

abbrev Fits : Line → Type 0
Fits Passed = Unit {0}
Fits (Table table) = IsTableInRange table
Fits (Row row) = Unit {0}
Fits (Act step) = HasSession step

module _ {A : Type 0} (P : A → Type 0) (line : A → Line) (fits : (a : A) → P a → Fits (line a)) where
  mapped : (o : Option A) → IfSome o P → IfSome (option_map line o) Fits
  mapped None h = tt
  mapped (Some a) h = fits a h

tick_fits : (words : List (List ℕ)) → IfSome (alone Tick words) HasSession
tick_fits [] = tt
tick_fits (word ∷ words) = tt

any_fits : {A : Type 0} (o : Option A) → IfSome o (λ (a : A). Unit {0})
any_fits None = tt
any_fits (Some a) = tt

four : (a b c : Bool) (o p q r : Option Line) → IfSome o Fits → IfSome p Fits → IfSome q Fits → IfSome r Fits → IfSome (if a then o else (if b then p else (if c then q else r))) Fits
four true b c o p q r ho hp hq hr = ho
four false true c o p q r ho hp hq hr = hp
four false false true o p q r ho hp hq hr = hq
four false false false o p q r ho hp hq hr = hr

worded_fits : (number : ℕ) (words : List (List ℕ)) → IfSome (worded number words) Fits
unfolding worded
worded_fits number [] = tt
worded_fits number (first ∷ words) =
    four (bytes_eq first (codes "table")) (bytes_eq first (codes "row")) (bytes_eq first (codes "tick"))
    (option_map Table (table_in number words)) (option_map Row (row_in number words)) (option_map Act (alone Tick words)) (option_map Act (step_in first words))
    (mapped IsTableInRange Table (λ t h. h) (table_in number words) (table_fits number words))
    (mapped (λ row. Unit {0}) Row (λ row h. tt) (row_in number words) (any_fits (row_in number words)))
    (mapped HasSession Act (λ step h. h) (alone Tick words) (tick_fits words))
    (mapped HasSession Act (λ step h. h) (step_in first words) (step_fits first words))

line_fits : (number : ℕ) (line : List ℕ) → IfSome (line_at number line) Fits
unfolding line_at
line_fits number line = either Fits (is_passed_over line) (Some Passed) (worded number (words_of line)) tt (worded_fits number (words_of line))

cons_fits : (o : Option Line) (lines : List Line) → IfSome o Fits → AllByRecursion Fits lines → AllByRecursion Fits (cons_option o lines)
cons_fits None lines h k = k
cons_fits (Some line) lines h k = (h, k)

said_fits : (number : ℕ) (lines : List (List ℕ)) → AllByRecursion Fits (said number lines)
said_fits number [] = tt
said_fits number (line ∷ lines) = cons_fits (line_at number line) (said (number + 1) lines) (line_fits number line) (said_fits (number + 1) lines)

tables_fit : (lines : List Line) → AllByRecursion Fits lines → AllByRecursion IsTableInRange (filter_map table_said lines)
tables_fit [] h = tt
tables_fit (Passed ∷ lines) h = tables_fit lines h.1
tables_fit (Table table ∷ lines) h = (h.0, tables_fit lines h.1)
tables_fit (Row row ∷ lines) h = tables_fit lines h.1
tables_fit (Act step ∷ lines) h = tables_fit lines h.1

steps_fit : (lines : List Line) → AllByRecursion Fits lines → AllByRecursion HasSession (filter_map step_said lines)
steps_fit [] h = tt
steps_fit (Passed ∷ lines) h = steps_fit lines h.1
steps_fit (Table table ∷ lines) h = steps_fit lines h.1
steps_fit (Row row ∷ lines) h = steps_fit lines h.1
steps_fit (Act step ∷ lines) h = (h.0, steps_fit lines h.1)

pub scripts_in_range : ScriptsAreInRange
scripts_in_range lines = record { tables = tables_fit (said 1 lines) (said_fits 1 lines); steps = steps_fit (said 1 lines) (said_fits 1 lines) }
