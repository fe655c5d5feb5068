-- The workload language, from the first byte of a line on: what is written says what. A line has words, with one space between two of them.
use Rattle.std.specs.Prelude.{◌≡◌, ◌≢◌, ◌↔◌, ◌+◌, ◌*◌, ◌<◌, ◌≤◌, ℕ, Bool, true, false, IsTrue}
use Rattle.std.specs.Prelude.{Some, None, List, [], ◌∷◌, ◌++◌, length, codes, slice_get}
use Rattle.std.specs.Char.{is_ascii_digit, digit_value}
use Rattle.std.specs.List.{AllByRecursion, AllZip, join_with_byte}
use Rattle.std.specs.Str.{IsUtf8}
use Rattle.std.specs.Str.Parse.{digits_value}
use Rattle.dbl_model_table.specs.declared.named_cell.NamedCell.{NamedCell}
use Rattle.dbl_model_table.specs.declared.table.TableName.{TableName}
use Rattle.dbl_script.specs.declared.columns.ColumnWord.{ColumnWord}
use Rattle.dbl_script.specs.declared.line.Line.{Line}
use Rattle.dbl_script.specs.declared.line.Line.TheVariants.{Passed, Table, Row, Act}
use Rattle.dbl_script.specs.declared.script.ScriptRow.{ScriptRow}
use Rattle.dbl_script.specs.declared.script.ScriptTable.{ScriptTable}
use Rattle.dbl_script.specs.declared.script.Step.{Step}
use Rattle.dbl_script.specs.declared.script.Step.TheVariants.{Begin, Commit, Rollback, Insert, Update, Delete, Truncate, Tick}
use Rattle.dbl_script.specs.Columns.{columns_in, key_in}
use Rattle.dbl_script.specs.Grammar.{line_at}
use Rattle.dbl_script.specs.Texts.{is_column_byte, is_session_byte}

-- ---- names

-- No byte is the separator.
abbrev pub Lacks : ℕ → List ℕ → Type 0
Lacks separator bytes = AllByRecursion (λ b. b ≢ separator) bytes

-- The name of a schema or a table: a UTF-8 text of one or more characters other than dots.
pub record IsName (bytes : List ℕ) : Type 0 where
  pub some : 0 < length bytes
  pub utf8 : IsUtf8 bytes
  pub no_dot : Lacks 46 bytes

-- `<schema>.<table>`
pub record SaysTableName (word : List ℕ) (name : TableName) : Type 0 where
  pub is : word ≡ name.schema ++ 46 ∷ name.name
  pub schema : IsName name.schema
  pub table : IsName name.name

-- The name of a column: 1 to 63 lower-case letters, digits and `_`.
pub record IsColumnName (bytes : List ℕ) : Type 0 where
  pub some : 0 < length bytes
  pub few : length bytes ≤ 63
  pub each : AllByRecursion (λ b. IsTrue (is_column_byte b)) bytes

-- The name of a session: 1 to 16 lower-case letters and digits, and no word that begins another kind of line.
pub record IsSession (bytes : List ℕ) : Type 0 where
  pub some : 0 < length bytes
  pub few : length bytes ≤ 16
  pub each : AllByRecursion (λ b. IsTrue (is_session_byte b)) bytes
  pub no_table : bytes ≢ codes "table"
  pub no_row : bytes ≢ codes "row"
  pub no_tick : bytes ≢ codes "tick"

-- ---- numbers and types

-- A number of 1 to 9 decimal digits.
pub record SaysNumber (word : List ℕ) (number : ℕ) : Type 0 where
  pub some : 0 < length word
  pub few : length word ≤ 9
  pub digits : AllByRecursion (λ b. IsTrue (is_ascii_digit b)) word
  pub is : number ≡ digits_value 10 word

-- The types that have a name in the language, each with its OID (PostgreSQL's catalog `pg_type`).
abbrev pub type_names : List (List ℕ × ℕ)
type_names =
    (codes "text", 25) ∷ (codes "varchar", 1043) ∷ (codes "bpchar", 1042) ∷ (codes "json", 114) ∷ (codes "jsonb", 3802)
    ∷ (codes "numeric", 1700) ∷ (codes "uuid", 2950) ∷ (codes "bytea", 17) ∷ (codes "bool", 16) ∷ (codes "int2", 21)
    ∷ (codes "int4", 23) ∷ (codes "int8", 20) ∷ (codes "float4", 700) ∷ (codes "float8", 701) ∷ (codes "date", 1082)
    ∷ (codes "time", 1083) ∷ (codes "timestamp", 1114) ∷ (codes "timestamptz", 1184) ∷ []

-- A type: its name, or `oid` and its OID.
pub data SaysType (word : List ℕ) (oid : ℕ) : Type 0 where
  named : (place : ℕ) → slice_get type_names place ≡ Some (word, oid) → SaysType word oid
  numbered : (digits : List ℕ) → word ≡ codes "oid" ++ digits → SaysNumber digits oid → SaysType word oid

-- ---- texts

-- The value of a hexadecimal digit, in either case, is below 16.
abbrev pub IsHexDigit : ℕ → Type 0
IsHexDigit b = digit_value b < 16

-- The bytes of a word: those that are written, and for `%` and two hexadecimal digits the byte that these are.
pub data SaysBytes : List ℕ → List ℕ → Type 0 where
  none : SaysBytes [] []
  plain : (b : ℕ) (word bytes : List ℕ) → b ≢ 37 → SaysBytes word bytes → SaysBytes (b ∷ word) (b ∷ bytes)
  escaped : (high low : ℕ) (word bytes : List ℕ) → IsHexDigit high → IsHexDigit low → SaysBytes word bytes
      → SaysBytes (37 ∷ high ∷ low ∷ word) ((digit_value high * 16 + digit_value low) ∷ bytes)

-- The UTF-8 text of a word.
abbrev pub SaysText : List ℕ → List ℕ → Type 0
SaysText word text = SaysBytes word text × IsUtf8 text

-- ---- cells

-- `<column>=<text>`, or `<column>~` for null
pub data SaysCell (word : List ℕ) (cell : NamedCell) : Type 0 where
  text : (written said : List ℕ) → word ≡ cell.column ++ 61 ∷ written → IsColumnName cell.column → SaysText written said
      → cell.text ≡ Some said → SaysCell word cell
  null : word ≡ cell.column ++ 126 ∷ [] → IsColumnName cell.column → cell.text ≡ None → SaysCell word cell

-- One or more words, each of which says the value beside it.
abbrev pub SayEach : {A : Type 0} → (List ℕ → A → Type 0) → List (List ℕ) → List A → Type 0
SayEach Says words values = (0 < length words) × AllZip Says words values

-- ---- tables

-- `<column>:<type>`, or `<column>:<type>:key` for a key column
pub data SaysColumn (word : List ℕ) (column : ColumnWord) : Type 0 where
  plain : (kind : List ℕ) → word ≡ column.column.name ++ 58 ∷ kind → IsColumnName column.column.name → SaysType kind column.column.oid
      → column.is_key ≡ false → SaysColumn word column
  key : (kind : List ℕ) → word ≡ column.column.name ++ 58 ∷ (kind ++ 58 ∷ codes "key") → IsColumnName column.column.name
      → SaysType kind column.column.oid → column.is_key ≡ true → SaysColumn word column

-- The replica identity.
abbrev pub identity_word : Bool → List ℕ
identity_word false = codes "default"
identity_word true = codes "full"

-- `table <schema>.<table> <default or full> toast <N> <columns>`: a table of this line, which stores texts of N bytes and more out of line,
-- with at most 1,600 columns, as many as a PostgreSQL table may have. It has version 1.
pub record SaysTable (number : ℕ) (words : List (List ℕ)) (table : ScriptTable) : Type 0 where
  pub name : List ℕ
  pub size : List ℕ
  pub columns : List (List ℕ)
  pub said : List ColumnWord
  pub is : words ≡ codes "table" ∷ name ∷ identity_word table.full ∷ codes "toast" ∷ size ∷ columns
  pub named : SaysTableName name table.raw.name
  pub toast : SaysNumber size table.toast
  pub each : SayEach SaysColumn columns said
  pub few : length said ≤ 1600
  pub columns_are : table.raw.columns ≡ columns_in said
  pub key_is : table.raw.key ≡ key_in said
  pub version : table.raw.version ≡ 1
  pub line : table.line ≡ number

-- ---- rows and steps

-- `row <schema>.<table> <cells>`
pub record SaysRow (number : ℕ) (words : List (List ℕ)) (row : ScriptRow) : Type 0 where
  pub name : List ℕ
  pub cells : List (List ℕ)
  pub is : words ≡ codes "row" ∷ name ∷ cells
  pub named : SaysTableName name row.table
  pub each : SayEach SaysCell cells row.cells
  pub line : row.line ≡ number

-- The words of a session's step after the session's name.
pub data SaysVerb (session : List ℕ) (words : List (List ℕ)) : Step → Type 0 where
  begin : words ≡ codes "begin" ∷ [] → SaysVerb session words (Begin session)
  commit : words ≡ codes "commit" ∷ [] → SaysVerb session words (Commit session)
  rollback : words ≡ codes "rollback" ∷ [] → SaysVerb session words (Rollback session)
  insert : (name : List ℕ) (table : TableName) (written : List (List ℕ)) (cells : List NamedCell)
      → words ≡ codes "insert" ∷ name ∷ written → SaysTableName name table → SayEach SaysCell written cells
      → SaysVerb session words (Insert session table cells)
  -- The cells before `set` are the key's.
  update : (name : List ℕ) (table : TableName) (before after : List (List ℕ)) (key set : List NamedCell)
      → words ≡ codes "update" ∷ name ∷ (before ++ codes "set" ∷ after) → SaysTableName name table
      → SayEach SaysCell before key → SayEach SaysCell after set → SaysVerb session words (Update session table key set)
  delete : (name : List ℕ) (table : TableName) (written : List (List ℕ)) (key : List NamedCell)
      → words ≡ codes "delete" ∷ name ∷ written → SaysTableName name table → SayEach SaysCell written key
      → SaysVerb session words (Delete session table key)
  truncate : (names : List (List ℕ)) (tables : List TableName) → words ≡ codes "truncate" ∷ names → SayEach SaysTableName names tables
      → SaysVerb session words (Truncate session tables)

-- ---- lines

-- The words of a line with this number.
pub data SaysWords (number : ℕ) (words : List (List ℕ)) : Line → Type 0 where
  table : (table : ScriptTable) → SaysTable number words table → SaysWords number words (Table table)
  row : (row : ScriptRow) → SaysRow number words row → SaysWords number words (Row row)
  tick : words ≡ codes "tick" ∷ [] → SaysWords number words (Act Tick)
  step : (session : List ℕ) (verb : List (List ℕ)) (step : Step) → words ≡ session ∷ verb → IsSession session
      → SaysVerb session verb step → SaysWords number words (Act step)

-- The line with this number: nothing or a comment, which is passed over, or words.
pub data SaysLine (number : ℕ) (line : List ℕ) : Line → Type 0 where
  empty : line ≡ [] → SaysLine number line Passed
  comment : (rest : List ℕ) → line ≡ 35 ∷ rest → SaysLine number line Passed
  words : (words : List (List ℕ)) (said : Line) → line ≡ join_with_byte 32 words → AllByRecursion (Lacks 32) words
      → SaysWords number words said → SaysLine number line said

-- A line is read as what it says, and as nothing if it says nothing.
abbrev pub LinesSay : Type 0
LinesSay = (number : ℕ) (line : List ℕ) (said : Line) → (line_at number line ≡ Some said) ↔ SaysLine number line said
