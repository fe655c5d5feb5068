-- Lines are read as what they say.
use Rattle.std.proofs.Common.{◌≡◌, ◌≢◌, ◌∙◌, ℕ, ◌<◌, ◌≤◌, ◌==◌, nat_le, Bool, true, false, List, [], ◌∷◌, ◌++◌, Option, Some, None, length, codes, bytes_eq, refl, sym, ap, subst, arith}
use Rattle.std.specs.Prelude.{if◌then◌else◌, option_map}
use Rattle.std.specs.List.{AllByRecursion, AllZip, join_with_byte}
use Rattle.std.proofs.lemmas.Bool.{eqb-true, le-leb, leb-true, ne_eqb}
use Rattle.dbl_base.specs.Lines.{is_passed_over}
use Rattle.dbl_model_table.specs.declared.named_cell.NamedCell.{NamedCell}
use Rattle.dbl_model_table.specs.declared.table.TableName.{TableName}
use Rattle.dbl_model_table.proofs.Lists.{same_text, text_itself}
use Rattle.dbl_script.specs.declared.columns.ColumnWord.{ColumnWord}
use Rattle.dbl_script.specs.declared.line.Line.{Line}
use Rattle.dbl_script.specs.declared.line.Line.TheVariants.{Passed, Table, Row, Act}
use Rattle.dbl_script.specs.declared.script.ScriptRow.{ScriptRow}
use Rattle.dbl_script.specs.declared.script.ScriptTable.{ScriptTable}
use Rattle.dbl_script.specs.declared.script.Step.{Step}
use Rattle.dbl_script.specs.declared.script.Step.TheVariants.{Begin, Commit, Rollback, Insert, Update, Delete, Truncate, Tick}
use Rattle.dbl_script.specs.Columns.{column_with, typed_column, named_column, column_of, columns_in, key_in, columns_of}
use Rattle.dbl_script.specs.Grammar.{value_cell_of, null_cell_of, cell_in, cell_of, cells_of, identity_of, toast_of, table_in, row_in, alone, insert_in, is_set, before_set, words_after_set, update_in, delete_in, truncate_in, verb_in, step_in, worded, line_at}
use Rattle.dbl_script.specs.Reads.{◌>>=◌, some_of}
use Rattle.dbl_script.specs.Texts.{is_session_byte, table_name_of, session_of, column_name_of, number_of, oid_of, text_of}
use Rattle.dbl_script.specs.Words.{cut_at, words_of}
use Rattle.dbl_script_laws.specs.Language.{Lacks, SaysTableName, IsColumnName, IsSession, SaysNumber, SaysType, SaysCell, SayEach, SaysColumn, identity_word, SaysTable, SaysRow, SaysVerb, SaysWords, SaysLine, LinesSay}
use Rattle.dbl_script_laws.specs.Language.SaysCell.{text as text_cell, null as null_cell}
use Rattle.dbl_script_laws.specs.Language.SaysColumn.{plain as plain_column, key as key_column}
use Rattle.dbl_script_laws.specs.Language.SaysVerb.{begin as says_begin, commit as says_commit, rollback as says_rollback, insert as says_insert, update as says_update, delete as says_delete, truncate as says_truncate}
use Rattle.dbl_script_laws.specs.Language.SaysWords.{table as says_table, row as says_row, tick as says_tick, step as says_step}
use Rattle.dbl_script_laws.specs.Language.SaysLine.{empty as empty_line, comment as comment_line, words as words_line}
use Rattle.dbl_script_laws.proofs.TextLaws.{lacks-append, table_name_said, table_name_taken, column_name_said, column_name_taken, column_lacks, session_said, session_taken, number_said, number_taken, type_said, type_taken, type_lacks, text_said, text_taken}
use Rattle.dbl_script_laws.proofs.WordLemmas.{back, bound, passed, cut_front, cut_is, cut_none, parts_are, some_said, some_back, words_back}

-- ---- cells

nil_is : (xs : List ℕ) → (length xs == 0) ≡ true → xs ≡ []
nil_is [] is = refl
nil_is (x ∷ xs) is = absurd (omega (arith, eqb-true (length (x ∷ xs)) 0 is))

cell_said : (word : List ℕ) (cell : NamedCell) → cell_of word ≡ Some cell → SaysCell word cell
unfolding cell_of cell_in value_cell_of null_cell_of
cell_said word cell is = by (cut_at 61 word) refl is
  where
    null_by : (o : Option (List ℕ × List ℕ)) → cut_at 126 word ≡ o → null_cell_of o ≡ Some cell → SaysCell word cell
    null_by None there told = cc
    null_by (Some p) there told =
        let t = passed (length p.1 == 0) (column_name_of p.0 >>= λ column. Some (record { column = column; text = None })) cell told in
        let a = bound (column_name_of p.0) (λ column. Some (record { column = column; text = None })) cell t.1 in
        let made : NamedCell = record { column = a.item; text = None } in
        let e : made ≡ cell = (let same : Some made ≡ Some cell = a.rest in cc) in
        let c = cut_is 126 word p there in
        let n = column_name_said p.0 a.item a.first in
        subst (SaysCell word) e
        (null_cell (c.is ∙ (ap (λ (x : List ℕ). x ++ 126 ∷ p.1) n.0 ∙ ap (λ (y : List ℕ). a.item ++ 126 ∷ y) (nil_is p.1 t.0))) (subst IsColumnName n.0 n.1) refl)

    by : (o : Option (List ℕ × List ℕ)) → cut_at 61 word ≡ o → cell_in word o ≡ Some cell → SaysCell word cell
    by None there told = null_by (cut_at 126 word) refl told
    by (Some p) there told =
        let a = bound (column_name_of p.0) (λ column. text_of p.1 >>= λ text. Some (record { column = column; text = Some text })) cell told in
        let b = bound (text_of p.1) (λ text. Some (record { column = a.item; text = Some text })) cell a.rest in
        let made : NamedCell = record { column = a.item; text = Some b.item } in
        let e : made ≡ cell = (let same : Some made ≡ Some cell = b.rest in cc) in
        let c = cut_is 61 word p there in
        let n = column_name_said p.0 a.item a.first in
        subst (SaysCell word) e (text_cell p.1 b.item (c.is ∙ ap (λ (x : List ℕ). x ++ 61 ∷ p.1) n.0) (subst IsColumnName n.0 n.1) (text_said p.1 b.item b.first) refl)

cell_taken : (word : List ℕ) (cell : NamedCell) → SaysCell word cell → cell_of word ≡ Some cell
unfolding cell_of cell_in value_cell_of null_cell_of
cell_taken word cell (text_cell written said is column says text_is) =
    ap (cell_in word) (ap (cut_at 61) is ∙ cut_front 61 cell.column written (column_lacks 61 refl cell.column column))
    ∙ back (column_name_of cell.column) (λ c. text_of written >>= λ text. Some (record { column = c; text = Some text })) cell.column cell (column_name_taken cell.column column)
    (back (text_of written) (λ text. Some (record { column = cell.column; text = Some text })) said cell (text_taken written said says)
    (ap (λ (t : Option (List ℕ)). let c : NamedCell = record { column = cell.column; text = t } in Some c) (sym text_is)))
cell_taken word cell (null_cell is column none_is) =
    let no_value : Lacks 61 (cell.column ++ 126 ∷ []) = lacks-append 61 cell.column (126 ∷ []) (column_lacks 61 refl cell.column column) ((λ e. omega (arith, e)), tt) in
    ap (cell_in word) (ap (cut_at 61) is ∙ cut_none 61 (cell.column ++ 126 ∷ []) no_value)
    ∙ (ap null_cell_of (ap (cut_at 126) is ∙ cut_front 126 cell.column [] (column_lacks 126 refl cell.column column))
    ∙ back (column_name_of cell.column) (λ c. Some (record { column = c; text = None })) cell.column cell (column_name_taken cell.column column)
    (ap (λ (t : Option (List ℕ)). let c : NamedCell = record { column = cell.column; text = t } in Some c) (sym none_is)))

cells_said : (words : List (List ℕ)) (values : List NamedCell) → cells_of words ≡ Some values → SayEach SaysCell words values
cells_said words values is = some_said cell_of SaysCell cell_said words values is

cells_taken : (words : List (List ℕ)) (values : List NamedCell) → SayEach SaysCell words values → cells_of words ≡ Some values
cells_taken words values said = some_back cell_of SaysCell cell_taken words values said

-- ---- columns

record IsColumnWith (name kind : List ℕ) (is_key : Bool) (c : ColumnWord) : Type 0 where
  named : name ≡ c.column.name
  column : IsColumnName c.column.name
  type : SaysType kind c.column.oid
  key : c.is_key ≡ is_key

with_said : (name kind : List ℕ) (is_key : Bool) (c : ColumnWord) → column_with name kind is_key ≡ Some c → IsColumnWith name kind is_key c
with_said name kind is_key c is =
    let a = bound (column_name_of name) (λ n. oid_of kind >>= λ oid. Some (record { column = record { name = n; oid = oid }; is_key = is_key })) c is in
    let b = bound (oid_of kind) (λ oid. Some (record { column = record { name = a.item; oid = oid }; is_key = is_key })) c a.rest in
    let made : ColumnWord = record { column = record { name = a.item; oid = b.item }; is_key = is_key } in
    let e : made ≡ c = (let same : Some made ≡ Some c = b.rest in cc) in
    let n = column_name_said name a.item a.first in
    subst (IsColumnWith name kind is_key) e (record { named = n.0; column = subst IsColumnName n.0 n.1; type = type_said kind b.item b.first; key = refl })

with_taken : (kind : List ℕ) (is_key : Bool) (c : ColumnWord) → IsColumnName c.column.name → SaysType kind c.column.oid → c.is_key ≡ is_key → column_with c.column.name kind is_key ≡ Some c
with_taken kind is_key c column type key =
    back (column_name_of c.column.name) (λ n. oid_of kind >>= λ oid. Some (record { column = record { name = n; oid = oid }; is_key = is_key })) c.column.name c (column_name_taken c.column.name column)
    (back (oid_of kind) (λ oid. Some (record { column = record { name = c.column.name; oid = oid }; is_key = is_key })) c.column.oid c (type_taken kind c.column.oid type)
    (ap (λ (k : Bool). let made : ColumnWord = record { column = c.column; is_key = k } in Some made) (sym key)))

column_said : (word : List ℕ) (c : ColumnWord) → column_of word ≡ Some c → SaysColumn word c
unfolding column_of named_column typed_column
column_said word c is = by (cut_at 58 word) refl is
  where
    typed_by : (p : List ℕ × List ℕ) → cut_at 58 word ≡ Some p → (o : Option (List ℕ × List ℕ)) → cut_at 58 p.1 ≡ o → typed_column p.0 p.1 o ≡ Some c → SaysColumn word c
    typed_by p there None none told =
        let w = with_said p.0 p.1 false c told in
        plain_column p.1 ((cut_is 58 word p there).is ∙ ap (λ (x : List ℕ). x ++ 58 ∷ p.1) w.named) w.column w.type w.key
    typed_by p there (Some q) further told =
        let t = passed (bytes_eq q.1 (codes "key")) (column_with p.0 q.0 true) c told in
        let w = with_said p.0 q.0 true c t.1 in
        let kind : p.1 ≡ q.0 ++ 58 ∷ codes "key" = (cut_is 58 p.1 q further).is ∙ ap (λ (k : List ℕ). q.0 ++ 58 ∷ k) (same_text q.1 (codes "key") t.0) in
        key_column q.0 ((cut_is 58 word p there).is ∙ (ap (λ (x : List ℕ). x ++ 58 ∷ p.1) w.named ∙ ap (λ (k : List ℕ). c.column.name ++ 58 ∷ k) kind)) w.column w.type w.key

    by : (o : Option (List ℕ × List ℕ)) → cut_at 58 word ≡ o → named_column o ≡ Some c → SaysColumn word c
    by None there told = cc
    by (Some p) there told = typed_by p there (cut_at 58 p.1) refl told

column_taken : (word : List ℕ) (c : ColumnWord) → SaysColumn word c → column_of word ≡ Some c
unfolding column_of named_column typed_column
column_taken word c (plain_column kind is column type key) =
    ap named_column (ap (cut_at 58) is ∙ cut_front 58 c.column.name kind (column_lacks 58 refl c.column.name column))
    ∙ (ap (typed_column c.column.name kind) (cut_none 58 kind (type_lacks kind c.column.oid type)) ∙ with_taken kind false c column type key)
column_taken word c (key_column kind is column type key) =
    ap named_column (ap (cut_at 58) is ∙ cut_front 58 c.column.name (kind ++ 58 ∷ codes "key") (column_lacks 58 refl c.column.name column))
    ∙ (ap (typed_column c.column.name (kind ++ 58 ∷ codes "key")) (cut_front 58 kind (codes "key") (type_lacks kind c.column.oid type)) ∙ with_taken kind true c column type key)

columns_said : (words : List (List ℕ)) (said : List ColumnWord) → columns_of words ≡ Some said → SayEach SaysColumn words said × (length said ≤ 1600)
unfolding columns_of
columns_said words said is =
    let a = bound (some_of column_of words) (λ cs. if nat_le (length cs) 1600 then Some cs else None) said is in
    let p = passed (nat_le (length a.item) 1600) (Some a.item) said a.rest in
    let e : a.item ≡ said = (let same : Some a.item ≡ Some said = p.1 in cc) in
    (subst (SayEach SaysColumn words) e (some_said column_of SaysColumn column_said words a.item a.first), subst (λ (cs : List ColumnWord). length cs ≤ 1600) e (leb-true (length a.item) 1600 p.0))

columns_taken : (words : List (List ℕ)) (said : List ColumnWord) → SayEach SaysColumn words said → length said ≤ 1600 → columns_of words ≡ Some said
unfolding columns_of
columns_taken words said each few =
    back (some_of column_of words) (λ cs. if nat_le (length cs) 1600 then Some cs else None) said said (some_back column_of SaysColumn column_taken words said each)
    (ap (λ (b : Bool). if b then Some said else None) (le-leb (length said) 1600 few))

-- ---- tables

identity_said : (word : List ℕ) (full : Bool) → identity_of word ≡ Some full → word ≡ identity_word full
unfolding identity_of
identity_said word full is = by (bytes_eq word (codes "default")) refl is
  where
    full_by : (b : Bool) → bytes_eq word (codes "full") ≡ b → (if b then Some true else None) ≡ Some full → word ≡ identity_word full
    full_by true same told = let e : true ≡ full = cc in same_text word (codes "full") same ∙ ap identity_word e
    full_by false other told = cc

    by : (b : Bool) → bytes_eq word (codes "default") ≡ b → (if b then Some false else (if bytes_eq word (codes "full") then Some true else None)) ≡ Some full → word ≡ identity_word full
    by true same told = let e : false ≡ full = cc in same_text word (codes "default") same ∙ ap identity_word e
    by false other told = full_by (bytes_eq word (codes "full")) refl told

identity_taken : (full : Bool) → identity_of (identity_word full) ≡ Some full
unfolding identity_of
identity_taken false = refl
identity_taken true = refl

toast_said : (word size : List ℕ) (bytes : ℕ) → toast_of word size ≡ Some bytes → (word ≡ codes "toast") × SaysNumber size bytes
unfolding toast_of
toast_said word size bytes is =
    let p = passed (bytes_eq word (codes "toast")) (number_of size) bytes is in
    (same_text word (codes "toast") p.0, number_said size bytes p.1)

toast_taken : (size : List ℕ) (bytes : ℕ) → SaysNumber size bytes → toast_of (codes "toast") size ≡ Some bytes
unfolding toast_of
toast_taken size bytes said = number_taken size bytes said

table_said : (number : ℕ) (words : List (List ℕ)) (table : ScriptTable) → table_in number words ≡ Some table → SaysTable number (codes "table" ∷ words) table
unfolding table_in
table_said number [] table is = cc
table_said number (a ∷ []) table is = cc
table_said number (a ∷ b ∷ []) table is = cc
table_said number (a ∷ b ∷ c ∷ []) table is = cc
table_said number (name ∷ identity ∷ toast ∷ size ∷ written) table is =
    let make : TableName → Bool → ℕ → List ColumnWord → ScriptTable = λ named full bytes words.
    record { raw = record { name = named; columns = columns_in words; key = key_in words; version = 1 }; full = full; toast = bytes; line = number } in
    let a = bound (table_name_of name) (λ named. identity_of identity >>= λ full. toast_of toast size >>= λ bytes. columns_of written >>= λ words. Some (make named full bytes words)) table is in
    let b = bound (identity_of identity) (λ full. toast_of toast size >>= λ bytes. columns_of written >>= λ words. Some (make a.item full bytes words)) table a.rest in
    let c = bound (toast_of toast size) (λ bytes. columns_of written >>= λ words. Some (make a.item b.item bytes words)) table b.rest in
    let d = bound (columns_of written) (λ words. Some (make a.item b.item c.item words)) table c.rest in
    let e : make a.item b.item c.item d.item ≡ table = (let same : Some (make a.item b.item c.item d.item) ≡ Some table = d.rest in cc) in
    let i = identity_said identity b.item b.first in
    let t = toast_said toast size c.item c.first in
    let cs = columns_said written d.item d.first in
    subst (SaysTable number (codes "table" ∷ name ∷ identity ∷ toast ∷ size ∷ written)) e (record {
      name = name;
      size = size;
      columns = written;
      said = d.item;
      is = ap (λ (w : List ℕ). codes "table" ∷ name ∷ w ∷ toast ∷ size ∷ written) i ∙ ap (λ (w : List ℕ). codes "table" ∷ name ∷ identity_word b.item ∷ w ∷ size ∷ written) t.0;
      named = table_name_said name a.item a.first;
      toast = t.1;
      each = cs.0;
      few = cs.1;
      columns_are = refl;
      key_is = refl;
      version = refl;
      line = refl;
    })

table_taken : (number : ℕ) (table : ScriptTable) (name size : List ℕ) (written : List (List ℕ)) (said : List ColumnWord) → SaysTableName name table.raw.name → SaysNumber size table.toast → SayEach SaysColumn written said
    → length said ≤ 1600 → table.raw.columns ≡ columns_in said → table.raw.key ≡ key_in said → table.raw.version ≡ 1 → table.line ≡ number → table_in number (name ∷ identity_word table.full ∷ codes "toast" ∷ size ∷ written) ≡ Some table
unfolding table_in
table_taken number table name size written said named toast each few columns_are key_is version_is line_is =
    let make : TableName → Bool → ℕ → List ColumnWord → ScriptTable = λ named full bytes words.
    record { raw = record { name = named; columns = columns_in words; key = key_in words; version = 1 }; full = full; toast = bytes; line = number } in
    let identity = identity_word table.full in
    let made : make table.raw.name table.full table.toast said ≡ table =
    ap (λ columns. let t : ScriptTable = record { raw = record { name = table.raw.name; columns = columns; key = key_in said; version = 1 }; full = table.full; toast = table.toast; line = number } in t) (sym columns_are)
    ∙ (ap (λ key. let t : ScriptTable = record { raw = record { name = table.raw.name; columns = table.raw.columns; key = key; version = 1 }; full = table.full; toast = table.toast; line = number } in t) (sym key_is)
    ∙ (ap (λ version. let t : ScriptTable = record { raw = record { name = table.raw.name; columns = table.raw.columns; key = table.raw.key; version = version }; full = table.full; toast = table.toast; line = number } in t) (sym version_is)
    ∙ ap (λ line. let t : ScriptTable = record { raw = table.raw; full = table.full; toast = table.toast; line = line } in t) (sym line_is))) in
    back (table_name_of name) (λ named. identity_of identity >>= λ full. toast_of (codes "toast") size >>= λ bytes. columns_of written >>= λ words. Some (make named full bytes words)) table.raw.name table (table_name_taken name table.raw.name named)
    (back (identity_of identity) (λ full. toast_of (codes "toast") size >>= λ bytes. columns_of written >>= λ words. Some (make table.raw.name full bytes words)) table.full table (identity_taken table.full)
    (back (toast_of (codes "toast") size) (λ bytes. columns_of written >>= λ words. Some (make table.raw.name table.full bytes words)) table.toast table (toast_taken size table.toast toast)
    (back (columns_of written) (λ words. Some (make table.raw.name table.full table.toast words)) said table (columns_taken written said each few) (ap (λ (t : ScriptTable). Some t) made))))

-- ---- rows and steps

row_said : (number : ℕ) (words : List (List ℕ)) (row : ScriptRow) → row_in number words ≡ Some row → SaysRow number (codes "row" ∷ words) row
unfolding row_in
row_said number [] row is = cc
row_said number (name ∷ words) row is =
    let a = bound (table_name_of name) (λ table. cells_of words >>= λ cs. Some (record { table = table; cells = cs; line = number })) row is in
    let b = bound (cells_of words) (λ cs. Some (record { table = a.item; cells = cs; line = number })) row a.rest in
    let made : ScriptRow = record { table = a.item; cells = b.item; line = number } in
    let e : made ≡ row = (let same : Some made ≡ Some row = b.rest in cc) in
    subst (SaysRow number (codes "row" ∷ name ∷ words)) e (record { name = name; cells = words; is = refl; named = table_name_said name a.item a.first; each = cells_said words b.item b.first; line = refl })

row_taken : (number : ℕ) (row : ScriptRow) (name : List ℕ) (words : List (List ℕ)) → SaysTableName name row.table → SayEach SaysCell words row.cells → row.line ≡ number → row_in number (name ∷ words) ≡ Some row
unfolding row_in
row_taken number row name words named each line_is =
    back (table_name_of name) (λ table. cells_of words >>= λ cs. Some (record { table = table; cells = cs; line = number })) row.table row (table_name_taken name row.table named)
    (back (cells_of words) (λ cs. Some (record { table = row.table; cells = cs; line = number })) row.cells row (cells_taken words row.cells each)
    (ap (λ (n : ℕ). let r : ScriptRow = record { table = row.table; cells = row.cells; line = n } in Some r) (sym line_is)))

alone_said : {A : Type 0} (a b : A) (words : List (List ℕ)) → alone a words ≡ Some b → (words ≡ []) × (a ≡ b)
alone_said a b [] is = (refl, (let same : Some a ≡ Some b = is in cc))
alone_said a b (word ∷ words) is = cc

set_no_cell : (v : NamedCell) → cell_of (codes "set") ≡ Some v → ⊥
unfolding cell_of cell_in null_cell_of
set_no_cell v is = cc

set_front : (words : List (List ℕ)) (values : List NamedCell) → AllZip SaysCell words values → (rest : List (List ℕ)) → (before_set (words ++ codes "set" ∷ rest) ≡ words) × (words_after_set (words ++ codes "set" ∷ rest) ≡ rest)
set_front [] values zip rest = (refl, refl)
set_front (word ∷ words) [] zip rest = absurd zip
set_front (word ∷ words) (v ∷ values) zip rest =
    let further = set_front words values zip.1 rest in (
      ap (λ (b : Bool). if b then [] else word ∷ before_set (words ++ codes "set" ∷ rest)) (not_set word v zip.0) ∙ ap (λ (ws : List (List ℕ)). word ∷ ws) further.0,
      ap (λ (b : Bool). if b then words ++ codes "set" ∷ rest else words_after_set (words ++ codes "set" ∷ rest)) (not_set word v zip.0) ∙ further.1,
    )
  where
    by : (w : List ℕ) (v : NamedCell) (b : Bool) → is_set w ≡ b → cell_of w ≡ Some v → is_set w ≡ false
    by w v true same told = (let wrong : cell_of (codes "set") ≡ Some v = ap cell_of (sym (same_text w (codes "set") same)) ∙ told in absurd (set_no_cell v wrong))
    by w v false other told = other

    not_set : (w : List ℕ) (v : NamedCell) → SaysCell w v → is_set w ≡ false
    not_set w v said = by w v (is_set w) refl (cell_taken w v said)

set_back : (words : List (List ℕ)) → 0 < length (words_after_set words) → words ≡ before_set words ++ codes "set" ∷ words_after_set words
set_back [] some = absurd (omega (arith, some))
set_back (word ∷ words) some = by (is_set word) refl (λ later. set_back words later) some
  where
    by : (b : Bool) → is_set word ≡ b → (0 < length (words_after_set words) → words ≡ before_set words ++ codes "set" ∷ words_after_set words) → 0 < length (if b then words else words_after_set words) → word ∷ words ≡ (if b then [] else word ∷ before_set words) ++ codes "set" ∷ (if b then words else words_after_set words)
    by true same rest later = ap (λ (w : List ℕ). w ∷ words) (same_text word (codes "set") same)
    by false other rest later = ap (λ (ws : List (List ℕ)). word ∷ ws) (rest later)

module _ (session : List ℕ) where
  insert_said : (words : List (List ℕ)) (step : Step) → insert_in session words ≡ Some step → SaysVerb session (codes "insert" ∷ words) step
  unfolding insert_in
  insert_said [] step is = cc
  insert_said (name ∷ words) step is =
      let a = bound (table_name_of name) (λ table. cells_of words >>= λ cs. Some (Insert session table cs)) step is in
      let b = bound (cells_of words) (λ cs. Some (Insert session a.item cs)) step a.rest in
      let e : Insert session a.item b.item ≡ step = (let same : Some (Insert session a.item b.item) ≡ Some step = b.rest in cc) in
      subst (SaysVerb session (codes "insert" ∷ name ∷ words)) e (says_insert name a.item words b.item refl (table_name_said name a.item a.first) (cells_said words b.item b.first))

  update_said : (words : List (List ℕ)) (step : Step) → update_in session words ≡ Some step → SaysVerb session (codes "update" ∷ words) step
  unfolding update_in
  update_said [] step is = cc
  update_said (name ∷ words) step is =
      let a = bound (table_name_of name) (λ table. cells_of (before_set words) >>= λ key. cells_of (words_after_set words) >>= λ set. Some (Update session table key set)) step is in
      let b = bound (cells_of (before_set words)) (λ key. cells_of (words_after_set words) >>= λ set. Some (Update session a.item key set)) step a.rest in
      let c = bound (cells_of (words_after_set words)) (λ set. Some (Update session a.item b.item set)) step b.rest in
      let e : Update session a.item b.item c.item ≡ step = (let same : Some (Update session a.item b.item c.item) ≡ Some step = c.rest in cc) in
      let set = cells_said (words_after_set words) c.item c.first in
      subst (SaysVerb session (codes "update" ∷ name ∷ words)) e
      (says_update name a.item (before_set words) (words_after_set words) b.item c.item (ap (λ (ws : List (List ℕ)). codes "update" ∷ name ∷ ws) (set_back words set.0)) (table_name_said name a.item a.first)
      (cells_said (before_set words) b.item b.first) set)

  delete_said : (words : List (List ℕ)) (step : Step) → delete_in session words ≡ Some step → SaysVerb session (codes "delete" ∷ words) step
  unfolding delete_in
  delete_said [] step is = cc
  delete_said (name ∷ words) step is =
      let a = bound (table_name_of name) (λ table. cells_of words >>= λ cs. Some (Delete session table cs)) step is in
      let b = bound (cells_of words) (λ cs. Some (Delete session a.item cs)) step a.rest in
      let e : Delete session a.item b.item ≡ step = (let same : Some (Delete session a.item b.item) ≡ Some step = b.rest in cc) in
      subst (SaysVerb session (codes "delete" ∷ name ∷ words)) e (says_delete name a.item words b.item refl (table_name_said name a.item a.first) (cells_said words b.item b.first))

  truncate_said : (words : List (List ℕ)) (step : Step) → truncate_in session words ≡ Some step → SaysVerb session (codes "truncate" ∷ words) step
  unfolding truncate_in
  truncate_said words step is =
      let a = bound (some_of table_name_of words) (λ tables. Some (Truncate session tables)) step is in
      let e : Truncate session a.item ≡ step = (let same : Some (Truncate session a.item) ≡ Some step = a.rest in cc) in
      subst (SaysVerb session (codes "truncate" ∷ words)) e (says_truncate words a.item refl (some_said table_name_of SaysTableName table_name_said words a.item a.first))

  -- the verb is this one, or another one of those after it
  verb_or : (verb name : List ℕ) (words : List (List ℕ)) (step : Step) (here later : Option Step) → (here ≡ Some step → SaysVerb session (name ∷ words) step) → (later ≡ Some step → SaysVerb session (verb ∷ words) step)
      → (if bytes_eq verb name then here else later) ≡ Some step → SaysVerb session (verb ∷ words) step
  verb_or verb name words step here later this others is = by (bytes_eq verb name) refl is
    where
      by : (b : Bool) → bytes_eq verb name ≡ b → (if b then here else later) ≡ Some step → SaysVerb session (verb ∷ words) step
      by true same told = subst (λ (v : List ℕ). SaysVerb session (v ∷ words) step) (sym (same_text verb name same)) (this told)
      by false other told = others told

  alone_verb : (make : Step) (name : List ℕ) → SaysVerb session (name ∷ []) make → (words : List (List ℕ)) (step : Step) → alone make words ≡ Some step → SaysVerb session (name ∷ words) step
  alone_verb make name says words step is =
      let a = alone_said make step words is in
      subst (λ (ws : List (List ℕ)). SaysVerb session (name ∷ ws) step) (sym a.0) (subst (SaysVerb session (name ∷ [])) a.1 says)

  verb_said : (verb : List ℕ) (words : List (List ℕ)) (step : Step) → verb_in session verb words ≡ Some step → SaysVerb session (verb ∷ words) step
  unfolding verb_in
  verb_said verb words step is =
      verb_or verb (codes "begin") words step _ _ (alone_verb (Begin session) (codes "begin") (says_begin refl) words step)
      (verb_or verb (codes "commit") words step _ _ (alone_verb (Commit session) (codes "commit") (says_commit refl) words step)
      (verb_or verb (codes "rollback") words step _ _ (alone_verb (Rollback session) (codes "rollback") (says_rollback refl) words step)
      (verb_or verb (codes "insert") words step _ _ (insert_said words step)
      (verb_or verb (codes "update") words step _ _ (update_said words step)
      (verb_or verb (codes "delete") words step _ _ (delete_said words step)
      (verb_or verb (codes "truncate") words step _ None (truncate_said words step) (λ none. cc))))))) is

  abbrev steps_of_words : List (List ℕ) → Option Step
  steps_of_words [] = None
  steps_of_words (verb ∷ words) = verb_in session verb words

  verb_taken : (words : List (List ℕ)) (step : Step) → SaysVerb session words step → steps_of_words words ≡ Some step
  unfolding verb_in insert_in update_in delete_in truncate_in
  verb_taken words step (says_begin is) = ap steps_of_words is
  verb_taken words step (says_commit is) = ap steps_of_words is
  verb_taken words step (says_rollback is) = ap steps_of_words is
  verb_taken words step (says_insert name table written cells is named each) =
      ap steps_of_words is
      ∙ back (table_name_of name) (λ t. cells_of written >>= λ cs. Some (Insert session t cs)) table (Insert session table cells) (table_name_taken name table named)
      (back (cells_of written) (λ cs. Some (Insert session table cs)) cells (Insert session table cells) (cells_taken written cells each) refl)
  verb_taken words step (says_update name table before after key set is named each_key each_set) =
      let both = set_front before key each_key.1 after in
      ap steps_of_words is
      ∙ back (table_name_of name) (λ t. cells_of (before_set (before ++ codes "set" ∷ after)) >>= λ k. cells_of (words_after_set (before ++ codes "set" ∷ after)) >>= λ s. Some (Update session t k s)) table (Update session table key set)
      (table_name_taken name table named)
      (back (cells_of (before_set (before ++ codes "set" ∷ after))) (λ k. cells_of (words_after_set (before ++ codes "set" ∷ after)) >>= λ s. Some (Update session table k s)) key (Update session table key set) (ap cells_of both.0 ∙ cells_taken before key each_key)
      (back (cells_of (words_after_set (before ++ codes "set" ∷ after))) (λ s. Some (Update session table key s)) set (Update session table key set) (ap cells_of both.1 ∙ cells_taken after set each_set) refl))
  verb_taken words step (says_delete name table written key is named each) =
      ap steps_of_words is
      ∙ back (table_name_of name) (λ t. cells_of written >>= λ cs. Some (Delete session t cs)) table (Delete session table key) (table_name_taken name table named)
      (back (cells_of written) (λ cs. Some (Delete session table cs)) key (Delete session table key) (cells_taken written key each) refl)
  verb_taken words step (says_truncate names tables is each) =
      ap steps_of_words is ∙ back (some_of table_name_of names) (λ ts. Some (Truncate session ts)) tables (Truncate session tables) (some_back table_name_of SaysTableName table_name_taken names tables each) refl

-- ---- lines

step_said : (first : List ℕ) (words : List (List ℕ)) (step : Step) → first ≢ codes "table" → first ≢ codes "row" → first ≢ codes "tick" → step_in first words ≡ Some step
    → (number : ℕ) → SaysWords number (first ∷ words) (Act step)
unfolding step_in
step_said first [] step table row tick is number = cc
step_said first (verb ∷ words) step table row tick is number =
    let a = bound (session_of first) (λ session. verb_in session verb words) step is in
    let s = session_said first a.item a.first table row tick in
    says_step first (verb ∷ words) step refl s.1 (subst (λ (session : List ℕ). SaysVerb session (verb ∷ words) step) (sym s.0) (verb_said a.item verb words step a.rest))

mapped : {A B : Type 0} (f : A → B) (o : Option A) (b : B) → option_map f o ≡ Some b → (a : A) × (o ≡ Some a) × (f a ≡ b)
mapped f None b is = cc
mapped f (Some a) b is = (a, refl, (let same : Some (f a) ≡ Some b = is in cc))

other_text : (a b : List ℕ) → bytes_eq a b ≡ false → a ≢ b
other_text a b other same = (let wrong : true ≡ false = sym (text_itself b) ∙ (ap (λ (x : List ℕ). bytes_eq x b) (sym same) ∙ other) in cc)

words_said : (number : ℕ) (words : List (List ℕ)) (said : Line) → worded number words ≡ Some said → SaysWords number words said
unfolding worded
words_said number [] said is = cc
words_said number (first ∷ words) said is = by (bytes_eq first (codes "table")) (bytes_eq first (codes "row")) (bytes_eq first (codes "tick")) refl refl refl is
  where
    by : (a b c : Bool) → bytes_eq first (codes "table") ≡ a → bytes_eq first (codes "row") ≡ b → bytes_eq first (codes "tick") ≡ c
        → (if a then option_map Table (table_in number words) else (if b then option_map Row (row_in number words)
        else (if c then option_map Act (alone Tick words) else option_map Act (step_in first words)))) ≡ Some said → SaysWords number (first ∷ words) said
    by true b c table row tick told =
        let m = mapped Table (table_in number words) said told in
        subst (SaysWords number (first ∷ words)) m.2
        (says_table m.0 (subst (λ (w : List ℕ). SaysTable number (w ∷ words) m.0) (sym (same_text first (codes "table") table)) (table_said number words m.0 m.1)))
    by false true c table row tick told =
        let m = mapped Row (row_in number words) said told in
        subst (SaysWords number (first ∷ words)) m.2
        (says_row m.0 (subst (λ (w : List ℕ). SaysRow number (w ∷ words) m.0) (sym (same_text first (codes "row") row)) (row_said number words m.0 m.1)))
    by false false true table row tick told =
        let m = mapped Act (alone Tick words) said told in
        let a = alone_said Tick m.0 words m.1 in
        subst (SaysWords number (first ∷ words)) (ap (λ (s : Step). Act s) a.1 ∙ m.2)
        (says_tick (ap (λ (w : List ℕ). w ∷ words) (same_text first (codes "tick") tick) ∙ ap (λ (ws : List (List ℕ)). codes "tick" ∷ ws) a.0))
    by false false false table row tick told =
        let m = mapped Act (step_in first words) said told in
        subst (SaysWords number (first ∷ words)) m.2
        (step_said first words m.0 (other_text first (codes "table") table) (other_text first (codes "row") row) (other_text first (codes "tick") tick) m.1 number)

words_taken : (number : ℕ) (words : List (List ℕ)) (said : Line) → SaysWords number words said → worded number words ≡ Some said
unfolding worded step_in
words_taken number words said (says_table table s) =
    ap (worded number) s.is
    ∙ ap (option_map Table) (table_taken number table s.name s.size s.columns s.said s.named s.toast s.each s.few s.columns_are s.key_is s.version s.line)
words_taken number words said (says_row row s) = ap (worded number) s.is ∙ ap (option_map Row) (row_taken number row s.name s.cells s.named s.each s.line)
words_taken number words said (says_tick is) = ap (worded number) is
words_taken number words said (says_step session verb step is named says) = ap (worded number) is ∙ by verb (verb_taken session verb step says)
  where
    differs : (other : List ℕ) → session ≢ other → bytes_eq session other ≡ false
    differs other apart = by_test (bytes_eq session other) refl
      where
        by_test : (b : Bool) → bytes_eq session other ≡ b → bytes_eq session other ≡ false
        by_test true same = absurd (apart (same_text session other same))
        by_test false is_not = is_not

    by : (ws : List (List ℕ)) → steps_of_words session ws ≡ Some step → worded number (session ∷ ws) ≡ Some (Act step)
    by [] none = cc
    by (v ∷ ws) read =
        ap (λ (b : Bool). if b then option_map Table (table_in number (v ∷ ws)) else (if bytes_eq session (codes "row") then option_map Row (row_in number (v ∷ ws))
        else (if bytes_eq session (codes "tick") then option_map Act (alone Tick (v ∷ ws)) else option_map Act (step_in session (v ∷ ws))))) (differs (codes "table") named.no_table)
        ∙ (ap (λ (b : Bool). if b then option_map Row (row_in number (v ∷ ws)) else (if bytes_eq session (codes "tick") then option_map Act (alone Tick (v ∷ ws)) else option_map Act (step_in session (v ∷ ws)))) (differs (codes "row") named.no_row)
        ∙ (ap (λ (b : Bool). if b then option_map Act (alone Tick (v ∷ ws)) else option_map Act (step_in session (v ∷ ws))) (differs (codes "tick") named.no_tick)
        ∙ ap (option_map Act) (back (session_of session) (λ s. verb_in s v ws) session step (session_taken session named) read)))

-- words of the language are no comment, and not none
record IsBegun (words : List (List ℕ)) : Type 0 where
  byte : ℕ
  first : List ℕ
  others : List (List ℕ)
  is : words ≡ (byte ∷ first) ∷ others
  plain : (byte == 35) ≡ false

session_begun : (session : List ℕ) (words : List (List ℕ)) → IsSession session → IsBegun (session ∷ words)
session_begun [] words s = absurd (omega (arith, s.some))
session_begun (b ∷ session) words s = record {
  byte = b;
  first = session;
  others = words;
  is = refl;
  plain = ne_eqb b 35 (λ e. let wrong : false ≡ true = sym (ap is_session_byte e) ∙ s.each.0 in cc);
}

words_begun : (number : ℕ) (words : List (List ℕ)) (said : Line) → SaysWords number words said → IsBegun words
words_begun number words said (says_table table s) = record { byte = 116; first = codes "able"; others = s.name ∷ identity_word table.full ∷ codes "toast" ∷ s.size ∷ s.columns; is = s.is; plain = refl }
words_begun number words said (says_row row s) = record { byte = 114; first = codes "ow"; others = s.name ∷ s.cells; is = s.is; plain = refl }
words_begun number words said (says_tick is) = record { byte = 116; first = codes "ick"; others = []; is = is; plain = refl }
words_begun number words said (says_step session verb step is named says) = subst IsBegun (sym is) (session_begun session verb named)

not_passed : (byte : ℕ) (first : List ℕ) (others : List (List ℕ)) → (byte == 35) ≡ false → is_passed_over (join_with_byte 32 ((byte ∷ first) ∷ others)) ≡ false
not_passed byte first [] plain = plain
not_passed byte first (second ∷ others) plain = plain

line_said : (number : ℕ) (text : List ℕ) (said : Line) → line_at number text ≡ Some said → SaysLine number text said
unfolding line_at
line_said number [] said is = let e : Passed ≡ said = cc in subst (SaysLine number []) e (empty_line refl)
line_said number (b ∷ text) said is = by (b == 35) refl is
  where
    by : (t : Bool) → (b == 35) ≡ t → (if t then Some Passed else worded number (words_of (b ∷ text))) ≡ Some said → SaysLine number (b ∷ text) said
    by true comment told =
        let e : Passed ≡ said = cc in
        subst (SaysLine number (b ∷ text)) e (comment_line text (ap (λ (x : ℕ). x ∷ text) (eqb-true b 35 comment)))
    by false plain told =
        let h = parts_are 32 (b ∷ text) in
        words_line (h.first ∷ h.others) said (sym h.joined) h.lack (words_said number (h.first ∷ h.others) said (ap (worded number) (sym h.are) ∙ told))

line_taken : (number : ℕ) (text : List ℕ) (said : Line) → SaysLine number text said → line_at number text ≡ Some said
unfolding line_at
line_taken number text said (empty_line is) = ap (line_at number) is
line_taken number text said (comment_line rest is) = ap (line_at number) is
line_taken number text said (words_line words what is lack says) =
    let g = words_begun number words said says in
    let whole : text ≡ join_with_byte 32 ((g.byte ∷ g.first) ∷ g.others) = is ∙ ap (join_with_byte 32) g.is in
    let lacks : AllByRecursion (Lacks 32) ((g.byte ∷ g.first) ∷ g.others) = subst (AllByRecursion (Lacks 32)) g.is lack in
    let words_are : words_of (join_with_byte 32 ((g.byte ∷ g.first) ∷ g.others)) ≡ words = words_back 32 (g.byte ∷ g.first) g.others lacks ∙ sym g.is in
    ap (line_at number) whole
    ∙ (ap (λ (b : Bool). if b then Some Passed else worded number (words_of (join_with_byte 32 ((g.byte ∷ g.first) ∷ g.others)))) (not_passed g.byte g.first g.others g.plain)
    ∙ (ap (worded number) words_are ∙ words_taken number words said says))

pub lines_are_read : LinesSay
lines_are_read number text said = (line_said number text said, line_taken number text said)
