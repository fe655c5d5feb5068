-- A change that was planned: what its message says of keys and rows is what its writes do.
use Rattle.std.proofs.Common.{◌≡◌, ◌∙◌, ◌⊎◌, inl, inr, ℕ, Bool, true, false, Option, Some, None, List, [], ◌∷◌, ◌++◌, map, length, refl, sym, ap}
use Rattle.std.specs.Prelude.{◌&&◌, ◌||◌, ◌≤◌, IfSome, if◌then◌else◌, Result, Ok}
use Rattle.std.specs.List.{AllByRecursion, list_any}
use Rattle.dbl_pgmsg.specs.Grammar.{Fits}
use Rattle.dbl_model_table.specs.declared.row.Key.{Key}
use Rattle.dbl_model_table.specs.declared.table.RawRow.{RawRow}
use Rattle.dbl_model_table.specs.declared.table.RawTable.{RawTable}
use Rattle.dbl_model_table.specs.declared.table.TableName.{TableName}
use Rattle.dbl_model_table.specs.Keys.{same_key}
use Rattle.dbl_model_table.specs.Tables.{same_name}
use Rattle.dbl_model_table.proofs.KeyLemmas.{same_key-is, same_key-itself}
use Rattle.dbl_model_table.proofs.Lists.{or_none}
use Rattle.dbl_tables_rows.specs.ModelHistory.History.{RawCell, RawKey, RawChange, name_of}
use Rattle.dbl_tables_rows.specs.ModelHistory.History.RawChange.{Insert, Update, Delete}
use Rattle.dbl_tables_rows.specs.SourceLog.declared.logged.LogTable.{LogTable}
use Rattle.dbl_tables_rows.specs.SourceLog.RawChanges.{raw_changes}
use Rattle.dbl_tables_rows.specs.SourceLog.TextRows.{TextRows, updated_texts, text_row_after, text_row_in, log_table_named, text_rows_with}
use Rattle.dbl_tables_rows.specs.SourceLog.Texts.{Texts, key_from, key_in, given_text, all_texts}
use Rattle.dbl_tables_rows.proofs.SourceLogThemselvesLemmas.{name_itself}
use Rattle.dbl_tables_rows.specs.declared.demo_table.DemoTable.{DemoTable}
use Rattle.dbl_tables_rows.specs.declared.error.StepError.{StepError}
use Rattle.dbl_tables_rows.specs.Acts.{Accepted, messages_by}
use Rattle.dbl_tables_rows.specs.Acts.Accepted.{Did}
use Rattle.dbl_tables_rows.specs.Seen.{seen_rows}
use Rattle.dbl_tables_rows.specs.Locks.{names_key, names_key_in, locks, is_of}
use Rattle.dbl_tables_rows.specs.Sending.{raw_of, log_table, log_tables, entry_size, entry_limit}
use Rattle.dbl_tables_rows.specs.Steps.{FoundTable, found, seen}
use Rattle.dbl_tables_laws.specs.Reachable.{AreTables, IsReachable}
use Rattle.dbl_tables_laws.proofs.JudgedLemmas.{named_at}
use Rattle.dbl_tables_changes.specs.declared.planned.Write.{Write}
use Rattle.dbl_tables_changes.specs.declared.planned.Planned.{Planned}
use Rattle.dbl_tables_rows.specs.Views.{texts_of}
use Rattle.dbl_tables_changes.specs.Written.{are_apart}
use Rattle.dbl_tables_changes.specs.Planned.{is_written, row_written, IsWrite, IsUpdateWritten, IsPlanned}

-- ---- one change of a table

module _ (tables : List DemoTable) (past : List Accepted) (session : List ℕ) (at : FoundTable) (can : AreTables tables) (standing : IsReachable tables past) (there : found tables at.table.info.name ≡ Some at) (c : RawChange) (own : name_of c ≡ at.table.info.name) where
  abbrev rows : TextRows
  rows = seen_rows (log_tables tables) past session

  its_table : log_table_named (log_tables tables) at.table.info.name ≡ Some (log_table at.table)
  its_table = named_at tables past session at.table.info.name at can standing.orderly there

  locks_one : (name : TableName) (key : Key) → list_any (locks (log_tables tables) name key) (c ∷ []) ≡ (same_name at.table.info.name name && names_key (raw_of at.table) key c)
  locks_one name key =
      or_none (locks (log_tables tables) name key c)
      ∙ (ap (λ (n : TableName). same_name n name && names_key_in (log_table_named (log_tables tables) n) key c) own
      ∙ ap (λ (o : Option LogTable). same_name at.table.info.name name && names_key_in o key c) its_table)

  of_one : (name : TableName) → list_any (is_of name) (c ∷ []) ≡ same_name at.table.info.name name
  of_one name = or_none (is_of name c) ∙ ap (λ (n : TableName). same_name n name) own

  row_one : (key : Key) → text_rows_with (log_tables tables) (c ∷ []) rows at.table.info.name key ≡ text_row_after (raw_of at.table) c (rows at.table.info.name) key
  row_one key =
      ap (λ (n : TableName). if same_name n at.table.info.name then text_row_in (log_table_named (log_tables tables) at.table.info.name) c (rows at.table.info.name) key else rows at.table.info.name key) own
      ∙ (ap (λ (b : Bool). if b then text_row_in (log_table_named (log_tables tables) at.table.info.name) c (rows at.table.info.name) key else rows at.table.info.name key) (name_itself at.table.info.name)
      ∙ ap (λ (o : Option LogTable). text_row_in o c (rows at.table.info.name) key) its_table)

  -- the change is what the writes do
  pub planned_one : (verdict : Result Accepted StepError) (planned : Planned) → raw_changes (log_tables tables) rows planned.message ≡ c ∷ [] → verdict ≡ Ok (Did session planned.message) → Fits planned.message
      → planned.size ≡ entry_size (messages_by session past ++ planned.message ∷ []) → planned.size ≤ entry_limit → AllByRecursion (λ write. write.held.by ≡ session) planned.writes.items → are_apart planned.writes.items ≡ true
      → AllByRecursion (λ write. IfSome write.held.row (λ row. length row.cells ≡ length at.table.info.columns)) planned.writes.items → ((key : Key) → names_key (raw_of at.table) key c ≡ is_written planned.writes.items key)
      → ((key : Key) → text_row_after (raw_of at.table) c (rows at.table.info.name) key ≡ row_written planned.writes.items key (seen tables past session at key)) → IsPlanned tables past session at verdict planned
  planned_one verdict planned is accepted fits size short mine apart wide keys effects = record {
    accepted = accepted;
    fits = fits;
    size = size;
    short = short;
    own = mine;
    apart = apart;
    wide = wide;
    locked = λ name key. ap (list_any (locks (log_tables tables) name key)) is ∙ (locks_one name key ∙ ap (λ (b : Bool). same_name at.table.info.name name && b) (keys key));
    of_table = λ name. ap (list_any (is_of name)) is ∙ of_one name;
    rows = λ key. ap (λ (cs : List RawChange). text_rows_with (log_tables tables) cs rows at.table.info.name key) is ∙ (row_one key ∙ effects key);
  }

-- ---- one write

module _ (raw : RawTable) (session : List ℕ) (name : TableName) (key : Key) (row : Option RawRow) (w : Write) (is : IsWrite session key row w) (at : Key → Option Texts) where
  written_one : (k : Key) → same_key key k ≡ is_written (w ∷ []) k
  written_one k = ap (λ (x : Key). same_key x k) (sym is.key_is) ∙ sym (or_none (same_key w.key k))

  row_of_one : (k : Key) → (if same_key key k then texts_of row else at k) ≡ row_written (w ∷ []) k (at k)
  row_of_one k =
      ap (λ (x : Key). if same_key x k then texts_of row else at k) (sym is.key_is)
      ∙ ap (λ (r : Option RawRow). if same_key w.key k then texts_of r else at k) (sym is.row_is)

-- an insert writes the row at its key
pub insert_keys : (raw : RawTable) (session : List ℕ) (name : TableName) (row : RawRow) (w : Write) → IsWrite session (key_in raw row.cells) (Some row) w → (k : Key) → names_key raw k (Insert name row) ≡ is_written (w ∷ []) k
insert_keys raw session name row w is k = written_one raw session name (key_in raw row.cells) (Some row) w is (λ x. None) k

pub insert_rows : (raw : RawTable) (session : List ℕ) (name : TableName) (row : RawRow) (w : Write) (at : Key → Option Texts) → IsWrite session (key_in raw row.cells) (Some row) w → (k : Key) → text_row_after raw (Insert name row) at k ≡ row_written (w ∷ []) k (at k)
insert_rows raw session name row w at is k = row_of_one raw session name (key_in raw row.cells) (Some row) w is at k

-- a delete ends the row at its key
pub delete_keys : (raw : RawTable) (session : List ℕ) (name : TableName) (from : RawKey) (old : RawRow) (w : Write) → IsWrite session (key_from raw from) None w → (k : Key) → names_key raw k (Delete name from old) ≡ is_written (w ∷ []) k
delete_keys raw session name from old w is k = written_one raw session name (key_from raw from) None w is (λ x. None) k

pub delete_rows : (raw : RawTable) (session : List ℕ) (name : TableName) (from : RawKey) (old : RawRow) (w : Write) (at : Key → Option Texts) → IsWrite session (key_from raw from) None w → (k : Key) → text_row_after raw (Delete name from old) at k ≡ row_written (w ∷ []) k (at k)
delete_rows raw session name from old w at is k = row_of_one raw session name (key_from raw from) None w is at k

-- ---- the writes of an update

module _ (raw : RawTable) (session : List ℕ) (name : TableName) (fr : RawKey) (old : Option RawRow) (cells : List RawCell) (from to : Key) (row : RawRow) (comes : key_from raw fr ≡ from) (leads : key_in raw (map given_text cells) ≡ to) where
  named : (k : Key) → names_key raw k (Update name fr old cells) ≡ (same_key to k || same_key from k)
  named k = ap (λ (x : Key). same_key x k || same_key (key_from raw fr) k) leads ∙ ap (λ (x : Key). same_key to k || same_key x k) comes

  pub update_keys : (writes : List Write) → IsUpdateWritten session from to row writes → (k : Key) → names_key raw k (Update name fr old cells) ≡ is_written writes k
  update_keys [] is k = absurd is
  update_keys (a ∷ []) is k =
      let stays : from ≡ to = same_key-is from to is.0 in
      let key : a.key ≡ to = is.1.key_is in
      named k ∙ (ap (λ (x : Key). same_key to k || same_key x k) stays ∙ (twice (same_key to k) ∙ ap (λ (x : Key). same_key x k || false) (sym key)))
    where
      twice : (b : Bool) → (b || b) ≡ (b || false)
      twice true = refl
      twice false = refl
  update_keys (a ∷ b ∷ []) is k =
      let first : a.key ≡ from = is.1.key_is in
      let second : b.key ≡ to = is.2.key_is in
      named k ∙ (turned (same_key to k) (same_key from k) ∙ (ap (λ (x : Key). same_key x k || (same_key to k || false)) (sym first) ∙ ap (λ (x : Key). same_key a.key k || (same_key x k || false)) (sym second)))
    where
      turned : (t f : Bool) → (t || f) ≡ (f || (t || false))
      turned true true = refl
      turned true false = refl
      turned false true = refl
      turned false false = refl
  update_keys (a ∷ b ∷ c ∷ writes) is k = absurd is

  -- where it leads there is the row, and where it comes from none is left
  pub update_rows : (at : Key → Option Texts) (before : Texts) → at from ≡ Some before
      → ((was : Option Texts) → (same_key from to ≡ false) ⊎ (was ≡ Some before) → updated_texts (all_texts cells) cells was ≡ Some row.cells)
      → (writes : List Write) → IsUpdateWritten session from to row writes → (k : Key) → text_row_after raw (Update name fr old cells) at k ≡ row_written writes k (at k)
  update_rows at before there subsequent writes is k =
      ap (λ (x : Key). if same_key x k then updated_texts (all_texts cells) cells (at k) else (if same_key (key_from raw fr) k then None else at k)) leads
      ∙ (ap (λ (x : Key). if same_key to k then updated_texts (all_texts cells) cells (at k) else (if same_key x k then None else at k)) comes ∙ by writes is)
    where
      one : same_key from to ≡ true → (t f : Bool) → same_key to k ≡ t → same_key from k ≡ f → (if t then updated_texts (all_texts cells) cells (at k) else (if f then None else at k)) ≡ (if t then Some row.cells else at k)
      one stays true f here comes_here = subsequent (at k) (inr (ap at (sym (same_key-is to k here)) ∙ (ap at (sym (same_key-is from to stays)) ∙ there)))
      one stays false false here comes_here = refl
      one stays false true here comes_here =
          let e : same_key to k ≡ true = ap (λ (x : Key). same_key x k) (sym (same_key-is from to stays)) ∙ comes_here in
          let contra : true ≡ false = sym e ∙ here in
          cc

      two : same_key from to ≡ false → (t f : Bool) → same_key to k ≡ t → same_key from k ≡ f → (if t then updated_texts (all_texts cells) cells (at k) else (if f then None else at k)) ≡ (if f then None else (if t then Some row.cells else at k))
      two moved true false here comes_here = subsequent (at k) (inl moved)
      two moved false true here comes_here = refl
      two moved false false here comes_here = refl
      two moved true true here comes_here =
          let e : from ≡ to = same_key-is from k comes_here ∙ sym (same_key-is to k here) in
          let contra : true ≡ false = sym (same_key-itself to) ∙ (ap (λ (x : Key). same_key x to) (sym e) ∙ moved) in
          cc

      by : (ws : List Write) → IsUpdateWritten session from to row ws → (if same_key to k then updated_texts (all_texts cells) cells (at k) else (if same_key from k then None else at k)) ≡ row_written ws k (at k)
      by [] w = absurd w
      by (a ∷ []) w =
          let wr = w.1 in
          one w.0 (same_key to k) (same_key from k) refl refl
          ∙ (ap (λ (x : Key). if same_key x k then texts_of (Some row) else at k) (sym wr.key_is) ∙ ap (λ (r : Option RawRow). if same_key a.key k then texts_of r else at k) (sym wr.row_is))
      by (a ∷ b ∷ []) w =
          let gone = w.1 in
          let new = w.2 in
          two w.0 (same_key to k) (same_key from k) refl refl
          ∙ (ap (λ (x : Key). if same_key x k then texts_of None else (if same_key to k then texts_of (Some row) else at k)) (sym gone.key_is)
          ∙ (ap (λ (r : Option RawRow). if same_key a.key k then texts_of r else (if same_key to k then texts_of (Some row) else at k)) (sym gone.row_is)
          ∙ (ap (λ (x : Key). if same_key a.key k then texts_of a.held.row else (if same_key x k then texts_of (Some row) else at k)) (sym new.key_is)
          ∙ ap (λ (r : Option RawRow). if same_key a.key k then texts_of a.held.row else (if same_key b.key k then texts_of r else at k)) (sym new.row_is))))
      by (a ∷ b ∷ c ∷ ws) w = absurd w
