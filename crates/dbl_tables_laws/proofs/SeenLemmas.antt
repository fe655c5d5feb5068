-- What sessions see of one another: nothing of a step or of a rollback, and of a commit nothing at the keys that they hold.
use Rattle.std.proofs.Common.{◌≡◌, ◌≢◌, ◌∙◌, inl, inr, ℕ, zero, suc, Bool, true, false, Option, Some, None, List, [], ◌∷◌, ◌++◌, map, refl, sym, ap}
use Rattle.std.specs.Prelude.{◌||◌, not, nat_lt, ◌-◌, if◌then◌else◌, option_map, slice_get, find, bytes_eq}
use Rattle.std.specs.List.{list_any}
use Rattle.dbl_tables_rows.specs.Pgmsg.declared.messages.Message.{Message}
use Rattle.dbl_tables_rows.specs.Pgmsg.declared.messages.Message.TheVariants as says
use Rattle.dbl_tables_rows.specs.Pgmsg.declared.messages.OldTuple.{OldTuple}
use Rattle.dbl_tables_rows.specs.Pgmsg.declared.messages.Tuple.{Tuple}
use Rattle.dbl_tables_rows.specs.ModelTable.declared.table.TableName.{TableName}
use Rattle.dbl_tables_rows.specs.ModelTable.declared.table.RawRow.{RawRow}
use Rattle.dbl_tables_rows.specs.ModelTable.declared.row.Key.{Key}
use Rattle.dbl_tables_rows.specs.ModelTable.Tables.{same_name, are_distinct}
use Rattle.dbl_tables_rows.specs.ModelTable.Keys.{same_key}
use Rattle.dbl_model_table.proofs.Lists.{bool_case, same_text, text_itself, and_left, and_right, or_false, or_right, any-append}
use Rattle.dbl_model_table.proofs.InfoLemmas.{not_true}
use Rattle.dbl_model_table.proofs.KeyLemmas.{same_key-itself}
use Rattle.dbl_tables_rows.specs.ModelHistory.History.{RawCell, RawKey, RawChange}
use Rattle.dbl_tables_rows.specs.ModelHistory.History.RawChange.{Update}
use Rattle.dbl_tables_rows.specs.ModelCommit.Tuples.{is_whole}
use Rattle.dbl_tables_rows.specs.ModelCommit.Stated.{list_of}
use Rattle.dbl_tables_rows.specs.SourceLog.declared.logged.LogTable.{LogTable}
use Rattle.dbl_tables_rows.specs.SourceLog.declared.logged.Logged.{Logged}
use Rattle.dbl_tables_rows.specs.SourceLog.declared.logged.Logged.TheVariants.{Changes}
use Rattle.dbl_tables_rows.specs.SourceLog.Relations.{first_oid, table_at}
use Rattle.dbl_tables_rows.specs.SourceLog.Texts.{Texts, key_from, key_in, given_text, old_row_in, new_texts}
use Rattle.dbl_tables_rows.specs.SourceLog.TextRows.{TextRows, no_text_rows, log_table_named, text_rows_with}
use Rattle.dbl_tables_rows.specs.SourceLog.RawChanges.{raw_key_before, settled_if_moved, update_of, raw_changes, changes_from}
use Rattle.dbl_tables_rows.specs.SourceLog.Histories.{text_rows_at, text_rows_through}
use Rattle.dbl_source_log.proofs.FitLogLemmas.{message_rows}
use Rattle.dbl_source_log.proofs.ThemselvesLemmas.{name_itself}
use Rattle.dbl_tables_rows.specs.declared.demo_table.DemoTable.{DemoTable}
use Rattle.dbl_tables_rows.specs.Acts.{Accepted, messages_by, log_in}
use Rattle.dbl_tables_rows.specs.Acts.Accepted.{Did, Committed, RolledBack}
use Rattle.dbl_tables_rows.specs.Seen.{committed_rows, changes_by, seen_rows}
use Rattle.dbl_tables_rows.specs.Locks.{locks, holds_key}
use Rattle.dbl_tables_rows.specs.Sending.{log_tables}
use Rattle.dbl_tables_laws.specs.Reachable.{AreTables, IsOrderly}
use Rattle.dbl_tables_laws.specs.Laws.{StepsArePrivate, CommitsShowWhatWasSeen, RollbacksLeaveNothing, HeldRowsStay}
use Rattle.dbl_tables_laws.proofs.LockLemmas.{none_locked, same_since, AgreeAt, locked_here}

-- texts that differ
pub other_text : (a b : List ℕ) → a ≢ b → bytes_eq a b ≡ false
other_text a b other = elim (bool_case (bytes_eq a b)) [ inl same ↦ absurd (other (same_text a b same)) | inr apart ↦ apart ]

-- ---- tables by name

-- the names of tables
abbrev pub names_in : List LogTable → List TableName
names_in tables = map (λ (t : LogTable). t.raw.name) tables

not_among : (ts : List LogTable) (i : ℕ) (t : LogTable) (name : TableName) → list_any (same_name name) (names_in ts) ≡ false → slice_get ts i ≡ Some t → same_name name t.raw.name ≡ false
not_among [] i t name none there = cc
not_among (u ∷ ts) zero t name none there =
    let e : u ≡ t = cc in
    ap (λ (x : LogTable). same_name name x.raw.name) (sym e) ∙ (or_false (same_name name u.raw.name) (list_any (same_name name) (names_in ts)) none).0
not_among (u ∷ ts) (suc i) t name none there = not_among ts i t name (or_false (same_name name u.raw.name) (list_any (same_name name) (names_in ts)) none).1 there

-- where names are distinct, a table is the one of its name
pub named_there : (ts : List LogTable) (i : ℕ) (t : LogTable) → are_distinct same_name (names_in ts) ≡ true → slice_get ts i ≡ Some t → log_table_named ts t.raw.name ≡ Some t
named_there [] i t distinct there = cc
named_there (u ∷ ts) zero t distinct there =
    let e : u ≡ t = cc in
    ap (λ (x : LogTable). if same_name u.raw.name x.raw.name then Some u else find (λ (y : LogTable). same_name y.raw.name x.raw.name) ts) (sym e)
    ∙ ap (λ (b : Bool). if b then Some u else find (λ (y : LogTable). same_name y.raw.name u.raw.name) ts) (name_itself u.raw.name)
    ∙ ap (λ (x : LogTable). Some x) e
named_there (u ∷ ts) (suc i) t distinct there =
    let none : list_any (same_name u.raw.name) (names_in ts) ≡ false = not_true (list_any (same_name u.raw.name) (names_in ts)) (and_left (not (list_any (same_name u.raw.name) (names_in ts))) (are_distinct same_name (names_in ts)) distinct) in
    ap (λ (b : Bool). if b then Some u else find (λ (y : LogTable). same_name y.raw.name t.raw.name) ts) (not_among ts i t u.raw.name none there)
    ∙ named_there ts i t (and_right (not (list_any (same_name u.raw.name) (names_in ts))) (are_distinct same_name (names_in ts)) distinct) there

-- what is at an OID is a table of the list
pub at_oid : (tables : List LogTable) (oid : ℕ) (t : LogTable) (b : Bool) → (if b then None else slice_get tables (oid - first_oid)) ≡ Some t → slice_get tables (oid - first_oid) ≡ Some t
at_oid tables oid t true is = cc
at_oid tables oid t false is = is

-- ---- changes that rows alike give

module _ (tables : List LogTable) (distinct : are_distinct same_name (names_in tables) ≡ true) where
  update_same : (oid : ℕ) (before : Option OldTuple) (new : Tuple) (a b : TextRows) (o : Option LogTable) → table_at tables oid ≡ o → AgreeAt tables (list_of (option_map (λ table. update_of table a before new) o)) a b
      → list_of (option_map (λ table. update_of table a before new) o) ≡ list_of (option_map (λ table. update_of table b before new) o)
  update_same oid before new a b None is agree = refl
  update_same oid before new a b (Some t) is agree =
      let old : Option RawRow = option_map (old_row_in t) before in
      let cells : List RawCell = new_texts t (is_whole before) old 0 t.raw.columns new.cells in
      let from : RawKey = raw_key_before t.raw old cells in
      let key : Key = key_from t.raw from in
      let moved : Bool = not (same_key key (key_in t.raw (map given_text cells))) in
      let change : Option Texts → RawChange = λ (r : Option Texts). Update t.raw.name from old (settled_if_moved moved r cells) in
      let named : log_table_named tables t.raw.name ≡ Some t = named_there tables (oid - first_oid) t distinct (at_oid tables oid t (nat_lt oid first_oid) is) in
      let to_key : Bool = same_key (key_in t.raw (map given_text (settled_if_moved moved (a t.raw.name key) cells))) key in
      let locked : locks tables t.raw.name key (change (a t.raw.name key)) ≡ true =
      locked_here tables t (change (a t.raw.name key)) key named (ap (λ (x : Bool). to_key || x) (same_key-itself key) ∙ or_right to_key) in
      let same : a t.raw.name key ≡ b t.raw.name key = agree t.raw.name key (ap (λ (x : Bool). x || false) locked) in
      ap (λ (r : Option Texts). change r ∷ []) same

  -- a message looks at no row but at the keys that its changes lock
  raw_same : (m : Message) (a b : TextRows) → AgreeAt tables (raw_changes tables a m) a b → raw_changes tables a m ≡ raw_changes tables b m
  raw_same (says.Insert oid new) a b agree = refl
  raw_same (says.Update oid before new) a b agree = update_same oid before new a b (table_at tables oid) refl agree
  raw_same (says.Delete oid before) a b agree = refl
  raw_same (says.Truncate options oids) a b agree = refl
  raw_same (says.Begin l t x) a b agree = refl
  raw_same (says.Commit f l e t) a b agree = refl
  raw_same (says.Origin l n) a b agree = refl
  raw_same (says.TypeName o n m) a b agree = refl
  raw_same (says.Relation o n m i c) a b agree = refl
  raw_same (says.Logical f l p c) a b agree = refl

  -- messages say the same beside rows that agree where one of their changes locks a key
  pub changes_same : (ms : List Message) (a b : TextRows) → AgreeAt tables (changes_from tables a ms) a b → changes_from tables a ms ≡ changes_from tables b ms
  changes_same [] a b agree = refl
  changes_same (m ∷ ms) a b agree =
      let cs : List RawChange = raw_changes tables a m in
      let next : TextRows = text_rows_with tables cs a in
      let beside : TextRows = text_rows_with tables cs b in
      let later : List RawChange = changes_from tables next ms in
      let first : AgreeAt tables cs a b
      = λ name key locked. agree name key (any-append (locks tables name key) cs later ∙ ap (λ (x : Bool). x || list_any (locks tables name key) later) locked) in
      let rest : AgreeAt tables later next beside
      = λ name key locked. same_since tables cs a b name key (agree name key (any-append (locks tables name key) cs later ∙ (ap (λ (x : Bool). list_any (locks tables name key) cs || x) locked ∙ or_right (list_any (locks tables name key) cs)))) in
      ap (λ (l : List RawChange). cs ++ l) (changes_same ms next beside rest)
      ∙ ap (λ (l : List RawChange). l ++ changes_from tables (text_rows_with tables l b) ms) (raw_same m a b first)

-- ---- commits

through-append : (tables : List LogTable) (rows : TextRows) (log : List (List Message)) (more : List Logged) → text_rows_through tables rows (map Changes log ++ more) ≡ text_rows_through tables (text_rows_through tables rows (map Changes log)) more
through-append tables rows [] more = refl
through-append tables rows (ms ∷ log) more = through-append tables (text_rows_at tables rows (Changes ms)) log more

logged-push : (log : List (List Message)) (ms : List Message) → map Changes (log ++ ms ∷ []) ≡ map Changes log ++ Changes ms ∷ []
logged-push [] ms = refl
logged-push (xs ∷ log) ms = ap (λ (l : List Logged). Changes xs ∷ l) (logged-push log ms)

pub shows : CommitsShowWhatWasSeen
shows tables past session =
    let ms : List Message = messages_by session past in
    ap (text_rows_through tables no_text_rows) (logged-push (log_in past) ms)
    ∙ through-append tables no_text_rows (log_in past) (Changes ms ∷ [])
    ∙ message_rows tables ms (committed_rows tables past)

-- ---- steps

pub steps_private : StepsArePrivate
steps_private tables past session message = record { committed = refl; others = unseen }
  where
    unseen : (other : List ℕ) → session ≢ other → seen_rows tables (Did session message ∷ past) other ≡ seen_rows tables past other
    unseen other apart =
        let ms : messages_by other (Did session message ∷ past) ≡ messages_by other past = ap (λ (b : Bool). if b then messages_by other past ++ message ∷ [] else messages_by other past) (other_text session other apart) in
        ap (λ (l : List Message). text_rows_with tables (changes_from tables (committed_rows tables past) l) (committed_rows tables past)) ms

-- ---- rollbacks

pub leaves_nothing : RollbacksLeaveNothing
leaves_nothing tables past session = record { committed = refl; own = subsequent session (text_itself session); others = unseen }
  where
    subsequent : (other : List ℕ) → bytes_eq session other ≡ true → seen_rows tables (RolledBack session ∷ past) other ≡ committed_rows tables past
    subsequent other same =
        let ms : messages_by other (RolledBack session ∷ past) ≡ [] = ap (λ (b : Bool). if b then [] else messages_by other past) same in
        ap (λ (l : List Message). text_rows_with tables (changes_from tables (committed_rows tables past) l) (committed_rows tables past)) ms

    unseen : (other : List ℕ) → session ≢ other → seen_rows tables (RolledBack session ∷ past) other ≡ seen_rows tables past other
    unseen other apart =
        let ms : messages_by other (RolledBack session ∷ past) ≡ messages_by other past = ap (λ (b : Bool). if b then [] else messages_by other past) (other_text session other apart) in
        ap (λ (l : List Message). text_rows_with tables (changes_from tables (committed_rows tables past) l) (committed_rows tables past)) ms

-- ---- rows that are held

names_of_log : (tables : List DemoTable) → names_in (log_tables tables) ≡ map (λ (t : DemoTable). t.info.name) tables
names_of_log [] = refl
names_of_log (t ∷ tables) = ap (λ (l : List TableName). t.info.name ∷ l) (names_of_log tables)

module _ (tables : List DemoTable) (past : List Accepted) (can : AreTables tables) (orderly : IsOrderly tables past) where
  pub names_distinct : are_distinct same_name (names_in (log_tables tables)) ≡ true
  names_distinct = ap (are_distinct same_name) (names_of_log tables) ∙ can.distinct

  module _ (session other : List ℕ) (apart : session ≢ other) where
    -- what the session holds nobody else does
    free : (name : TableName) (key : Key) → holds_key (log_tables tables) past name key session ≡ true → holds_key (log_tables tables) past name key other ≡ false
    free name key held = elim (bool_case (holds_key (log_tables tables) past name key other)) [
      | inl too ↦ absurd (apart (orderly.apart session other name key held too))
      | inr none ↦ none
    ]

    -- so its row is the same once the other has committed
    pub stays_there : (name : TableName) (key : Key) → holds_key (log_tables tables) past name key session ≡ true → committed_rows (log_tables tables) past name key ≡ seen_rows (log_tables tables) past other name key
    stays_there name key held = sym (none_locked (log_tables tables) (changes_by (log_tables tables) past other) (committed_rows (log_tables tables) past) name key (free name key held))

    messages_stay : messages_by session (Committed other ∷ past) ≡ messages_by session past
    messages_stay = ap (λ (b : Bool). if b then [] else messages_by session past) (other_text other session (λ e. apart (sym e)))

    changes_stay : changes_by (log_tables tables) (Committed other ∷ past) session ≡ changes_by (log_tables tables) past session
    changes_stay =
        ap (changes_from (log_tables tables) (committed_rows (log_tables tables) (Committed other ∷ past))) messages_stay
        ∙ ap (λ (rows : TextRows). changes_from (log_tables tables) rows (messages_by session past)) (shows (log_tables tables) past other)
        ∙ sym (changes_same (log_tables tables) names_distinct (messages_by session past) (committed_rows (log_tables tables) past) (seen_rows (log_tables tables) past other) stays_there)

    rows_stay : (name : TableName) (key : Key) → holds_key (log_tables tables) past name key session ≡ true → seen_rows (log_tables tables) (Committed other ∷ past) session name key ≡ seen_rows (log_tables tables) past session name key
    rows_stay name key held =
        ap (λ (cs : List RawChange). text_rows_with (log_tables tables) cs (committed_rows (log_tables tables) (Committed other ∷ past)) name key) changes_stay
        ∙ ap (λ (rows : TextRows). text_rows_with (log_tables tables) (changes_by (log_tables tables) past session) rows name key) (shows (log_tables tables) past other)
        ∙ same_since (log_tables tables) (changes_by (log_tables tables) past session) (seen_rows (log_tables tables) past other) (committed_rows (log_tables tables) past) name key (sym (stays_there name key held))

pub held_stay : HeldRowsStay
held_stay tables past session other can orderly apart = record { changes = changes_stay tables past can orderly session other apart; rows = rows_stay tables past can orderly session other apart }
