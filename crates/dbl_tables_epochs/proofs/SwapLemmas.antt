-- Tables of which one is another, and changes that aren't of it: what the messages report, which keys they lock, and that they stay valid.
use Rattle.std.proofs.Common.{◌≡◌, ◌∙◌, ◌-◌, ℕ, Bool, true, false, cond, Option, Some, None, List, [], ◌∷◌, ◌++◌, map, refl, sym, ap, subst}
use Rattle.std.specs.Prelude.{◌||◌, ◌&&◌, not, nat_lt, if◌then◌else◌, option_map, filter_map, slice_get, IsSomeAnd}
use Rattle.std.specs.List.{list_any, cons_option}
use Rattle.std.proofs.lemmas.Option.{slice_get-map}
use Rattle.dbl_pgmsg.specs.declared.messages.Message.{Message}
use Rattle.dbl_pgmsg.specs.declared.messages.Message.TheVariants as says
use Rattle.dbl_pgmsg.specs.declared.messages.OldTuple.{OldTuple}
use Rattle.dbl_pgmsg.specs.declared.messages.Tuple.{Tuple}
use Rattle.dbl_model_table.specs.declared.row.Key.{Key}
use Rattle.dbl_model_table.specs.declared.table.RawRow.{RawRow}
use Rattle.dbl_model_table.specs.declared.table.TableName.{TableName}
use Rattle.dbl_model_table.specs.Keys.{same_key}
use Rattle.dbl_model_table.specs.Tables.{same_name}
use Rattle.dbl_model_table.proofs.Lists.{or_false, any-append}
use Rattle.dbl_model_history.specs.History.{RawCell, RawKey, RawChange, name_of}
use Rattle.dbl_model_history.specs.History.RawChange.{Update, Clear}
use Rattle.dbl_source_log.specs.ModelCommit.Tuples.{is_whole}
use Rattle.dbl_source_log.specs.ModelCommit.Stated.{list_of}
use Rattle.dbl_source_log.specs.declared.logged.LogTable.{LogTable}
use Rattle.dbl_source_log.specs.Relations.{first_oid, table_at}
use Rattle.dbl_source_log.specs.Texts.{Texts, key_from, key_in, given_text, old_row_in, new_texts}
use Rattle.dbl_source_log.specs.TextRows.{TextRows, text_row_in, log_table_named, text_rows_after, text_rows_with}
use Rattle.dbl_source_log.specs.RawChanges.{insert_of, raw_key_before, settled_if_moved, update_of, delete_of, raw_changes, changes_from}
use Rattle.dbl_source_log.specs.FitLogs.{IsFitText, AreFitChanges}
use Rattle.dbl_source_log.proofs.ThemselvesLemmas.{name_itself, name_same}
use Rattle.dbl_tables_rows.specs.Locks.{names_key_in, is_of, locks}
use Rattle.dbl_tables_laws.proofs.LockLemmas.{same_after}
use Rattle.dbl_tables_epochs.proofs.OpeningLemmas.{flip_name}

-- A table, or another one if it has its name.
abbrev pub swapped : LogTable → LogTable → LogTable
swapped u t = if same_name t.raw.name u.raw.name then u else t

-- The changes of a truncate.
abbrev clears : List LogTable → List ℕ → List RawChange
clears tables oids = filter_map (λ (oid : ℕ). option_map (λ (t : LogTable). Clear t.raw.name) (table_at tables oid)) oids

module _ (u : LogTable) where
  -- The name of the table that is another.
  abbrev own : TableName
  own = u.raw.name

  swapped_other : (t : LogTable) → same_name t.raw.name own ≡ false → swapped u t ≡ t
  swapped_other t other = ap (λ (b : Bool). if b then u else t) other

  -- ---- tables by name and OID

  pub named_other : (ts : List LogTable) (other : TableName) → same_name own other ≡ false
      → log_table_named (map (swapped u) ts) other ≡ log_table_named ts other
  named_other [] other apart = refl
  named_other (t ∷ ts) other apart = by (same_name t.raw.name own) refl (named_other ts other apart)
    where
      by : (b : Bool) → same_name t.raw.name own ≡ b → log_table_named (map (swapped u) ts) other ≡ log_table_named ts other
          → cond (same_name (if b then u else t).raw.name other) (Some (if b then u else t)) (log_table_named (map (swapped u) ts) other)
          ≡ cond (same_name t.raw.name other) (Some t) (log_table_named ts other)
      by true same later =
          ap (λ (c : Bool). cond c (Some u) (log_table_named (map (swapped u) ts) other)) apart
          ∙ (later ∙ sym (ap (λ (c : Bool). cond c (Some t) (log_table_named ts other))
          (ap (λ (n : TableName). same_name n other) (name_same t.raw.name own same) ∙ apart)))
      by false other_name later = ap (cond (same_name t.raw.name other) (Some t)) later

  pub named_own : (ts : List LogTable) (t : LogTable) → log_table_named ts own ≡ Some t → log_table_named (map (swapped u) ts) own ≡ Some u
  named_own [] t is = cc
  named_own (x ∷ ts) t is = by (same_name x.raw.name own) refl is (λ later. named_own ts t later)
    where
      by : (b : Bool) → same_name x.raw.name own ≡ b → cond b (Some x) (log_table_named ts own) ≡ Some t
          → (log_table_named ts own ≡ Some t → log_table_named (map (swapped u) ts) own ≡ Some u)
          → cond (same_name (if b then u else x).raw.name own) (Some (if b then u else x)) (log_table_named (map (swapped u) ts) own) ≡ Some u
      by true same told later = ap (λ (c : Bool). cond c (Some u) (log_table_named (map (swapped u) ts) own)) (name_itself own)
      by false other told later = ap (λ (c : Bool). cond c (Some x) (log_table_named (map (swapped u) ts) own)) other ∙ later told

  at_swapped : (ts : List LogTable) (oid : ℕ) → table_at (map (swapped u) ts) oid ≡ option_map (swapped u) (table_at ts oid)
  at_swapped ts oid = by (nat_lt oid first_oid)
    where
      by : (b : Bool) → (if b then None else slice_get (map (swapped u) ts) (oid - first_oid))
          ≡ option_map (swapped u) (if b then None else slice_get ts (oid - first_oid))
      by true = refl
      by false = slice_get-map (swapped u) ts (oid - first_oid)

  -- ---- changes of other tables

  -- None of the changes is of the table.
  abbrev pub AreOthers : List RawChange → Type 0
  AreOthers cs = list_any (is_of own) cs ≡ false

  -- The rows of the other tables are the same.
  abbrev pub AgreeElsewhere : TextRows → TextRows → Type 0
  AgreeElsewhere a b = (other : TableName) (key : Key) → same_name own other ≡ false → b other key ≡ a other key

  module _ (ts : List LogTable) where
    -- The tables of which one is another.
    abbrev new : List LogTable
    new = map (swapped u) ts

    -- ---- what a message reports

    one_change : (of : LogTable → TextRows → RawChange) (a b : TextRows) → ((t : LogTable) (r : TextRows) → name_of (of t r) ≡ t.raw.name)
        → ((t : LogTable) → same_name t.raw.name own ≡ false → of t b ≡ of t a) → (o : Option LogTable)
        → AreOthers (list_of (option_map (λ (t : LogTable). of t a) o))
        → list_of (option_map (λ (t : LogTable). of t b) (option_map (swapped u) o)) ≡ list_of (option_map (λ (t : LogTable). of t a) o)
    one_change of a b named same None others = refl
    one_change of a b named same (Some t) others =
        let apart : same_name t.raw.name own ≡ false = ap (λ (n : TableName). same_name n own) (sym (named t a))
        ∙ (or_false (is_of own (of t a)) false others).0 in
        ap (λ (x : LogTable). of x b ∷ []) (swapped_other t apart) ∙ ap (λ (c : RawChange). c ∷ []) (same t apart)

    -- an update looks at the rows of its table
    update_alike : (before : Option OldTuple) (tuple : Tuple) (a b : TextRows) → AgreeElsewhere a b → (t : LogTable) → same_name t.raw.name own ≡ false
        → update_of t b before tuple ≡ update_of t a before tuple
    update_alike before tuple a b agree t apart =
        let old : Option RawRow = option_map (old_row_in t) before in
        let cells : List RawCell = new_texts t (is_whole before) old 0 t.raw.columns tuple.cells in
        let from : RawKey = raw_key_before t.raw old cells in
        let moved : Bool = not (same_key (key_from t.raw from) (key_in t.raw (map given_text cells))) in
        ap (λ (r : Option Texts). Update t.raw.name from old (settled_if_moved moved r cells))
        (agree t.raw.name (key_from t.raw from) (flip_name t.raw.name own apart))

    clears_alike : (oids : List ℕ) → AreOthers (clears ts oids) → clears new oids ≡ clears ts oids
    clears_alike [] others = refl
    clears_alike (oid ∷ oids) others =
        ap (λ (o : Option LogTable). cons_option (option_map (λ (t : LogTable). Clear t.raw.name) o) (clears new oids)) (at_swapped ts oid)
        ∙ by (table_at ts oid) others (λ later. clears_alike oids later)
      where
        by : (o : Option LogTable) → AreOthers (cons_option (option_map (λ (t : LogTable). Clear t.raw.name) o) (clears ts oids))
            → (AreOthers (clears ts oids) → clears new oids ≡ clears ts oids)
            → cons_option (option_map (λ (t : LogTable). Clear t.raw.name) (option_map (swapped u) o)) (clears new oids)
            ≡ cons_option (option_map (λ (t : LogTable). Clear t.raw.name) o) (clears ts oids)
        by None told later = later told
        by (Some t) told later =
            let both = or_false (same_name t.raw.name own) (list_any (is_of own) (clears ts oids)) told in
            ap (λ (x : LogTable). Clear x.raw.name ∷ clears new oids) (swapped_other t both.0)
            ∙ ap (λ (l : List RawChange). Clear t.raw.name ∷ l) (later both.1)

    raw_alike : (m : Message) (a b : TextRows) → AgreeElsewhere a b → AreOthers (raw_changes ts a m) → raw_changes new b m ≡ raw_changes ts a m
    raw_alike (says.Insert oid tuple) a b agree others =
        ap (λ (o : Option LogTable). list_of (option_map (λ (t : LogTable). insert_of t tuple) o)) (at_swapped ts oid)
        ∙ one_change (λ t r. insert_of t tuple) a b (λ t r. refl) (λ t apart. refl) (table_at ts oid) others
    raw_alike (says.Update oid before tuple) a b agree others =
        ap (λ (o : Option LogTable). list_of (option_map (λ (t : LogTable). update_of t b before tuple) o)) (at_swapped ts oid)
        ∙ one_change (λ t r. update_of t r before tuple) a b (λ t r. refl) (update_alike before tuple a b agree) (table_at ts oid) others
    raw_alike (says.Delete oid before) a b agree others =
        ap (λ (o : Option LogTable). list_of (option_map (λ (t : LogTable). delete_of t before) o)) (at_swapped ts oid)
        ∙ one_change (λ t r. delete_of t before) a b (λ t r. refl) (λ t apart. refl) (table_at ts oid) others
    raw_alike (says.Truncate options oids) a b agree others = clears_alike oids others
    raw_alike (says.Begin l t x) a b agree others = refl
    raw_alike (says.Commit f l e t) a b agree others = refl
    raw_alike (says.Origin l n) a b agree others = refl
    raw_alike (says.TypeName o n m) a b agree others = refl
    raw_alike (says.Relation o n m i c) a b agree others = refl
    raw_alike (says.Logical f l p c) a b agree others = refl

    -- ---- rows after changes

    after_alike : (c : RawChange) (a b : TextRows) → AgreeElsewhere a b → AgreeElsewhere (text_rows_after ts c a) (text_rows_after new c b)
    after_alike c a b agree = λ other key apart.
        ap (λ (o : Option LogTable). if same_name (name_of c) other then text_row_in o c (b other) key else b other key) (named_other ts other apart)
        ∙ same_after ts c b a other key (agree other key apart)

    with_alike : (cs : List RawChange) (a b : TextRows) → AgreeElsewhere a b → AgreeElsewhere (text_rows_with ts cs a) (text_rows_with new cs b)
    with_alike [] a b agree = agree
    with_alike (c ∷ cs) a b agree = with_alike cs (text_rows_after ts c a) (text_rows_after new c b) (after_alike c a b agree)

    -- changes of other tables report the same
    pub changes_alike : (ms : List Message) (a b : TextRows) → AgreeElsewhere a b → AreOthers (changes_from ts a ms)
        → changes_from new b ms ≡ changes_from ts a ms
    changes_alike [] a b agree others = refl
    changes_alike (m ∷ ms) a b agree others =
        let cs : List RawChange = raw_changes ts a m in
        let later : List RawChange = changes_from ts (text_rows_with ts cs a) ms in
        let both = or_false (list_any (is_of own) cs) (list_any (is_of own) later) (sym (any-append (is_of own) cs later) ∙ others) in
        ap (λ (l : List RawChange). l ++ changes_from new (text_rows_with new l b) ms) (raw_alike m a b agree both.0)
        ∙ ap (λ (l : List RawChange). cs ++ l) (changes_alike ms (text_rows_with ts cs a) (text_rows_with new cs b) (with_alike cs a b agree) both.1)

    -- changes of other tables leave the same rows of other tables
    pub seen_alike : (cs : List RawChange) (a b : TextRows) → AgreeElsewhere a b → (other : TableName) (key : Key) → same_name own other ≡ false
        → text_rows_with new cs b other key ≡ text_rows_with ts cs a other key
    seen_alike cs a b agree other key apart = with_alike cs a b agree other key apart

    -- changes of other tables leave the rows of the table
    pub own_stays : (cs : List RawChange) (b : TextRows) (key : Key) → AreOthers cs → text_rows_with new cs b own key ≡ b own key
    own_stays [] b key others = refl
    own_stays (c ∷ cs) b key others =
        let both = or_false (is_of own c) (list_any (is_of own) cs) others in
        own_stays cs (text_rows_after new c b) key both.1
        ∙ ap (λ (v : Bool). if v then text_row_in (log_table_named new own) c (b own) key else b own key) both.0

    -- ---- locks

    pub locks_alike : (cs : List RawChange) (name : TableName) (key : Key) → AreOthers cs → list_any (locks new name key) cs ≡ list_any (locks ts name key) cs
    locks_alike [] name key others = refl
    locks_alike (c ∷ cs) name key others =
        let both = or_false (is_of own c) (list_any (is_of own) cs) others in
        ap (λ (o : Option LogTable). (is_of name c && names_key_in o key c) || list_any (locks new name key) cs)
        (named_other ts (name_of c) (flip_name (name_of c) own both.0))
        ∙ ap (λ (v : Bool). locks ts name key c || v) (locks_alike cs name key both.1)

    -- ---- valid changes

    pub fit_alike : (cs : List RawChange) (a b : TextRows) → AgreeElsewhere a b → AreOthers cs → AreFitChanges ts a cs → AreFitChanges new b cs
    fit_alike [] a b agree others fit = tt
    fit_alike (c ∷ cs) a b agree others fit =
        let both = or_false (is_of own c) (list_any (is_of own) cs) others in
        let apart : same_name own (name_of c) ≡ false = flip_name (name_of c) own both.0 in
        let rows : a (name_of c) ≡ b (name_of c) = λ i key. sym (agree (name_of c) key apart) i in
        let here : IsSomeAnd (log_table_named ts (name_of c)) (λ t. IsFitText t.raw (b (name_of c)) c) =
        subst (λ (f : Key → Option Texts). IsSomeAnd (log_table_named ts (name_of c)) (λ t. IsFitText t.raw f c)) rows fit.0.1 in (
          (fit.0.0, subst (λ (o : Option LogTable). IsSomeAnd o (λ t. IsFitText t.raw (b (name_of c)) c)) (sym (named_other ts (name_of c) apart)) here),
          fit_alike cs (text_rows_after ts c a) (text_rows_after new c b) (after_alike c a b agree) both.1 fit.1,
        )
