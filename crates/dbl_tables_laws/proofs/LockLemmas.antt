-- What changes leave of the rows at a key, and which rows they look at: those at the keys that they lock.
use Rattle.std.proofs.Common.{◌≡◌, ◌∙◌, ◌⊎◌, Bool, true, false, Option, Some, None, List, [], ◌∷◌, map, refl, sym, ap, subst}
use Rattle.std.specs.Prelude.{◌&&◌, ◌||◌, if◌then◌else◌, IsSome, IsSomeAnd}
use Rattle.std.specs.List.{list_any}
use Rattle.dbl_tables_rows.specs.ModelTable.declared.table.TableName.{TableName}
use Rattle.dbl_tables_rows.specs.ModelTable.declared.table.RawTable.{RawTable}
use Rattle.dbl_tables_rows.specs.ModelTable.declared.row.Key.{Key}
use Rattle.dbl_tables_rows.specs.ModelTable.Tables.{same_name}
use Rattle.dbl_tables_rows.specs.ModelTable.Keys.{same_key}
use Rattle.dbl_model_table.proofs.Lists.{and_both, or_false, or_right}
use Rattle.dbl_model_table.proofs.KeyLemmas.{same_key-itself}
use Rattle.dbl_tables_rows.specs.ModelHistory.History.{RawChange, name_of}
use Rattle.dbl_tables_rows.specs.ModelHistory.History.RawChange.{Insert, Update, Delete, Clear}
use Rattle.dbl_tables_rows.specs.SourceLog.declared.logged.LogTable.{LogTable}
use Rattle.dbl_tables_rows.specs.SourceLog.Texts.{Texts, key_from, key_in, given_text, all_texts}
use Rattle.dbl_tables_rows.specs.SourceLog.TextRows.{TextRows, updated_texts, text_row_after, text_row_in, log_table_named, text_rows_after, text_rows_with}
use Rattle.dbl_tables_rows.specs.SourceLog.FitLogs.{IsFitText, AreFitChanges}
use Rattle.dbl_source_log.proofs.ThemselvesLemmas.{name_itself, name_same}
use Rattle.dbl_tables_rows.specs.Locks.{names_key, names_key_in, locks}

-- ---- rows at a key that isn't locked

-- of a table: a change that doesn't name the key leaves its row
not_named : (raw : RawTable) (c : RawChange) (rows : Key → Option Texts) (key : Key) → names_key raw key c ≡ false → text_row_after raw c rows key ≡ rows key
not_named raw (Insert name row) rows key none = ap (λ (b : Bool). if b then Some row.cells else rows key) none
not_named raw (Update name from old cells) rows key none =
    let both = or_false (same_key (key_in raw (map given_text cells)) key) (same_key (key_from raw from) key) none in
    ap (λ (b : Bool). if b then updated_texts (all_texts cells) cells (rows key) else (if same_key (key_from raw from) key then None else rows key)) both.0
    ∙ ap (λ (b : Bool). if b then None else rows key) both.1
not_named raw (Delete name from old) rows key none = ap (λ (b : Bool). if b then None else rows key) none
not_named raw (Clear name) rows key none = cc

not_named_in : (t : Option LogTable) (c : RawChange) (rows : Key → Option Texts) (key : Key) → names_key_in t key c ≡ false → text_row_in t c rows key ≡ rows key
not_named_in None c rows key none = refl
not_named_in (Some t) c rows key none = not_named t.raw c rows key none

module _ (tables : List LogTable) where
  -- a change that doesn't lock the key leaves its row
  pub not_locked : (c : RawChange) (rows : TextRows) (name : TableName) (key : Key) → locks tables name key c ≡ false → text_rows_after tables c rows name key ≡ rows name key
  not_locked c rows name key none = by (same_name (name_of c) name) refl none
    where
      by : (b : Bool) → same_name (name_of c) name ≡ b → (b && names_key_in (log_table_named tables (name_of c)) key c) ≡ false → (if b then text_row_in (log_table_named tables name) c (rows name) key else rows name key) ≡ rows name key
      by true is free = not_named_in (log_table_named tables name) c (rows name) key (ap (λ (n : TableName). names_key_in (log_table_named tables n) key c) (sym (name_same (name_of c) name is)) ∙ free)
      by false is free = refl

  pub none_locked : (cs : List RawChange) (rows : TextRows) (name : TableName) (key : Key) → list_any (locks tables name key) cs ≡ false → text_rows_with tables cs rows name key ≡ rows name key
  none_locked [] rows name key none = refl
  none_locked (c ∷ cs) rows name key none =
      let both = or_false (locks tables name key c) (list_any (locks tables name key) cs) none in
      none_locked cs (text_rows_after tables c rows) name key both.1 ∙ not_locked c rows name key both.0

-- an update stays at its key, or moves where no row is
abbrev StaysOrMoves : Key → Key → Option Texts → Option Texts → Type 0
StaysOrMoves from to there whole = (from ≡ to) ⊎ ((there ≡ None) × IsSome whole)

-- ---- rows that agree at a key

-- a change looks at no row but that at the key
same_at : (raw : RawTable) (c : RawChange) (a b : Key → Option Texts) (key : Key) → a key ≡ b key → text_row_after raw c a key ≡ text_row_after raw c b key
same_at raw (Insert name row) a b key same = ap (λ (r : Option Texts). if same_key (key_in raw row.cells) key then Some row.cells else r) same
same_at raw (Update name from old cells) a b key same =
    ap (λ (r : Option Texts). if same_key (key_in raw (map given_text cells)) key then updated_texts (all_texts cells) cells r else (if same_key (key_from raw from) key then None else r)) same
same_at raw (Delete name from old) a b key same = ap (λ (r : Option Texts). if same_key (key_from raw from) key then None else r) same
same_at raw (Clear name) a b key same = refl

same_in : (t : Option LogTable) (c : RawChange) (a b : Key → Option Texts) (key : Key) → a key ≡ b key → text_row_in t c a key ≡ text_row_in t c b key
same_in None c a b key same = same
same_in (Some t) c a b key same = same_at t.raw c a b key same

module _ (tables : List LogTable) where
  pub same_after : (c : RawChange) (a b : TextRows) (name : TableName) (key : Key) → a name key ≡ b name key → text_rows_after tables c a name key ≡ text_rows_after tables c b name key
  same_after c a b name key same = by (same_name (name_of c) name)
    where
      by : (t : Bool) → (if t then text_row_in (log_table_named tables name) c (a name) key else a name key) ≡ (if t then text_row_in (log_table_named tables name) c (b name) key else b name key)
      by true = same_in (log_table_named tables name) c (a name) (b name) key same
      by false = same

  pub same_since : (cs : List RawChange) (a b : TextRows) (name : TableName) (key : Key) → a name key ≡ b name key → text_rows_with tables cs a name key ≡ text_rows_with tables cs b name key
  same_since [] a b name key same = same
  same_since (c ∷ cs) a b name key same = same_since cs (text_rows_after tables c a) (text_rows_after tables c b) name key (same_after c a b name key same)

  -- ---- changes that fit

  -- the rows agree where one of the changes locks a key
  abbrev pub AgreeAt : List RawChange → TextRows → TextRows → Type 0
  AgreeAt cs a b = (name : TableName) (key : Key) → list_any (locks tables name key) cs ≡ true → a name key ≡ b name key

  -- a change of a table that is there locks the keys that it names
  pub locked_here : (t : LogTable) (c : RawChange) (key : Key) → log_table_named tables (name_of c) ≡ Some t → names_key t.raw key c ≡ true → locks tables (name_of c) key c ≡ true
  locked_here t c key is named = and_both _ _ (name_itself (name_of c)) (ap (λ (o : Option LogTable). names_key_in o key c) is ∙ named)

  -- it looks at the rows of those keys alone
  fit_same : (t : LogTable) (c : RawChange) (a b : Key → Option Texts) → ((key : Key) → names_key t.raw key c ≡ true → a key ≡ b key) → IsFitText t.raw a c → IsFitText t.raw b c
  fit_same t (Insert name row) a b same fit = record { wide = fit.wide; key = fit.key; absent = sym (same (key_in t.raw row.cells) (same_key-itself (key_in t.raw row.cells))) ∙ fit.absent }
  fit_same t (Update name from old cells) a b same fit =
      let to : Key = key_in t.raw (map given_text cells) in
      let at_from : a (key_from t.raw from) ≡ b (key_from t.raw from) =
      same (key_from t.raw from) (ap (λ (x : Bool). same_key to (key_from t.raw from) || x) (same_key-itself (key_from t.raw from)) ∙ or_right (same_key to (key_from t.raw from))) in
      let at_to : a to ≡ b to = same to (ap (λ (x : Bool). x || same_key (key_from t.raw from) to) (same_key-itself to)) in
      record {
        wide = fit.wide;
        old_wide = fit.old_wide;
        old_key = fit.old_key;
        new_key = fit.new_key;
        present = subst IsSome at_from fit.present;
        stays_or_moves = subst (λ (o : Option Texts). StaysOrMoves (key_from t.raw from) to o (all_texts cells)) at_to fit.stays_or_moves;
      }
  fit_same t (Delete name from old) a b same fit = record { old_wide = fit.old_wide; old_key = fit.old_key; present = subst IsSome (same (key_from t.raw from) (same_key-itself (key_from t.raw from))) fit.present }
  fit_same t (Clear name) a b same fit = tt

  fit_in : (o : Option LogTable) (c : RawChange) (a b : TextRows) → log_table_named tables (name_of c) ≡ o → ((key : Key) → locks tables (name_of c) key c ≡ true → a (name_of c) key ≡ b (name_of c) key)
      → IsSomeAnd o (λ t. IsFitText t.raw (a (name_of c)) c) → IsSomeAnd o (λ t. IsFitText t.raw (b (name_of c)) c)
  fit_in None c a b is same fit = fit
  fit_in (Some t) c a b is same fit = fit_same t c (a (name_of c)) (b (name_of c)) (λ key named. same key (locked_here t c key is named)) fit

  -- changes that are fit for some rows are fit for others that agree with them where a key is locked
  pub fit_for : (cs : List RawChange) (a b : TextRows) → AgreeAt cs a b → AreFitChanges tables a cs → AreFitChanges tables b cs
  fit_for [] a b agree fit = tt
  fit_for (c ∷ cs) a b agree fit =
      let first : (name : TableName) (key : Key) → locks tables name key c ≡ true → a name key ≡ b name key
      = λ name key locked. agree name key (ap (λ (x : Bool). x || list_any (locks tables name key) cs) locked) in
      let later : AgreeAt cs (text_rows_after tables c a) (text_rows_after tables c b)
      = λ name key locked. same_after c a b name key (agree name key (ap (λ (x : Bool). locks tables name key c || x) locked ∙ or_right (locks tables name key c))) in
      ((fit.0.0, fit_in (log_table_named tables (name_of c)) c a b refl (first (name_of c)) fit.0.1), fit_for cs (text_rows_after tables c a) (text_rows_after tables c b) later fit.1)
