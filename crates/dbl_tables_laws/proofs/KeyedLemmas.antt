-- A row stands at its own key, and has a cell for each column: all fit changes keep it so.
use Rattle.std.proofs.Common.{◌≡◌, ◌∙◌, ℕ, zero, suc, Bool, true, false, Option, Some, None, List, [], ◌∷◌, length, map, refl, sym, ap, subst, arith}
use Rattle.std.specs.Prelude.{if◌then◌else◌, option_map, option_and_then, unwrap_or, slice_get, IsSome, IsSomeAnd}
use Rattle.std.specs.List.{AllZip}
use Rattle.std.proofs.lemmas.List.{length-map}
use Rattle.dbl_tables_rows.specs.Value.Values.{value_of}
use Rattle.dbl_tables_rows.specs.ModelTable.declared.table.TableName.{TableName}
use Rattle.dbl_tables_rows.specs.ModelTable.declared.table.RawTable.{RawTable}
use Rattle.dbl_tables_rows.specs.ModelTable.declared.row.Key.{Key}
use Rattle.dbl_tables_rows.specs.ModelTable.Tables.{same_name}
use Rattle.dbl_tables_rows.specs.ModelTable.Keys.{same_key}
use Rattle.dbl_tables_rows.specs.ModelTable.Made.{raw_names, place_of}
use Rattle.dbl_model_table.proofs.KeyLemmas.{same_key-is}
use Rattle.dbl_tables_rows.specs.ModelHistory.History.{RawCell, RawKey, RawChange, name_of}
use Rattle.dbl_tables_rows.specs.ModelHistory.History.RawCell.{Given, Unchanged}
use Rattle.dbl_tables_rows.specs.ModelHistory.History.RawChange.{Insert, Update, Delete, Clear}
use Rattle.dbl_model_history.proofs.RowKeys.{some_and}
use Rattle.dbl_tables_rows.specs.SourceLog.declared.logged.LogTable.{LogTable}
use Rattle.dbl_tables_rows.specs.SourceLog.Texts.{Texts, text_named, type_named, raw_key, key_from, key_in, given_text, all_texts, overlaid}
use Rattle.dbl_tables_rows.specs.SourceLog.TextRows.{TextRows, no_text_rows, updated_texts, text_row_after, text_row_in, log_table_named, text_rows_after, text_rows_with}
use Rattle.dbl_tables_rows.specs.SourceLog.FitLogs.{IsTextKey, IsFitText, IsFitChange, AreFitChanges}
use Rattle.dbl_source_log.proofs.ThemselvesLemmas.{name_same}
use Rattle.dbl_tables_laws.specs.Reachable.{IsKeyedRow, AreKeyed}

-- a row of a table that is of a key, and has a cell for each column and a text for each column of the key
abbrev pub HasKey : RawTable → Key → Texts → Type 0
HasKey raw key row = (key_in raw row ≡ key) × (length row ≡ length raw.columns) × IsTextKey raw (raw_key raw row)

-- ---- cells of an update

-- where all cells are given they are the row
pub all_given_texts : (cells : List RawCell) (row : Texts) → all_texts cells ≡ Some row → map given_text cells ≡ row
all_given_texts [] row is = let e : [] ≡ row = cc in e
all_given_texts (Unchanged ∷ cells) row is = cc
all_given_texts (Given text ∷ cells) row is = by (all_texts cells) refl is (all_given_texts cells)
  where
    by : (o : Option Texts) → all_texts cells ≡ o → option_map (λ (r : Texts). text ∷ r) o ≡ Some row → ((r : Texts) → all_texts cells ≡ Some r → map given_text cells ≡ r) → text ∷ map given_text cells ≡ row
    by None same told given = cc
    by (Some r) same told given = let e : text ∷ r ≡ row = cc in ap (λ (l : Texts). text ∷ l) (given r same) ∙ e

length-overlaid : (cells : List RawCell) (row : Texts) → length (overlaid cells row) ≡ length row
length-overlaid [] row = refl
length-overlaid (c ∷ cells) [] = refl
length-overlaid (Given text ∷ cells) (x ∷ row) = ap suc (length-overlaid cells row)
length-overlaid (Unchanged ∷ cells) (x ∷ row) = ap suc (length-overlaid cells row)

-- a given text takes the place of the row's
overlaid_at : (cells : List RawCell) (row : Texts) (p : ℕ) (t : List ℕ) → length cells ≡ length row → slice_get (map given_text cells) p ≡ Some (Some t) → slice_get (overlaid cells row) p ≡ Some (Some t)
overlaid_at [] row p t same is = cc
overlaid_at (c ∷ cells) [] p t same is = absurd (omega (arith, same))
overlaid_at (Given text ∷ cells) (x ∷ row) zero t same is = is
overlaid_at (Unchanged ∷ cells) (x ∷ row) zero t same is = cc
overlaid_at (Given text ∷ cells) (x ∷ row) (suc p) t same is = overlaid_at cells row p t (omega (arith, same)) is
overlaid_at (Unchanged ∷ cells) (x ∷ row) (suc p) t same is = overlaid_at cells row p t (omega (arith, same)) is

module _ (raw : RawTable) (cells : List RawCell) (row : Texts) (same : length cells ≡ length row) where
  named_same : (name : List ℕ) (t : List ℕ) → text_named raw (map given_text cells) name ≡ Some t → text_named raw (overlaid cells row) name ≡ text_named raw (map given_text cells) name
  named_same name t is = by (place_of (raw_names raw.columns) name) is
    where
      at : (p : ℕ) (o : Option (Option (List ℕ))) → slice_get (map given_text cells) p ≡ o → unwrap_or o None ≡ Some t → unwrap_or (slice_get (overlaid cells row) p) None ≡ unwrap_or o None
      at p None there told = cc
      at p (Some None) there told = cc
      at p (Some (Some u)) there told = ap (λ (o : Option (Option (List ℕ))). unwrap_or o None) (overlaid_at cells row p u same there)

      by : (o : Option ℕ) → unwrap_or (option_and_then (slice_get (map given_text cells)) o) None ≡ Some t → unwrap_or (option_and_then (slice_get (overlaid cells row)) o) None ≡ unwrap_or (option_and_then (slice_get (map given_text cells)) o) None
      by None told = refl
      by (Some p) told = at p (slice_get (map given_text cells) p) refl told

  keys_same : (names : List (List ℕ)) → AllZip (λ ty text. IsSomeAnd text (λ t. IsSome (value_of ty t))) (map (type_named raw) names) (map (text_named raw (map given_text cells)) names)
      → map (text_named raw (overlaid cells row)) names ≡ map (text_named raw (map given_text cells)) names
  keys_same [] all = refl
  keys_same (name ∷ names) all =
      let some = some_and (text_named raw (map given_text cells) name) (λ t. IsSome (value_of (type_named raw name) t)) all.0 in
      ap (λ (x : Option (List ℕ)). x ∷ map (text_named raw (overlaid cells row)) names) (named_same name some.0 some.1)
      ∙ ap (λ (l : RawKey). text_named raw (map given_text cells) name ∷ l) (keys_same names all.1)

  -- where the key's cells are given, the row after the update has their key
  pub overlaid_key : IsTextKey raw (raw_key raw (map given_text cells)) → key_in raw (overlaid cells row) ≡ key_in raw (map given_text cells)
  overlaid_key is = ap (key_from raw) (keys_same raw.key is)

-- ---- one change

module _ (tables : List LogTable) where
  -- of its table: the row that a fit change leaves at a key
  keyed_in : (t : LogTable) (c : RawChange) (rows : Key → Option Texts) (key : Key) (row : Texts) → ((k : Key) (r : Texts) → rows k ≡ Some r → HasKey t.raw k r) → IsFitText t.raw rows c → text_row_after t.raw c rows key ≡ Some row
      → HasKey t.raw key row
  keyed_in t (Insert name new) rows key row keyed fit is = by (same_key (key_in t.raw new.cells) key) refl is
    where
      by : (b : Bool) → same_key (key_in t.raw new.cells) key ≡ b → (if b then Some new.cells else rows key) ≡ Some row → HasKey t.raw key row
      by true same told = let e : new.cells ≡ row = cc in (ap (key_in t.raw) (sym e) ∙ same_key-is (key_in t.raw new.cells) key same, ap length (sym e) ∙ fit.wide, subst (λ (r : Texts). IsTextKey t.raw (raw_key t.raw r)) e fit.key)
      by false other told = keyed key row told
  keyed_in t (Update name from old cells) rows key row keyed fit is = by (same_key (key_in t.raw (map given_text cells)) key) (same_key (key_from t.raw from) key) refl is
    where
      -- the row at the key that the update leads to
      new_row : key_in t.raw (map given_text cells) ≡ key → (o : Option Texts) → all_texts cells ≡ o → (was : Option Texts) → rows key ≡ was → updated_texts o cells was ≡ Some row → HasKey t.raw key row
      new_row to (Some whole) all was there told =
          let e : whole ≡ row = cc in
          let given : map given_text cells ≡ row = all_given_texts cells whole all ∙ e in
          (ap (key_in t.raw) (sym given) ∙ to, ap length (sym given) ∙ length-map cells given_text ∙ fit.wide, subst (λ (r : Texts). IsTextKey t.raw (raw_key t.raw r)) given fit.new_key)
      new_row to None all None there told = cc
      new_row to None all (Some r) there told =
          let e : overlaid cells r ≡ row = cc in
          let long : length r ≡ length t.raw.columns = (keyed key r there).1 in
          let same : length cells ≡ length r = fit.wide ∙ sym long in (
            ap (key_in t.raw) (sym e) ∙ overlaid_key t.raw cells r same fit.new_key ∙ to,
            ap length (sym e) ∙ length-overlaid cells r ∙ long,
            subst (λ (l : Texts). IsTextKey t.raw (raw_key t.raw l)) e (subst (IsTextKey t.raw) (sym (keys_same t.raw cells r same t.raw.key fit.new_key)) fit.new_key),
          )

      by : (b g : Bool) → same_key (key_in t.raw (map given_text cells)) key ≡ b → (if b then updated_texts (all_texts cells) cells (rows key) else (if g then None else rows key)) ≡ Some row → HasKey t.raw key row
      by true g same told = new_row (same_key-is (key_in t.raw (map given_text cells)) key same) (all_texts cells) refl (rows key) refl told
      by false true other told = cc
      by false false other told = keyed key row told
  keyed_in t (Delete name from old) rows key row keyed fit is = by (same_key (key_from t.raw from) key) is
    where
      by : (b : Bool) → (if b then None else rows key) ≡ Some row → HasKey t.raw key row
      by true told = cc
      by false told = keyed key row told
  keyed_in t (Clear name) rows key row keyed fit is = cc

  -- rows that are keyed stay so after a fit change
  pub keyed_after : (c : RawChange) (rows : TextRows) → IsFitChange tables rows c → AreKeyed tables rows → AreKeyed tables (text_rows_after tables c rows)
  keyed_after c rows fit keyed name key row is = by (same_name (name_of c) name) refl is
    where
      here : (o : Option LogTable) → log_table_named tables (name_of c) ≡ o → name_of c ≡ name → IsSomeAnd o (λ t. IsFitText t.raw (rows (name_of c)) c) → text_row_in o c (rows name) key ≡ Some row → IsKeyedRow tables name key row
      here None there same fits told = absurd fits
      here (Some t) there same fits told =
          let named : log_table_named tables name ≡ Some t = ap (log_table_named tables) (sym same) ∙ there in
          let own : (k : Key) (r : Texts) → rows name k ≡ Some r → HasKey t.raw k r
          = λ k r was. (let kept = keyed name k r was in let e : kept.table ≡ t = (let a = kept.there in cc) in (ap (λ (x : LogTable). key_in x.raw r) (sym e) ∙ kept.key_is, kept.wide ∙ ap (λ (x : LogTable). length x.raw.columns) e, subst (λ (x : LogTable). IsTextKey x.raw (raw_key x.raw r)) e kept.text_key)) in
          let done = keyed_in t c (rows name) key row own (subst (λ (n : TableName). IsFitText t.raw (rows n) c) same fits) told in
          record { table = t; there = named; key_is = done.0; wide = done.1; text_key = done.2 }

      by : (b : Bool) → same_name (name_of c) name ≡ b → (if b then text_row_in (log_table_named tables name) c (rows name) key else rows name key) ≡ Some row → IsKeyedRow tables name key row
      by true same told = here (log_table_named tables (name_of c)) refl (name_same (name_of c) name same) fit.1 (ap (λ (n : TableName). text_row_in (log_table_named tables n) c (rows name) key) (name_same (name_of c) name same) ∙ told)
      by false other told = keyed name key row told

  pub keyed_since : (cs : List RawChange) (rows : TextRows) → AreFitChanges tables rows cs → AreKeyed tables rows → AreKeyed tables (text_rows_with tables cs rows)
  keyed_since [] rows fit keyed = keyed
  keyed_since (c ∷ cs) rows fit keyed = keyed_since cs (text_rows_after tables c rows) fit.1 (keyed_after c rows fit.0 keyed)

  pub keyed_none : AreKeyed tables no_text_rows
  keyed_none name key row is = cc
