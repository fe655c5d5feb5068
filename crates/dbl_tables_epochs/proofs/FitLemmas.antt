-- The rows that the log has for an alteration: each found at its key, as wide as the new columns, and readable there.
use Rattle.std.proofs.Common.{◌≡◌, ◌∙◌, ◌⊎◌, inl, inr, Bool, true, false, Option, Some, None, List, [], ◌∷◌, length, map, refl, sym, ap, subst}
use Rattle.std.specs.Prelude.{◌||◌, not, if◌then◌else◌, is_some, option_map}
use Rattle.std.specs.List.{AllByRecursion, list_any}
use Rattle.std.specs.Ordering.{is_eq}
use Rattle.std.specs.declared.cmp.Ordering.TheVariants.{Less}
use Rattle.dbl_model_table.specs.declared.row.Key.{Key}
use Rattle.dbl_model_table.specs.declared.table.RawRow.{RawRow}
use Rattle.dbl_model_table.specs.declared.table.RawTable.{RawTable}
use Rattle.dbl_model_table.specs.declared.table.TableName.{TableName}
use Rattle.dbl_model_table.specs.Keys.{key_cmp, same_key}
use Rattle.dbl_model_table.specs.Tables.{are_distinct}
use Rattle.dbl_model_table.proofs.KeyLemmas.{key_total, same_key-is, same_key-itself}
use Rattle.dbl_model_table.proofs.Lists.{and_both}
use Rattle.dbl_source_log.specs.declared.logged.LogTable.{LogTable}
use Rattle.dbl_source_log.specs.Alterations.{row_among}
use Rattle.dbl_source_log.specs.Texts.{Texts, raw_key, key_in}
use Rattle.dbl_source_log.specs.TextRows.{log_table_named}
use Rattle.dbl_source_log.specs.FitLogs.{IsTextKey}
use Rattle.dbl_tables_rows.specs.declared.demo_table.DemoTable.{DemoTable}
use Rattle.dbl_tables_rows.specs.Acts.{Accepted}
use Rattle.dbl_tables_rows.specs.Seen.{committed_rows}
use Rattle.dbl_tables_rows.specs.Selects.{AreRisingKeys}
use Rattle.dbl_tables_rows.specs.Sending.{raw_of, log_table, log_tables}
use Rattle.dbl_tables_rows.specs.Steps.{FoundTable, found}
use Rattle.dbl_tables_laws.specs.Reachable.{AreTables, IsReachable}
use Rattle.dbl_tables_laws.proofs.StandingLemmas.{its_table}
use Rattle.dbl_tables_altered.specs.declared.alteration.Alteration.{Alteration}
use Rattle.dbl_tables_altered.specs.Alterations.{columns_after, raw_after, row_after}
use Rattle.dbl_tables_epochs.specs.Epochs.{IsTableAfter, AreLoggedRows}
use Rattle.dbl_tables_epochs.specs.Laws.{LoggedRowsAreFit}
use Rattle.dbl_tables_epochs.proofs.KeptLemmas.{key_stays, wide_after, text_key_after}

-- ---- rows in the order of their keys

-- A key up to a bound.
abbrev IsUpToKey : Key → Key → Type 0
IsUpToKey bound key = (key ≡ bound) ⊎ (key_cmp key bound ≡ Less)

module _ (raw : RawTable) where
  abbrev own_key : RawRow → Key
  own_key row = key_in raw row.cells

  -- a key up to a bound is below each key above it
  below : (bound key other : Key) → IsUpToKey bound key → key_cmp bound other ≡ Less → key_cmp key other ≡ Less
  below bound key other (inl same) above = ap (λ (k : Key). key_cmp k other) same ∙ above
  below bound key other (inr less) above = key_total.trans key bound other less above

  another : (key other : Key) → key_cmp key other ≡ Less → same_key key other ≡ false
  another key other less = ap is_eq less

  turned : (key other : Key) → key_cmp key other ≡ Less → same_key other key ≡ false
  turned key other less = by (same_key other key) refl
    where
      by : (b : Bool) → same_key other key ≡ b → b ≡ false
      by true same =
          let contra : true ≡ false = sym (same_key-itself key)
          ∙ (ap (λ (k : Key). same_key key k) (sym (same_key-is other key same)) ∙ another key other less) in
          cc
      by false is = refl

  none_above : (bound key : Key) (rows : List RawRow) → AreRisingKeys raw (Some bound) rows → IsUpToKey bound key
      → list_any (same_key key) (map own_key rows) ≡ false
  none_above bound key [] rising upto = refl
  none_above bound key (row ∷ rows) rising upto =
      let less : key_cmp key (own_key row) ≡ Less = below bound key (own_key row) upto rising.0 in
      ap (λ (b : Bool). b || list_any (same_key key) (map own_key rows)) (another key (own_key row) less)
      ∙ none_above (own_key row) key rows rising.1 (inr less)

  none_found : (bound key : Key) (rows : List RawRow) → AreRisingKeys raw (Some bound) rows → IsUpToKey bound key → row_among raw rows key ≡ None
  none_found bound key [] rising upto = refl
  none_found bound key (row ∷ rows) rising upto =
      let less : key_cmp key (own_key row) ≡ Less = below bound key (own_key row) upto rising.0 in
      ap (λ (b : Bool). if b then Some row.cells else row_among raw rows key) (turned key (own_key row) less)
      ∙ none_found (own_key row) key rows rising.1 (inr less)

  rising_apart : (bound : Option Key) (rows : List RawRow) → AreRisingKeys raw bound rows → are_distinct same_key (map own_key rows) ≡ true
  rising_apart bound [] rising = refl
  rising_apart bound (row ∷ rows) rising =
      and_both (not (list_any (same_key (own_key row)) (map own_key rows))) (are_distinct same_key (map own_key rows))
      (ap not (none_above (own_key row) (own_key row) rows rising.1 (inl refl))) (rising_apart (Some (own_key row)) rows rising.1)

  -- each row is the one at its key
  each_found : (P : RawRow → Type 0) (bound : Option Key) (rows : List RawRow) → AreRisingKeys raw bound rows
      → ((row : RawRow) → row_among raw rows (own_key row) ≡ Some row.cells → P row) → AllByRecursion P rows
  each_found P bound [] rising has = tt
  each_found P bound (row ∷ rows) rising has = (
    has row (ap (λ (b : Bool). if b then Some row.cells else row_among raw rows (own_key row)) (same_key-itself (own_key row))),
    each_found P (Some (own_key row)) rows rising.1 later,
  )
    where
      later : (r : RawRow) → row_among raw rows (own_key r) ≡ Some r.cells → P r
      later r there = by (same_key (own_key row) (own_key r)) refl
        where
          by : (b : Bool) → same_key (own_key row) (own_key r) ≡ b → P r
          by true same =
              let none : row_among raw rows (own_key r)
              ≡ None = none_found (own_key row) (own_key r) rows rising.1 (inl (sym (same_key-is (own_key row) (own_key r) same))) in
              let contra : None ≡ Some r.cells = sym none ∙ there in
              cc
          by false apart = has r (ap (λ (b : Bool). if b then Some row.cells else row_among raw rows (own_key r)) apart ∙ there)

-- ---- an alteration's rows

module _ (tables : List DemoTable) (past : List Accepted) (name : TableName) (at : FoundTable) (after : DemoTable) (alteration : Alteration) (list : List RawRow) (can : AreTables tables) (standing : IsReachable tables past) (there : found tables name ≡ Some at)
    (changed : IsTableAfter alteration at.table after) (logged : AreLoggedRows tables past at alteration list) where
  abbrev raw : RawTable
  raw = raw_of at.table

  abbrev rows : Key → Option Texts
  rows key = committed_rows (log_tables tables) past at.table.info.name key

  named : log_table_named (log_tables tables) at.table.info.name ≡ Some (log_table at.table)
  named = its_table tables past [] name at can standing there

  -- a row that the alteration makes
  made : (key : Key) (row : Texts) → option_map (row_after alteration raw.columns) (rows key) ≡ Some row
      → (length row ≡ length (columns_after alteration raw.columns)) × IsTextKey (raw_after alteration raw) (raw_key (raw_after alteration raw) row)
  made key row is = by (rows key) refl is
    where
      by : (o : Option Texts) → rows key ≡ o → option_map (row_after alteration raw.columns) o ≡ Some row
          → (length row ≡ length (columns_after alteration raw.columns)) × IsTextKey (raw_after alteration raw) (raw_key (raw_after alteration raw) row)
      by None none told = cc
      by (Some r) was told =
          let e : row_after alteration raw.columns r ≡ row = cc in
          let kept = standing.keyed at.table.info.name key r was in
          let same : kept.table ≡ log_table at.table =
          (let has = kept.there in (let own : log_table_named (log_tables tables) at.table.info.name ≡ Some (log_table at.table) = named in cc)) in
          let wide : length r ≡ length raw.columns = kept.wide ∙ ap (λ (t : LogTable). length t.raw.columns) same in
          let text : IsTextKey raw (raw_key raw r) = subst (λ (t : LogTable). IsTextKey t.raw (raw_key t.raw r)) same kept.text_key in
          subst (λ (x : Texts). (length x ≡ length (columns_after alteration raw.columns)) × IsTextKey (raw_after alteration raw)
          (raw_key (raw_after alteration raw) x)) e
          (wide_after alteration raw.columns r wide, text_key_after alteration at.table after changed r wide text)

  mapped_some : (o : Option Texts) → is_some (option_map (row_after alteration raw.columns) o) ≡ is_some o
  mapped_some None = refl
  mapped_some (Some row) = refl

  abbrev IsMade : RawRow → Type 0
  IsMade row = (length row.cells ≡ length (columns_after alteration raw.columns)) × IsTextKey (raw_after alteration raw)
      (raw_key (raw_after alteration raw) row.cells)

  all_made : AllByRecursion IsMade list
  all_made = each_found (raw_after alteration raw) IsMade None list logged.ordered
      (λ row is. made (key_in (raw_after alteration raw) row.cells) row.cells (sym (logged.each (key_in (raw_after alteration raw) row.cells)) ∙ is))

  all_wide : (xs : List RawRow) → AllByRecursion IsMade xs → AllByRecursion (λ row. length row.cells ≡ length (columns_after alteration raw.columns)) xs
  all_wide [] all = tt
  all_wide (x ∷ xs) all = (all.0.0, all_wide xs all.1)

  all_readable : (xs : List RawRow) → AllByRecursion IsMade xs
      → AllByRecursion (λ row. IsTextKey (raw_after alteration raw) (raw_key (raw_after alteration raw) row.cells)) xs
  all_readable [] all = tt
  all_readable (x ∷ xs) all = (all.0.1, all_readable xs all.1)

  same_some : (key : Key) → is_some (row_among (raw_after alteration raw) list key) ≡ is_some (rows key)
  same_some key = ap is_some (logged.each key) ∙ mapped_some (rows key)

pub logged_fit : LoggedRowsAreFit
logged_fit tables past name at after alteration list can standing there changed logged = record {
  keeps = key_stays alteration at.table after changed;
  wide = all_wide tables past name at after alteration list can standing there changed logged list
      (all_made tables past name at after alteration list can standing there changed logged);
  readable = all_readable tables past name at after alteration list can standing there changed logged list
      (all_made tables past name at after alteration list can standing there changed logged);
  distinct = rising_apart (raw_after alteration (raw_of at.table)) None list logged.ordered;
  keys = λ key. (
    λ some. same_some tables past name at after alteration list can standing there changed logged key ∙ some,
    λ some. sym (same_some tables past name at after alteration list can standing there changed logged key) ∙ some,
  );
}
