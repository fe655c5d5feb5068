-- Each Relation that is read of a log that alters no table has the table's own columns, for any captured tables of the catalogue.
use Rattle.std.proofs.Common.{◌≡◌, ◌∙◌, ◌+◌, ◌-◌, ℕ, zero, suc, Bool, true, false, Option, Some, None, List, [], ◌∷◌, ◌++◌, length, map, take, drop, refl, sym, ap, subst, arith}
use Rattle.std.specs.Prelude.{◌≢◌, ◌==◌, ◌&&◌, not, if◌then◌else◌, nat_lt, find, slice_get, option_map}
use Rattle.std.specs.List.{AllByRecursion, list_all, list_any, zip}
use Rattle.std.proofs.lemmas.Bool.Decides.{nat_tests}
use Rattle.std.proofs.lemmas.List.{length-map}
use Rattle.dbl_pgmsg.specs.declared.messages.Message.{Message}
use Rattle.dbl_pgmsg.specs.declared.messages.Message.TheVariants as says
use Rattle.dbl_model_table.specs.declared.table.Column.{Column}
use Rattle.dbl_model_table.specs.declared.table.RawTable.{RawTable}
use Rattle.dbl_model_table.specs.declared.table.TableInfo.{TableInfo}
use Rattle.dbl_model_table.specs.declared.table.TableName.{TableName}
use Rattle.dbl_model_table.specs.Tables.{is_watermark, same_name, are_distinct}
use Rattle.dbl_model_table.specs.Infos.{number_of, raw_column}
use Rattle.dbl_model_table.proofs.InfoLemmas.{not_true}
use Rattle.dbl_model_table.proofs.Lists.{and_left, and_right, or_false, text_itself}
use Rattle.dbl_source_model.specs.ModelHistory.Fit.{AreInfosOf}
use Rattle.dbl_source_model.specs.ModelCommit.declared.message_parts.Target.TheVariants.{Watermark}
use Rattle.dbl_source_model.specs.ModelCommit.declared.txn_error.TxnError.TheVariants as errors
use Rattle.dbl_source_model.specs.ModelCommit.Past.{table_named}
use Rattle.dbl_source_model.specs.ModelCommit.Stated.{captured_at, columns_fault, list_of, same_column, same_columns, schema_fault}
use Rattle.dbl_source_model.specs.ModelCommit.Shaped.{HasOwnColumns}
use Rattle.dbl_source_log.specs.declared.logged.LogTable.{LogTable}
use Rattle.dbl_source_log.specs.declared.logged.Logged.{Logged}
use Rattle.dbl_source_log.specs.declared.logged.Logged.TheVariants.{Changes, Mark, Alter}
use Rattle.dbl_source_log.specs.declared.reader_position.ReaderPosition.{ReaderPosition}
use Rattle.dbl_source_log.specs.Alterations.{IsUnaltered, tables_after, tables_through}
use Rattle.dbl_source_log.specs.Fair.{AreNamed, IsChange, IsChangeOf, HasFewFaults, AreFairEntries, IsFairLog}
use Rattle.dbl_source_log.specs.Histories.{history_of}
use Rattle.dbl_source_log.specs.Numbers.{commits_upto}
use Rattle.dbl_source_log.specs.Relations.{first_oid, watermark_oid, table_at, relation_column, relation_message, watermark_relation, relation_at}
use Rattle.dbl_source_log.specs.Sent.{is_described, oids_of, messages_in, onto_relation, onto_relations, begin_message, commit_message, told_changes, told_commit, told_from, told_at}
use Rattle.dbl_source_log.specs.TextRows.{log_table_named}
use Rattle.dbl_source_log.proofs.AlterationLemmas.{take_unaltered, unaltered_drop}
use Rattle.dbl_source_log.proofs.RelationLemmas.{all_at, table_relation}
use Rattle.dbl_source_log.proofs.RowTexts.{here_at}
use Rattle.dbl_source_log.proofs.SentLemmas.{IsOnTop, at_front}
use Rattle.dbl_source_log.proofs.ThemselvesLemmas.{name_itself}

number_itself : (a : ℕ) → (a == a) ≡ true
number_itself a = grind (arith, nat_tests)

-- ---- tables by name

abbrev names_in : List LogTable → List TableName
names_in tables = map (λ (t : LogTable). t.raw.name) tables

not_among : (ts : List LogTable) (i : ℕ) (t : LogTable) (name : TableName) → list_any (same_name name) (names_in ts) ≡ false → slice_get ts i ≡ Some t → same_name name t.raw.name ≡ false
not_among [] i t name none there = cc
not_among (u ∷ ts) zero t name none there =
    let e : u ≡ t = cc in
    ap (λ (x : LogTable). same_name name x.raw.name) (sym e) ∙ (or_false (same_name name u.raw.name) (list_any (same_name name) (names_in ts)) none).0
not_among (u ∷ ts) (suc i) t name none there = not_among ts i t name (or_false (same_name name u.raw.name) (list_any (same_name name) (names_in ts)) none).1 there

-- where names are distinct, a table is the one of its name
named_there : (ts : List LogTable) (i : ℕ) (t : LogTable) → are_distinct same_name (names_in ts) ≡ true → slice_get ts i ≡ Some t → log_table_named ts t.raw.name ≡ Some t
named_there [] i t distinct there = cc
named_there (u ∷ ts) zero t distinct there =
    let e : u ≡ t = cc in
    ap (λ (x : LogTable). if same_name u.raw.name x.raw.name then Some u else find (λ (y : LogTable). same_name y.raw.name x.raw.name) ts) (sym e)
    ∙ ap (λ (b : Bool). if b then Some u else find (λ (y : LogTable). same_name y.raw.name u.raw.name) ts) (name_itself u.raw.name)
    ∙ ap (λ (x : LogTable). Some x) e
named_there (u ∷ ts) (suc i) t distinct there =
    let none : list_any (same_name u.raw.name) (names_in ts) ≡ false = not_true (list_any (same_name u.raw.name) (names_in ts)) (and_left (not (list_any (same_name u.raw.name) (names_in ts))) (are_distinct same_name (names_in ts)) distinct) in
    ap (λ (b : Bool). if b then Some u else find (λ (y : LogTable). same_name y.raw.name t.raw.name) ts) (not_among ts i t u.raw.name none there)
    ∙ named_there ts i t (and_right (not (list_any (same_name u.raw.name) (names_in ts))) (are_distinct same_name (names_in ts)) distinct) there

-- ---- the columns of a table's Relation are the table's

columns_each : (table : LogTable) (columns : List Column) → list_all same_column (zip columns (map (relation_column table) (map raw_column columns))) ≡ true
columns_each table [] = refl
columns_each table (c ∷ columns) = rw (text_itself c.name, number_itself (raw_column c).oid, columns_each table columns) refl

columns_same : (table : LogTable) (columns : List Column) → same_columns columns (map (relation_column table) (map raw_column columns)) ≡ true
columns_same table columns =
    let long : length (map (relation_column table) (map raw_column columns)) ≡ length columns =
    length-map (map raw_column columns) (relation_column table) ∙ length-map columns raw_column in
    ap (λ (n : ℕ). (length columns == n) && list_all same_column (zip columns (map (relation_column table) (map raw_column columns)))) long
    ∙ ap (λ (b : Bool). b && list_all same_column (zip columns (map (relation_column table) (map raw_column columns)))) (number_itself (length columns))
    ∙ columns_each table columns

name_is : (schema name : List ℕ) → (schema ≡ [] → ⊥) → table_named schema name ≡ (let n : TableName = record { schema = schema; name = name } in n)
name_is [] name some = absurd (some refl)
name_is (c ∷ cs) name some = refl

module _ (tables : List LogTable) (infos : List TableInfo) (named : AreNamed tables) (captured : AreInfosOf (history_of tables []) infos) where
  captured_own : (i : ℕ) (table : LogTable) (n : ℕ) → slice_get tables i ≡ Some table → is_watermark table.raw.name ≡ false → number_of infos table.raw.name ≡ Some n
      → columns_fault (slice_get infos n) (table_relation table) ≡ None
  captured_own i table n there plain is =
      let h = here_at tables infos captured table.raw.name n plain is in
      let both : Some h.table ≡ Some table = sym h.found ∙ named_there tables i table named.distinct there in
      let same : h.table ≡ table = cc in
      let entry : map raw_column h.info.columns ≡ table.raw.columns = ap (λ (r : RawTable). r.columns) h.is_info ∙ ap (λ (t : LogTable). t.raw.columns) same in
      let equal : same_columns h.info.columns (table_relation table).columns ≡ true =
      ap (same_columns h.info.columns) (ap (map (relation_column table)) (sym entry)) ∙ columns_same table h.info.columns in
      ap (λ (o : Option TableInfo). columns_fault o (table_relation table)) h.there
      ∙ ap (λ (b : Bool). if b then None else Some (errors.SchemaChanged (table_relation table).name)) equal

  table_own : (oid i : ℕ) (table : LogTable) → slice_get tables i ≡ Some table → HasOwnColumns infos (relation_message oid table)
  table_own oid i table there =
      let some : table.raw.name.schema ≢ [] = all_at (λ (t : LogTable). t.raw.name.schema ≢ []) tables i table named.schemas there in
      ap (λ (n : TableName). schema_fault infos (table_relation table) (if is_watermark n then Watermark else captured_at (number_of infos n))) (name_is table.raw.name.schema table.raw.name.name some)
      ∙ by (is_watermark table.raw.name) refl
    where
      by_number : (o : Option ℕ) → is_watermark table.raw.name ≡ false → number_of infos table.raw.name ≡ o → schema_fault infos (table_relation table) (captured_at o) ≡ None
      by_number None plain is = refl
      by_number (Some n) plain is = captured_own i table n there plain is

      by : (b : Bool) → is_watermark table.raw.name ≡ b → schema_fault infos (table_relation table) (if b then Watermark else captured_at (number_of infos table.raw.name)) ≡ None
      by true mark = refl
      by false plain = by_number (number_of infos table.raw.name) plain refl

  at_own : (oid : ℕ) (b : Bool) (m : Message) → option_map (relation_message oid) (if b then None else slice_get tables (oid - first_oid)) ≡ Some m → HasOwnColumns infos m
  at_own oid true m is = cc
  at_own oid false m is = by (slice_get tables (oid - first_oid)) refl is
    where
      by : (o : Option LogTable) → slice_get tables (oid - first_oid) ≡ o → option_map (relation_message oid) o ≡ Some m → HasOwnColumns infos m
      by None at is = cc
      by (Some table) at is =
          let same : relation_message oid table ≡ m = cc in
          subst (HasOwnColumns infos) same (table_own oid (oid - first_oid) table at)

  -- a Relation of the log has its table's columns
  relation_own : (oid : ℕ) (m : Message) → relation_at tables oid ≡ Some m → HasOwnColumns infos m
  relation_own oid m is = by (oid == watermark_oid) is
    where
      by : (b : Bool) → (if b then Some watermark_relation else option_map (relation_message oid) (table_at tables oid)) ≡ Some m → HasOwnColumns infos m
      by true is =
          let same : watermark_relation ≡ m = cc in
          subst (HasOwnColumns infos) same refl
      by false is = at_own oid (nat_lt oid first_oid) m is

  -- ---- what is read

  abbrev Own : List Message → Type 0
  Own ms = AllByRecursion (HasOwnColumns infos) ms

  onto_own : (oid : ℕ) (past : List Message) → Own past → Own (onto_relation tables oid past)
  onto_own oid past own = by (is_described tables oid past)
    where
      by_one : (o : Option Message) → relation_at tables oid ≡ o → Own (list_of o ++ past)
      by_one None is = own
      by_one (Some m) is = (relation_own oid m is, own)

      by : (b : Bool) → Own (if b then past else list_of (relation_at tables oid) ++ past)
      by true = own
      by false = by_one (relation_at tables oid) refl

  all_own : (oids : List ℕ) (past : List Message) → Own past → Own (onto_relations tables oids past)
  all_own [] past own = own
  all_own (oid ∷ oids) past own = all_own oids (onto_relation tables oid past) (onto_own oid past own)

  change_own : (m : Message) → IsChange m → HasOwnColumns infos m
  change_own (says.Insert oid r) change = tt
  change_own (says.Update oid before r) change = tt
  change_own (says.Delete oid before) change = tt
  change_own (says.Truncate options oids) change = tt
  change_own (says.Begin l t x) change = absurd change
  change_own (says.Commit f l e t) change = absurd change
  change_own (says.Origin l n) change = absurd change
  change_own (says.TypeName o n m) change = absurd change
  change_own (says.Relation o n m i c) change = absurd change
  change_own (says.Logical f l p c) change = absurd change

  changes_own : (ms past : List Message) → AllByRecursion IsChange ms → Own past → Own (told_changes tables ms past)
  changes_own [] past all own = own
  changes_own (m ∷ ms) past all own = changes_own ms (m ∷ onto_relations tables (oids_of m) past) all.1 (change_own m all.0, all_own (oids_of m) past own)

  commit_own : (n : ℕ) (entry : Logged) (past : List Message) → AllByRecursion IsChange (messages_in entry) → Own past → Own (told_commit tables n entry past)
  commit_own n entry past all own = (tt, changes_own (messages_in entry) (begin_message n ∷ past) all (tt, own))

  log_own : (n : ℕ) (log : List Logged) (past : List Message) → IsUnaltered log → AllByRecursion (λ entry. AllByRecursion IsChange (messages_in entry)) log → Own past → Own (told_from tables n log past)
  log_own n [] past kept all own = own
  log_own n (Changes ms ∷ log) past kept all own = log_own (n + 1) log (told_commit tables n (Changes ms) past) kept.1 all.1 (commit_own n (Changes ms) past all.0 own)
  log_own n (Mark value ∷ log) past kept all own = log_own (n + 1) log (told_commit tables n (Mark value) past) kept.1 all.1 (commit_own n (Mark value) past all.0 own)
  log_own n (Alter name columns rows ∷ log) past kept all own = absurd kept.0

-- ---- the messages of a fair log's commits are changes

are_changes : (tables : List LogTable) (ms : List Message) → AllByRecursion (λ message. IsChangeOf tables message × HasFewFaults tables message) ms → AllByRecursion IsChange ms
are_changes tables [] all = tt
are_changes tables (m ∷ ms) all = (all.0.0.change, are_changes tables ms all.1)

all_changes : (tables : List LogTable) (log : List Logged) → AreFairEntries tables log → AllByRecursion (λ entry. AllByRecursion IsChange (messages_in entry)) log
all_changes tables [] fair = tt
all_changes tables (Changes ms ∷ log) fair = (are_changes tables ms fair.0, all_changes tables log fair.1)
all_changes tables (Mark value ∷ log) fair = ((tt, tt), all_changes tables log fair.1)
all_changes tables (Alter name columns rows ∷ log) fair = (tt, all_changes (tables_after (Alter name columns rows) tables) log fair.1)

after_all : {A : Type 0} (P : A → Type 0) (n : ℕ) (xs : List A) → AllByRecursion P xs → AllByRecursion P (drop n xs)
after_all P zero xs all = all
after_all P (suc n) [] all = tt
after_all P (suc n) (x ∷ xs) all = after_all P n xs all.1

before_all : {A : Type 0} (P : A → Type 0) (more past : List A) → AllByRecursion P (more ++ past) → AllByRecursion P past
before_all P [] past all = all
before_all P (x ∷ more) past all = before_all P more past all.1

pub told_own : (tables : List LogTable) (log : List Logged) (place : ReaderPosition) (infos : List TableInfo) → IsFairLog tables log → AreInfosOf (history_of tables log) infos
    → AllByRecursion (HasOwnColumns infos) (told_at tables log place)
told_own tables log place infos fair captured =
    before_all (HasOwnColumns infos) front.more (told_at tables log place) (subst (AllByRecursion (HasOwnColumns infos)) front.is whole)
  where
    first : ℕ
    first = commits_upto place.after

    front : IsOnTop (told_at tables log place) (told_from (tables_through (take first log) tables) (first + 1) (drop first log) [])
    front = at_front tables log place

    whole : AllByRecursion (HasOwnColumns infos) (told_from (tables_through (take first log) tables) (first + 1) (drop first log) [])
    whole =
        subst (λ (ts : List LogTable). AllByRecursion (HasOwnColumns infos) (told_from ts (first + 1) (drop first log) [])) (sym (take_unaltered first log tables fair.unaltered))
        (log_own tables infos fair.named (record { distinct = captured.distinct; each = captured.each }) (first + 1) (drop first log) [] (unaltered_drop first log fair.unaltered)
        (after_all (λ (entry : Logged). AllByRecursion IsChange (messages_in entry)) first log (all_changes tables log fair.entries)) tt)
