-- The played source of the example was fair, and isn't after another select.
use Rattle.std.proofs.Common.{◌≡◌, ◌⊎◌, inl, inr, ◌+◌, ◌<◌, ◌^◌, ◌≤◌, ℕ, zero, suc, negsuc, Bool, true, false, cond, List, [], ◌∷◌, length, map, Some, None, refl, sym, ap, subst, arith, length-append, FitsSigned, w32}
use Rattle.std.specs.Prelude.{IsTrue, IsSomeAnd, IfSome, if◌then◌else◌, slice_get, slice_index_or, codes}
use Rattle.std.specs.List.{flat_map}
use Rattle.std.specs.Str.{IsUtf8}
use Rattle.json.proofs.Printed.Utf8.{IsUtf8-are_ascii}
use Rattle.jiff_core.proofs.SignedLemmas.{signed_arith, fits_between}
use Rattle.dbl_pgmsg.specs.declared.messages.Message.{Message}
use Rattle.dbl_pgmsg.specs.declared.messages.Message.TheVariants.{Insert}
use Rattle.dbl_pgmsg.specs.declared.messages.RelationColumn.{RelationColumn}
use Rattle.dbl_pgmsg.specs.declared.messages.Tuple.{Tuple}
use Rattle.dbl_pgmsg.specs.declared.messages.TupleCell.TheVariants.{Text}
use Rattle.dbl_pgmsg.specs.Grammar.{string, tuple, column, spelling, IsString, Fits}
use Rattle.dbl_pgmsg.specs.Grammar.{cell as spelled_cell}
use Rattle.dbl_pgmsg.proofs.Sizes.{text_size, string_size, tuple_size, column_size}
use Rattle.dbl_pgmsg.proofs.MessageSizes.{relation_size, insert_size}
use Rattle.dbl_model_table.specs.Value.declared.column_type.PgType.TheVariants as type
use Rattle.dbl_model_table.specs.Value.declared.value.Val.{Val}
use Rattle.dbl_model_table.specs.Value.declared.value.Val.TheVariants as val
use Rattle.dbl_model_table.specs.Value.Types.{type_of}
use Rattle.dbl_model_table.specs.Value.Values.{IsOf}
use Rattle.dbl_model_table.specs.declared.row.Key.{Key}
use Rattle.dbl_model_table.specs.declared.table.TableInfo.{TableInfo}
use Rattle.dbl_model_table.specs.Tables.{same_name, are_distinct}
use Rattle.dbl_model_table.specs.Infos.{IsInfoOf, number_of}
use Rattle.dbl_model_table.specs.Keys.{same_key}
use Rattle.dbl_model_table.specs.Rows.{at_key, row_after}
use Rattle.dbl_model_table.specs.Rows.Effect.{Whole}
use Rattle.dbl_model_table.proofs.InfoLemmas.{one_info}
use Rattle.dbl_model_table.proofs.KeyLemmas.{same_key-is}
use Rattle.dbl_model_table.specs.declared.table.RawRow.{RawRow}
use Rattle.dbl_source_model.specs.ModelHistory.History.{History}
use Rattle.dbl_source_model.specs.ModelHistory.Fit.{AreInfosOf}
use Rattle.dbl_source_model.specs.ModelCommit.Stated.{row_stated, err_of, stated_in}
use Rattle.dbl_source_model.specs.ModelCommit.Tuples.{change_of, row_of as row_read, given_cell, spelled_value}
use Rattle.dbl_source_model.specs.Stated.{MayStand}
use Rattle.dbl_source_model.specs.Selected.{rows_up_to, AreFirstOf, AreAnswered}
use Rattle.dbl_source_log.specs.declared.logged.LogTable.{LogTable}
use Rattle.dbl_source_log.specs.declared.logged.Logged.{Logged}
use Rattle.dbl_source_log.specs.declared.logged.Logged.TheVariants.{Changes, Mark}
use Rattle.dbl_source_log.specs.Relations.{first_oid, relation_column, relation_message}
use Rattle.dbl_source_log.specs.Alterations.{IsUnaltered}
use Rattle.dbl_source_log.specs.Sent.{oids_of, onto_relations}
use Rattle.dbl_source_log.specs.Texts.{key_in}
use Rattle.dbl_source_log.specs.TextRows.{TextRows, no_text_rows}
use Rattle.dbl_source_log.specs.Histories.{text_rows_at, history_of}
use Rattle.dbl_source_log.specs.FitLogs.{IsFitEntry, AreFitLog}
use Rattle.dbl_source_log.specs.Fair.{IsChangeOf, HasFewFaults, IsFairLog}
use Rattle.dbl_source_model.proofs.PlainLemmas.{version_kept, typed_rows, rows_of_typed}
use Rattle.dbl_source_log.proofs.LogLemmas.{keeps_columns}
use Rattle.dbl_source_log.proofs.FitLogLemmas.{fit_histories}
use Rattle.dbl_source_scripted.specs.declared.asked.Asked.{Asked}
use Rattle.dbl_source_scripted.specs.Played.{keyed_table, question_of}
use Rattle.dbl_source_model.specs.declared.selected.Selected.{Selected}
use Rattle.dbl_source_scripted.specs.Fairness.{IsAnswered, no_rows_selected}
use Rattle.dbl_source_scripted.specs.Steps.{WasFair}
use Rattle.dbl_source_scripted.specs.FairExample.{example_source_name, example_raw_table, first_version, inserting, row_of, read_example, first_example, last_example, stale_example, FairSourcesStand}

-- ---- the source

abbrev tables : List LogTable
tables = keyed_table example_raw_table ∷ []

abbrev log : List Logged
log = Mark (codes "1-1-L") ∷ Changes (inserting (codes "a")) ∷ Changes (inserting (codes "b")) ∷ []

abbrev history : History
history = history_of tables log

abbrev tuple_of : List ℕ → Tuple
tuple_of text = record { cells = Text text ∷ [] }

abbrev inserted : List ℕ → Message
inserted text = Insert first_oid (tuple_of text)

-- ---- texts

plain_a : IsUtf8 (codes "a")
plain_a = IsUtf8-are_ascii (codes "a") refl

plain_b : IsUtf8 (codes "b")
plain_b = IsUtf8-are_ascii (codes "b") refl

plain_k : IsUtf8 (codes "k")
plain_k = IsUtf8-are_ascii (codes "k") refl

plain_s : IsUtf8 (codes "s")
plain_s = IsUtf8-are_ascii (codes "s") refl

plain_t : IsUtf8 (codes "t")
plain_t = IsUtf8-are_ascii (codes "t") refl

letter : (b : ℕ) → 0 < b → IsUtf8 (b ∷ []) → IsString (b ∷ [])
letter b some plain = record { utf8 = plain; no_zero = (λ is. omega (arith, some, is), tt) }

not_empty : (b : ℕ) (bs : List ℕ) → b ∷ bs ≡ [] → ⊥
not_empty b bs is = cc

-- ---- what can be captured of it: its table, or nothing

abbrev info_of : TableInfo
info_of = record {
  name = example_source_name;
  columns = record { name = codes "k"; ty = type.Text } ∷ [];
  key = 0 ∷ [];
  -- the name is good, and the key is a column
  sound = λ i. true;
}

its_info : (b : Bool) (info : TableInfo) → IsSomeAnd (cond b (Some example_raw_table) None) (λ raw. IsInfoOf raw info) → info ≡ info_of
its_info true info is = one_info example_raw_table info info_of is refl
its_info false info is = absurd is

twice : (a b : TableInfo) (infos : List TableInfo) → a ≡ info_of → b ≡ info_of → IsTrue (are_distinct same_name (map (λ (i : TableInfo). i.name) (a ∷ b ∷ infos))) → ⊥
twice a b infos first second apart =
    let one : IsTrue (are_distinct same_name (map (λ (i : TableInfo). i.name) (info_of ∷ b ∷ infos))) =
    subst (λ (x : TableInfo). IsTrue (are_distinct same_name (map (λ (i : TableInfo). i.name) (x ∷ b ∷ infos)))) first apart in
    let both : false ≡ true = subst (λ (x : TableInfo). IsTrue (are_distinct same_name (map (λ (i : TableInfo). i.name) (info_of ∷ x ∷ infos)))) second one in
    cc

captured : (commits : List Logged) (infos : List TableInfo) → AreInfosOf (history_of tables commits) infos → (infos ≡ []) ⊎ (infos ≡ info_of ∷ [])
captured commits [] are = inl refl
captured commits (a ∷ []) are = inr (ap (λ (x : TableInfo). x ∷ []) (its_info (same_name example_source_name a.name) a are.each.0))
captured commits (a ∷ b ∷ infos) are = absurd (twice a b infos (its_info (same_name example_source_name a.name) a are.each.0) (its_info (same_name example_source_name b.name) b are.each.1.0) are.distinct)

itself : AreInfosOf history (info_of ∷ [])
itself = record { distinct = refl; each = (refl, tt) }

-- ---- its history is fit

no_alteration : IsUnaltered log
no_alteration = (tt, (tt, (tt, tt)))

insert_fits : (rows : TextRows) (text : List ℕ) → IsUtf8 text → rows example_source_name (key_in example_raw_table (Some text ∷ [])) ≡ None → IsFitEntry tables rows (Changes (inserting text))
unfolding type_of
insert_fits rows text plain none = record {
  ranges = (omega arith, ((record { schema = plain_s; name = plain_t }, (plain, tt)), tt));
  changes = ((refl, record { wide = refl; key = (refl, tt); absent = none }), tt);
  alters = tt;
}

fit_log : AreFitLog tables log
unfolding type_of
fit_log = record {
  short = omega arith;
  ranges = (record { name = record { schema = plain_s; name = plain_t }; columns = (record { name = plain_k; oid = omega arith }, tt); key = (plain_k, tt); version = (omega arith, omega arith) }, tt);
  opening = (refl, tt);
  distinct = refl;
  unaltered = no_alteration;
  entries = (
    record { ranges = IsUtf8-are_ascii (codes "1-1-L") refl; changes = tt; alters = tt },
    (insert_fits no_text_rows (codes "a") plain_a refl, (insert_fits (text_rows_at tables no_text_rows (Changes (inserting (codes "a")))) (codes "b") plain_b refl, tt)),
  );
}

-- ---- its log is such as a server sends

abbrev columns : List RelationColumn
columns = map (relation_column (keyed_table example_raw_table)) example_raw_table.columns

relation_short : length (spelling (relation_message first_oid (keyed_table example_raw_table))) ≤ 16777216
relation_short =
    let whole : length (spelling (relation_message first_oid (keyed_table example_raw_table))) ≡ 5 + (length (string (codes "s")) + length (string (codes "t"))) + (3 + length (flat_map column columns)) = relation_size first_oid (codes "s") (codes "t") 100 columns in
    let schema : length (string (codes "s")) ≡ 2 = string_size (codes "s") in
    let name : length (string (codes "t")) ≡ 2 = string_size (codes "t") in
    let given : RelationColumn = relation_column (keyed_table example_raw_table) (record { name = codes "k"; oid = 25 }) in
    let all : length (flat_map column columns) ≡ length (column given) + 0 = length-append (column given) [] in
    let one : length (column given) ≡ 9 + length (string (codes "k")) = column_size given in
    let named : length (string (codes "k")) ≡ 2 = string_size (codes "k") in
    omega (arith, whole, schema, name, all, one, named)

small : 1 < 2 ^ 8
small = omega arith

minus_one : FitsSigned w32 (negsuc 0)
minus_one = fits_between w32 (negsuc 0) (omega (arith, signed_arith), omega (arith, signed_arith))

relation_fits : Fits (relation_message first_oid (keyed_table example_raw_table))
relation_fits = record {
  fields = (
    omega arith,
    letter 115 (omega arith) plain_s,
    letter 116 (omega arith) plain_t,
    refl,
    omega arith,
    (record { flags = small; name = letter 107 (omega arith) plain_k; oid = omega arith; modifier = minus_one }, tt),
  );
  short = relation_short;
}

insert_short : (text : List ℕ) → length text ≡ 1 → length (spelling (inserted text)) ≤ 16777216
insert_short text single =
    let whole : length (spelling (inserted text)) ≡ 6 + length (tuple (tuple_of text)) = insert_size first_oid (tuple_of text) in
    let row : length (tuple (tuple_of text)) ≡ 2 + length (flat_map spelled_cell (Text text ∷ [])) = tuple_size (tuple_of text) in
    let all : length (flat_map spelled_cell (Text text ∷ [])) ≡ length (spelled_cell (Text text)) + 0 = length-append (spelled_cell (Text text)) [] in
    let one : length (spelled_cell (Text text)) ≡ 5 + length text = text_size text in
    omega (arith, whole, row, all, one, single)

change_of_table : (text : List ℕ) → IsUtf8 text → length text ≡ 1 → IsChangeOf tables (inserted text)
change_of_table text plain single = record {
  change = tt;
  fits = record {
    fields = (omega arith, record { count = omega arith; each = (record { utf8 = plain; short = omega (arith, single) }, tt) });
    short = insert_short text single;
  };
  known = (refl, tt);
}

-- for every list of captured tables, an insert states its row
abbrev Stands : List ℕ → List TableInfo → Type 0
Stands text infos = MayStand (err_of (stated_in infos (inserted text) (onto_relations tables (oids_of (inserted text)) []) None false))

stands_alone : (text : List ℕ) → Stands text (info_of ∷ [])
unfolding row_stated change_of row_read given_cell spelled_value
stands_alone text = tt

few_faults : (text : List ℕ) → HasFewFaults tables (inserted text)
unfolding row_stated
few_faults text infos are = elim (captured [] infos are) [
  | inl none ↦ subst (Stands text) (sym none) tt
  | inr alone ↦ subst (Stands text) (sym alone) (stands_alone text)
]

fair_log : IsFairLog tables log
fair_log = record {
  named = record { schemas = (not_empty 115 [], tt); distinct = refl };
  relations = (relation_fits, tt);
  unaltered = no_alteration;
  entries = (tt, (((change_of_table (codes "a") plain_a refl, few_faults (codes "a")), tt), (((change_of_table (codes "b") plain_b refl, few_faults (codes "b")), tt), tt)));
}

-- ---- the rows of its select are those of a position of the call: before the inserts, between them, and after them

abbrev keyed : List ℕ → Key
keyed text = record { cells = val.Text text ∷ [] }

text_of_type : (text : List ℕ) → IsUtf8 text → IsOf type.Text (val.Text text)
text_of_type text plain = record { text = text; utf8 = plain; spells = refl }

one_row : (b : Bool) (cells : List Val) → (if b then Some cells else None) ≡ row_after (at_key true b (Whole cells)) None
one_row true cells = refl
one_row false cells = refl

first_row : AreFirstOf (info_of ∷ []) 0 info_of (rows_up_to (info_of ∷ []) history 2) None 10 (row_of (codes "a") ∷ [])
first_row = record {
  captured = refl;
  none_above = λ never. absurd (never tt);
  first = λ above. record {
    keys = ((text_of_type (codes "a") plain_a, tt), tt);
    ordered = (tt, tt);
    few = omega arith;
    right = λ key is_key subsequent range. one_row (same_key (keyed (codes "a")) key) (val.Text (codes "a") ∷ []);
  };
}

abbrev AreRows : ℕ → List RawRow → List TableInfo → Type 0
AreRows place rows infos = IfSome (number_of infos example_source_name) (λ table. (info : TableInfo) × AreFirstOf infos table info (rows_up_to infos history place) None 10 rows)

-- none before the first insert
empty : AreFirstOf (info_of ∷ []) 0 info_of (rows_up_to (info_of ∷ []) history 1) None 10 []
empty = record {
  captured = refl;
  none_above = λ never. refl;
  first = λ above. record { keys = tt; ordered = tt; few = omega arith; right = λ key is_key subsequent range. refl };
}

-- both after the second one: no key is that of both
apart : (key : Key) → same_key (keyed (codes "a")) key ≡ true → same_key (keyed (codes "b")) key ≡ true → ⊥
apart key first second =
    let other : false ≡ true = subst (λ (k : Key). same_key (keyed (codes "b")) k ≡ true) (sym (same_key-is (keyed (codes "a")) key first)) second in
    cc

two_rows : (p q : Bool) (a b : List Val) → (p ≡ true → q ≡ true → ⊥) → (if p then Some a else (if q then Some b else None)) ≡ row_after (at_key true q (Whole b)) (row_after (at_key true p (Whole a)) None)
two_rows true true a b never = absurd (never refl refl)
two_rows true false a b never = refl
two_rows false true a b never = refl
two_rows false false a b never = refl

both_rows : AreFirstOf (info_of ∷ []) 0 info_of (rows_up_to (info_of ∷ []) history 3) None 10 (row_of (codes "a") ∷ row_of (codes "b") ∷ [])
both_rows = record {
  captured = refl;
  none_above = λ never. absurd (never tt);
  first = λ above. record {
    keys = ((text_of_type (codes "a") plain_a, tt), ((text_of_type (codes "b") plain_b, tt), tt));
    ordered = (tt, (refl, tt));
    few = omega arith;
    right = λ key is_key subsequent range. two_rows (same_key (keyed (codes "a")) key) (same_key (keyed (codes "b")) key) (val.Text (codes "a") ∷ []) (val.Text (codes "b") ∷ []) (apart key);
  };
}

has_table : (rows : List RawRow) → Some example_raw_table ≡ None → rows ≡ []
has_table rows none = cc

at_place : (place : ℕ) (rows : List RawRow) → 1 ≤ place → place ≤ 3 → AreFirstOf (info_of ∷ []) 0 info_of (rows_up_to (info_of ∷ []) history place) None 10 rows → AreAnswered history 1 3 example_source_name None 10 (first_version rows)
at_place place rows low high first = record {
  absent = has_table rows;
  place = place;
  not_before = low;
  not_after = high;
  version = sym (version_kept history place example_source_name (keeps_columns tables log no_alteration) (refl, tt));
  are = rows_of_typed history place example_source_name None 10 rows (keeps_columns tables log no_alteration) (λ infos are. elim (captured log infos are) [
    | inl none ↦ subst (AreRows place rows) (sym none) tt
    | inr alone ↦ subst (AreRows place rows) (sym alone) (info_of, first)
  ]);
}

answered : (rows : List RawRow) (later : List Selected) → AreAnswered history 1 3 example_source_name None 10 (first_version rows) → (n : ℕ) (question : Asked) → slice_get read_example.asked n ≡ Some question
    → IsAnswered tables log question (slice_index_or (first_version rows ∷ later) n no_rows_selected)
answered rows later are zero question is =
    let found : Some (question_of example_source_name None 10 1 3) ≡ Some question = is in
    let same : question_of example_source_name None 10 1 3 ≡ question = cc in
    subst (λ (q : Asked). IsAnswered tables log q (first_version rows)) same are
answered rows later are (suc n) question is = let none : None ≡ Some question = is in cc

was_fair : WasFair read_example
was_fair = record {
  fit = fit_histories tables log fit_log;
  changes = fair_log;
  selects = answered (row_of (codes "a") ∷ []) (first_version (row_of (codes "a") ∷ []) ∷ []) (at_place 2 (row_of (codes "a") ∷ []) (omega arith) (omega arith) first_row);
}

was_fair_first : WasFair first_example
was_fair_first = record {
  fit = fit_histories tables log fit_log;
  changes = fair_log;
  selects = answered [] [] (at_place 1 [] (omega arith) (omega arith) empty);
}

was_fair_last : WasFair last_example
was_fair_last = record {
  fit = fit_histories tables log fit_log;
  changes = fair_log;
  selects = answered (row_of (codes "a") ∷ row_of (codes "b") ∷ []) [] (at_place 3 (row_of (codes "a") ∷ row_of (codes "b") ∷ []) (omega arith) (omega arith) both_rows);
}

-- ---- after the next select b has a row, which isn't answered

is_stale : WasFair stale_example → ⊥
is_stale fair =
    let infos : List TableInfo = info_of ∷ [] in
    let rows : AreAnswered history 3 3 example_source_name None 10 (first_version (row_of (codes "a") ∷ [])) = fair.selects 1 (question_of example_source_name None 10 3 3) refl in
    let place : rows.place ≡ 3 = omega (arith, rows.not_before, rows.not_after) in
    let own : (info : TableInfo) × AreFirstOf infos 0 info (rows_up_to infos history rows.place) None 10 (row_of (codes "a") ∷ []) =
    typed_rows history rows.place example_source_name None 10 (row_of (codes "a") ∷ []) infos (keeps_columns tables log no_alteration) itself rows.are in
    let there : Some info_of ≡ Some own.0 = own.1.captured in
    let same : own.0 ≡ info_of = cc in
    let its : AreFirstOf infos 0 info_of (rows_up_to infos history rows.place) None 10 (row_of (codes "a") ∷ []) =
    subst (λ (info : TableInfo). AreFirstOf infos 0 info (rows_up_to infos history rows.place) None 10 (row_of (codes "a") ∷ [])) same own.1 in
    let now : AreFirstOf infos 0 info_of (rows_up_to infos history 3) None 10 (row_of (codes "a") ∷ []) =
    subst (λ (p : ℕ). AreFirstOf infos 0 info_of (rows_up_to infos history p) None 10 (row_of (codes "a") ∷ [])) place its in
    let fewer : 1 < 10 = omega arith in
    let told : None ≡ Some (val.Text (codes "b") ∷ []) = (now.first tt).right (keyed (codes "b")) (text_of_type (codes "b") plain_b, tt) tt (inl fewer) in
    cc

pub fair_stands : FairSourcesStand
fair_stands = (was_fair, was_fair_first, was_fair_last, is_stale)
