-- Aged records at other moments and in longer histories, and none at the start.
use Rattle.std.proofs.Common.{◌≡◌, ◌∙◌, inl, inr, ℕ, ◌≤◌, ◌<◌, max, Contains, List, [], ◌++◌, length, sym, ap, subst, arith}
use Rattle.std.proofs.lemmas.List.{take-append-le}
use Rattle.std.proofs.lemmas.List.Elements.{All-contains, All-from_recursion}
use Rattle.dbl_record.specs.declared.record.Record.{Record}
use Rattle.dbl_model_table.specs.declared.identity.Identity.{Identity}
use Rattle.dbl_model_table.specs.declared.row.Key.{Key}
use Rattle.dbl_model_table.specs.declared.table.TableInfo.{TableInfo}
use Rattle.dbl_model_table.specs.declared.change.Change.{Change}
use Rattle.dbl_model_table.specs.Rows.{no_rows, rows_from, all_changes}
use Rattle.dbl_model_history.specs.Image.{image_at}
use Rattle.dbl_model_history.proofs.RowLemmas.{all_changes-append}
use Rattle.dbl_consume_laws.specs.Moments.{last_moment, span_end}
use Rattle.dbl_consume_laws.specs.KnownKeys.{IsKnown}
use Rattle.dbl_consume_laws.specs.Ages.{held_cell, source_cell, AreAged}
use Rattle.dbl_consume_laws.specs.ChangeLaws.{AgeGoesBack, AgeStaysAsHistoriesGrow}
use Rattle.dbl_consume_laws.specs.RowLaws.{NoRecordsAreAged}
use Rattle.dbl_consume_laws.proofs.Lists.{slice_get-front}
use Rattle.dbl_consume_laws.proofs.AgeingCells.{aged_wider, aged_same}
use Rattle.dbl_consume_laws.proofs.Moments.{last_moment-longer, last_moment-most}

span_same : (from to far : ℕ) → from ≤ to → to ≤ max from far → max to far ≡ max from far
span_same from to far le reached = omega (arith, le, reached)

pub within : (a b n : ℕ) → a ≤ n → b ≤ n → max a b ≤ n
within a b n one two = omega (arith, one, two)

-- the same span, told by other numbers
pub aged_to : (identity : Identity) (infos : List TableInfo) (changes : List Change) (start from to end : ℕ) (records : List Record) → to ≡ end → AreAged identity infos changes start from to records → AreAged identity infos changes start from end records
aged_to identity infos changes start from to end records same aged = subst (λ (e : ℕ). AreAged identity infos changes start from e records) same aged

-- a longer span, with the same end
pub aged_sooner : (identity : Identity) (infos : List TableInfo) (changes : List Change) (start x y end : ℕ) (records : List Record) → x ≤ y → AreAged identity infos changes start y end records → AreAged identity infos changes start x end records
aged_sooner identity infos changes start x y end records le aged = record {
  each = λ topic text table key column names. (
      let known : Type 0 = IsKnown identity infos changes start records end table key in
      aged_wider known known (source_cell infos changes table key column) y x end end (held_cell identity records topic text column) (λ l. inl l) le (omega arith) (aged.each topic text table key column names));
}

pub goes_back : AgeGoesBack
goes_back identity infos commits start from to records le reached aged =
    let same : span_end infos commits start records to ≡ span_end infos commits start records from =
    span_same from to (last_moment infos commits start records) le reached in
    aged_to identity infos (all_changes commits) start from (span_end infos commits start records to) (span_end infos commits start records from) records same
    (aged_sooner identity infos (all_changes commits) start from to (span_end infos commits start records to) records le aged)

-- ---- a history that goes on

-- what is known of the longer history up to a moment of the shorter one is known of that
pub known_shorter : (identity : Identity) (infos : List TableInfo) (cs more : List Change) (start : ℕ) (records : List Record) (to table : ℕ) (key : Key) → to ≤ length cs
    → IsKnown identity infos (cs ++ more) start records to table key → IsKnown identity infos cs start records to table key
known_shorter identity infos cs more start records to table key le (inl told) = inl told
known_shorter identity infos cs more start records to table key le (inr t) =
    let lt : t.place < length cs = omega (arith, t.before, le) in
    inr (record { place = t.place; change = t.change; not_before = t.not_before; before = t.before; is = sym (slice_get-front cs more t.place lt) ∙ t.is; whole = t.whole })

pub life-longer : (infos : List TableInfo) (cs more : List Change) (table : ℕ) (key : Key) (column : List ℕ) (moment : ℕ) → moment ≤ length cs → source_cell infos (cs ++ more) table key column moment ≡ source_cell infos cs table key column moment
life-longer infos cs more table key column moment le = ap (λ (l : List Change). image_at infos (rows_from infos no_rows l) table key column) (take-append-le moment cs more le)

pub aged_longer : (identity : Identity) (infos : List TableInfo) (cs more : List Change) (start from to : ℕ) (records : List Record) → to ≤ length cs → AreAged identity infos cs start from to records → AreAged identity infos (cs ++ more) start from to records
aged_longer identity infos cs more start from to records le aged = record {
  each = λ topic text table key column names. aged_same (IsKnown identity infos cs start records to table key) (IsKnown identity infos (cs ++ more) start records to table key)
      (source_cell infos cs table key column) (source_cell infos (cs ++ more) table key column) from to (held_cell identity records topic text column)
      (λ i low. life-longer infos cs more table key column i (omega (arith, low, le))) (known_shorter identity infos cs more start records to table key le) (aged.each topic text table key column names);
}

pub stays_in_longer : AgeStaysAsHistoriesGrow
stays_in_longer identity infos commits more start from records in_start in_from above aged =
    let far : last_moment infos (commits ++ more) start records ≡ last_moment infos commits start records = last_moment-longer infos commits more start records above in
    let most : last_moment infos commits start records ≤ length (all_changes commits) = last_moment-most infos commits start records in_start in
    let end : ℕ = span_end infos commits start records from in
    let le : end ≤ length (all_changes commits) = within from (last_moment infos commits start records) (length (all_changes commits)) in_from most in
    let same : end ≡ span_end infos (commits ++ more) start records from = ap (max from) (sym far) in
    aged_to identity infos (all_changes (commits ++ more)) start from end (span_end infos (commits ++ more) start records from) records same
    (subst (λ (l : List Change). AreAged identity infos l start from end records) (sym (all_changes-append commits more))
    (aged_longer identity infos (all_changes commits) (all_changes more) start from end records le aged))

-- ---- no records, at the start

no_item : (item : Record) → Contains [] item → ⊥
no_item item stands = All-contains (λ (x : Record). ⊥) [] item (All-from_recursion (λ (x : Record). ⊥) [] tt) stands

no_place : (place start : ℕ) → start ≤ place → place < max start start → ⊥
no_place place start low high = omega (arith, low, high)

-- nothing is known there
none_known : (identity : Identity) (infos : List TableInfo) (changes : List Change) (start table : ℕ) (key : Key) → IsKnown identity infos changes start [] (max start start) table key → ⊥
none_known identity infos changes start table key (inl told) = no_item told.item told.stands
none_known identity infos changes start table key (inr t) = no_place t.place start t.not_before t.before

pub no_records_are_aged : NoRecordsAreAged
no_records_are_aged identity infos commits start = record { each = λ topic text table key column names known. absurd (none_known identity infos (all_changes commits) start table key known) }
