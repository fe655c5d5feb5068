-- Position and ordinal are of one event, and a progress record has one reading.
use Rattle.std.proofs.Common.{◌≡◌, ◌∙◌, ◌<◌, ◌+◌, ◌++◌, ℕ, zero, suc, List, [], ◌∷◌, Bool, true, false, Option, Some, None, map, flat_map, refl, sym, ap, subst, arith, codes}
use Rattle.std.specs.Prelude.{IfSome, option_and_then, slice_get}
use Rattle.serde_json.specs.Data.{boolean}
use Rattle.serde_json.specs.Find.{get, as_str}
use Rattle.serde_json.specs.Written.{compact_text}
use Rattle.dbl_value_types.specs.declared.column_type.PgType.{PgType}
use Rattle.dbl_value_types.specs.declared.value.Val.{Val}
use Rattle.dbl_record.specs.Acts.{is_progress}
use Rattle.dbl_record.proofs.Back.{texts_tell_data}
use Rattle.dbl_model_table.specs.declared.identity.Identity.{Identity}
use Rattle.dbl_model_table.specs.declared.row.Key.{Key}
use Rattle.dbl_model_table.specs.declared.table.TableInfo.{TableInfo}
use Rattle.dbl_model_table.specs.declared.change.Commit.{Commit}
use Rattle.dbl_model_table.specs.Tables.{full_name}
use Rattle.dbl_model_table.specs.Infos.{key_types}
use Rattle.dbl_model_history.specs.History.{AreRising}
use Rattle.dbl_model_table.specs.Rows.{changes_of}
use Rattle.dbl_model_history.specs.Ranges.{AreValuesInRange}
use Rattle.dbl_model_history.specs.Fit.{AreOf, IsKeyOf}
use Rattle.dbl_model_event.specs.Events.{Notice, Event, notices, numbered, events_of}
use Rattle.dbl_model_event.specs.Snapshots.{last_data, progress_key, progress_data}
use Rattle.dbl_model_table.proofs.InfoLemmas.{topic_one}
use Rattle.dbl_model_history.proofs.ImageLemmas.{key_one, table_one}
use Rattle.dbl_model_history.proofs.RangeLemmas.{spelled_in_range}
use Rattle.dbl_consume_laws.specs.Prints.{PairsNameEvents, RecordsTellOneEvent, ProgressRecordsTell, TableTopicsTellNone, ProgressIsReadOnce}
use Rattle.dbl_consume_laws.proofs.Wholes.{progress_whole, progress_shallow, progress_key_whole, progress_key_shallow}
use Rattle.dbl_consume_laws.proofs.Topics.{not_progress, is_progress_topic}
use Rattle.dbl_consume_laws.proofs.SnapshotLines.{last_part}

some_inner : {A : Type 0} (x y : A) → Some x ≡ Some y → x ≡ y
some_inner x y e = cc

-- ---- events by position and ordinal

pub event_numbered : (position ordinal : ℕ) (ns : List Notice) (j : ℕ) (e : Event) → slice_get (numbered position ordinal ns) j ≡ Some e → (e.position ≡ position) × (e.ordinal ≡ ordinal + j)
event_numbered position ordinal [] j e at = cc
event_numbered position ordinal (n ∷ ns) zero e at =
    let same : _ ≡ e = some_inner _ e at in
    (ap (λ x. x.position) (sym same), ap (λ x. x.ordinal) (sym same) ∙ omega arith)
event_numbered position ordinal (n ∷ ns) (suc j) e at = let later = event_numbered position (ordinal + 1) ns j e at in (later.0, later.1 ∙ omega arith)

abbrev pub lsns : List Commit → List ℕ
lsns history = map (λ commit. commit.lsn.0) history

above : (below : ℕ) (history : List Commit) (i : ℕ) (c : Commit) → AreRising below (lsns history) → slice_get history i ≡ Some c → below < c.lsn.0
above below [] i c rise at = cc
above below (d ∷ history) zero c rise at = let same : d ≡ c = some_inner d c at in subst (λ x. below < x.lsn.0) same rise.0
above below (d ∷ history) (suc i) c rise at = let later = above d.lsn.0 history i c rise.1 at in let first = rise.0 in omega (arith, later, first)

pub lsn_one : (below : ℕ) (history : List Commit) (i k : ℕ) (c d : Commit) → AreRising below (lsns history) → slice_get history i ≡ Some c → slice_get history k ≡ Some d → c.lsn.0 ≡ d.lsn.0 → i ≡ k
lsn_one below [] i k c d rise at_c at_d same = cc
lsn_one below (x ∷ history) zero zero c d rise at_c at_d same = refl
lsn_one below (x ∷ history) zero (suc k) c d rise at_c at_d same =
    let first : x ≡ c = some_inner x c at_c in
    let later = above x.lsn.0 history k d rise.1 at_d in
    let here : x.lsn.0 ≡ d.lsn.0 = ap (λ y. y.lsn.0) first ∙ same in
    absurd (omega (arith, later, here))
lsn_one below (x ∷ history) (suc i) zero c d rise at_c at_d same =
    let first : x ≡ d = some_inner x d at_d in
    let later = above x.lsn.0 history i c rise.1 at_c in
    let here : x.lsn.0 ≡ c.lsn.0 = ap (λ y. y.lsn.0) first ∙ sym same in
    absurd (omega (arith, later, here))
lsn_one below (x ∷ history) (suc i) (suc k) c d rise at_c at_d same = ap suc (lsn_one x.lsn.0 history i k c d rise.1 at_c at_d same)

pub pairs_name_events : PairsNameEvents
pairs_name_events infos history i j k l c d e f rise one other position ordinal =
    let of_e = event_numbered c.lsn.0 0 (flat_map (notices infos) (changes_of c)) j e one.at_event in
    let of_f = event_numbered d.lsn.0 0 (flat_map (notices infos) (changes_of d)) l f other.at_event in
    let lsn : c.lsn.0 ≡ d.lsn.0 = sym of_e.0 ∙ (position ∙ of_f.0) in
    let place : i ≡ k = lsn_one 0 history i k c d rise one.at_commit other.at_commit lsn in
    let e_is = of_e.1 in
    let f_is = of_f.1 in
    let number : j ≡ l = omega (arith, e_is, f_is, ordinal) in
    let commit : c ≡ d = some_inner c d (sym one.at_commit ∙ (ap (slice_get history) place ∙ other.at_commit)) in
    let event : e ≡ f = some_inner e f (sym one.at_event ∙ (ap (λ x. slice_get (events_of infos x) j) commit ∙ (ap (slice_get (events_of infos d)) number ∙ other.at_event))) in
    (place, number, commit, event)

pub records_tell_one_event : RecordsTellOneEvent
records_tell_one_event identity infos history i j k l c d e f now later rise one other same =
    pairs_name_events infos history i j k l c d e f rise one other (ap (λ item. item.position) same) (ap (λ item. item.ordinal) same)

-- ---- progress

values_in_range : (types : List PgType) (values : List Val) → AreOf types values → AreValuesInRange values
values_in_range [] [] are = tt
values_in_range [] (v ∷ values) are = elim are [ ]
values_in_range (ty ∷ types) [] are = elim are [ ]
values_in_range (ty ∷ types) (v ∷ values) are = (spelled_in_range ty are.0.text v are.0.utf8 are.0.spells, values_in_range types values are.1)

pub through_in_range : (info : TableInfo) (through : Option Key) → IfSome through (IsKeyOf info) → IfSome through (λ key. AreValuesInRange key.cells)
through_in_range info None h = tt
through_in_range info (Some key) h = values_in_range (key_types info) key.cells h

done_one : (a b : Bool) → Some (boolean a) ≡ Some (boolean b) → a ≡ b
done_one a b e = cc

last_one : (info : TableInfo) (a b : Option Key) → IfSome a (IsKeyOf info) → IfSome b (IsKeyOf info) → last_data info a ≡ last_data info b → a ≡ b
last_one info None None of_a of_b e = refl
last_one info None (Some key) of_a of_b e = cc
last_one info (Some key) None of_a of_b e = cc
last_one info (Some a) (Some b) of_a of_b e = ap Some (key_one info a b of_a of_b (ap compact_text e))

-- texts of progress values are of one last key and one answer
pub progress_one : (info : TableInfo) (a b : Option Key) (done whole : Bool) → IfSome a (IsKeyOf info) → IfSome b (IsKeyOf info) → compact_text (progress_data info a done) ≡ compact_text (progress_data info b whole) → (a ≡ b) × (done ≡ whole)
unfolding progress_data
progress_one info a b done whole of_a of_b same =
    let part_a = last_part info a (through_in_range info a of_a) in
    let part_b = last_part info b (through_in_range info b of_b) in
    let low_a = progress_shallow info a done part_a.shallow in
    let low_b = progress_shallow info b whole part_b.shallow in
    let read_as : progress_data info a done ≡ progress_data info b whole =
    texts_tell_data (progress_data info a done) (progress_data info b whole) (progress_whole info a done part_a.whole) (progress_whole info b whole part_b.whole) (omega (arith, low_a)) (omega (arith, low_b)) same in
    let last : Some (last_data info a) ≡ Some (last_data info b) = ap (get (codes "last")) read_as in
    (last_one info a b of_a of_b (some_inner _ _ last), done_one done whole (ap (get (codes "done")) read_as))

pub tables_by_progress : (identity : Identity) (x y : TableInfo) → compact_text (progress_key x) ≡ compact_text (progress_key y) → x.name ≡ y.name
tables_by_progress identity x y same =
    let low_x = progress_key_shallow x in
    let low_y = progress_key_shallow y in
    let read_as : progress_key x ≡ progress_key y = texts_tell_data (progress_key x) (progress_key y) (progress_key_whole x) (progress_key_whole y) (omega (arith, low_x)) (omega (arith, low_y)) same in
    let names : Some (full_name x.name) ≡ Some (full_name y.name) = ap (λ d. option_and_then as_str (get (codes "table") d)) read_as in
    topic_one identity x y (ap (λ name. identity.prefix ++ codes "." ++ name) (some_inner (full_name x.name) (full_name y.name) names))

pub progress_is_read_once : ProgressIsReadOnce
progress_is_read_once identity infos t u x y item through last done whole apart at_x at_y one other =
    let name : x.name ≡ y.name = tables_by_progress identity x y (some_inner _ _ (sym one.key ∙ other.key)) in
    let table : t ≡ u = table_one infos t u x y apart at_x at_y name in
    let info : x ≡ y = some_inner x y (sym at_x ∙ (ap (slice_get infos) table ∙ at_y)) in
    let same : compact_text (progress_data x through done) ≡ compact_text (progress_data y last whole) = some_inner _ _ (sym one.value ∙ other.value) in
    let is_key : IfSome last (IsKeyOf x) = subst (λ i. IfSome last (IsKeyOf i)) (sym info) other.is_key in
    let read = progress_one x through last done whole one.is_key is_key (same ∙ ap (λ i. compact_text (progress_data i last whole)) (sym info)) in
    (table, read.0, read.1)

pub progress_records_tell : ProgressRecordsTell
progress_records_tell identity info commit ordinal through done is_key = record { topic = refl; key = refl; value = refl; is_key = is_key }

pub table_topics_tell_none : TableTopicsTellNone
table_topics_tell_none identity table info item through done topic tells =
    let contra : false ≡ true = sym (not_progress identity table) ∙ (ap is_progress (sym topic ∙ tells.topic) ∙ is_progress_topic identity) in
    cc
