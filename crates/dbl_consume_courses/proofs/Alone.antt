-- What a log shows of one table goes by the records of the table's topic and those of progress.
use Rattle.std.proofs.Common.{◌≡◌, ◌≢◌, ◌∙◌, ◌⊎◌, inl, inr, ℕ, zero, suc, ◌+◌, ◌≤◌, max, Bool, true, false, Option, Some, None, List, [], ◌∷◌, ◌++◌, length, map, take, fold, refl, sym, ap, subst, arith, length-append}
use Rattle.std.proofs.lemmas.Bool.{cases_eq}
use Rattle.std.proofs.lemmas.List.Elements.{All-contains, All-from_recursion, Contains-append_right}
use Rattle.std.specs.Prelude.{◌==◌, if◌then◌else◌, Contains, option_map, option_and_then, slice_get, codes}
use Rattle.std.specs.List.{AllByRecursion}
use Rattle.std.specs.Str.{bytes_eq}
use Rattle.dbl_value_types.specs.declared.value.Val.{Val}
use Rattle.dbl_record.specs.declared.record.Record.{Record}
use Rattle.dbl_record.specs.Acts.{act_of, reading_of, is_progress}
use Rattle.dbl_record.specs.Consumers.{HeldCells, held_at, row_after_result, row_after as reading_after}
use Rattle.dbl_record.specs.Places.{Place, place_of}
use Rattle.dbl_record.specs.Reading.{as_line}
use Rattle.dbl_model_table.specs.declared.identity.Identity.{Identity}
use Rattle.dbl_model_table.specs.declared.row.Key.{Key}
use Rattle.dbl_model_table.specs.declared.table.TableInfo.{TableInfo}
use Rattle.dbl_model_table.specs.declared.change.Change.{Change}
use Rattle.dbl_model_table.specs.declared.change.Commit.{Commit}
use Rattle.dbl_model_table.specs.Tables.{full_name}
use Rattle.dbl_model_table.specs.Infos.{columns_of, topic_of}
use Rattle.dbl_model_table.specs.Rows.{at_key, no_rows, rows_at, effect_of, row_after, all_changes}
use Rattle.dbl_model_table.specs.Rows.Effect.{Ends}
use Rattle.dbl_model_history.specs.PlainRows.{row_from}
use Rattle.dbl_model_history.specs.WholeChanges.{IsTouched}
use Rattle.dbl_model_history.specs.Image.{Names, row_json_texts}
use Rattle.dbl_model_history.specs.Laws.{AreDistinctTables}
use Rattle.dbl_model_event.specs.Snapshots.{progress_topic}
use Rattle.dbl_model_table.proofs.Lists.{bool_case, text_itself, same_text}
use Rattle.dbl_model_table.proofs.InfoLemmas.{topic_one}
use Rattle.dbl_model_history.proofs.ImageLemmas.{table_one}
use Rattle.dbl_model_history.proofs.PlainLemmas.{rows_from-row_from}
use Rattle.dbl_consume_laws.specs.Moments.{place_moment, record_moment, last_moment, span_end}
use Rattle.dbl_consume_laws.specs.KnownKeys.{IsTold, IsKnown}
use Rattle.dbl_consume_laws.specs.Ages.{held_row, held_cell, source_cell, IsAgedCell, IsAged}
use Rattle.dbl_consume_laws.proofs.AgeingCells.{aged_same}
use Rattle.dbl_consume_laws.proofs.Lists.{all_take}
use Rattle.dbl_consume_laws.proofs.Topics.{not_progress, is_progress_topic}
use Rattle.dbl_consume_courses.proofs.CourseLemmas.{silent_change}
use Rattle.dbl_consume_courses.proofs.FitLemmas.{IsTick, AreTicks}

pub all_weaker : {X : Type 0} (P Q : X → Type 0) → ((x : X) → P x → Q x) → (xs : List X) → AllByRecursion P xs → AllByRecursion Q xs
all_weaker P Q less [] all = tt
all_weaker P Q less (x ∷ xs) all = (less x all.0, all_weaker P Q less xs all.1)

differ : (a b : List ℕ) → bytes_eq a b ≡ false → a ≢ b
differ a b other same = let equal : bytes_eq a b ≡ true = ap (bytes_eq a) (sym same) ∙ text_itself a in let contra : true ≡ false = sym equal ∙ other in cc

apart_texts : (a b : List ℕ) → a ≢ b → bytes_eq a b ≡ false
apart_texts a b apart = elim (bool_case (bytes_eq a b)) [ inl same ↦ absurd (apart (same_text a b same)) | inr other ↦ other ]

-- ---- topics

-- that of progress records is none of a table's
pub not_of_table : (identity : Identity) (info : TableInfo) → bytes_eq (topic_of identity info) (progress_topic identity) ≡ false
not_of_table identity info = apart_texts (topic_of identity info) (progress_topic identity) (λ same. (
    let one : is_progress (topic_of identity info) ≡ true = ap is_progress same ∙ is_progress_topic identity in
    let contra : true ≡ false = sym one ∙ not_progress identity info in
    absurd (let c : ⊥ = cc in c)))

-- those of two captured tables differ
pub topics_apart : (identity : Identity) (infos : List TableInfo) (t u : ℕ) (x y : TableInfo) → AreDistinctTables infos → slice_get infos t ≡ Some x → slice_get infos u ≡ Some y → t ≢ u → bytes_eq (topic_of identity x) (topic_of identity y) ≡ false
topics_apart identity infos t u x y apart at_x at_y other = apart_texts (topic_of identity x) (topic_of identity y) (λ same. other (table_one infos t u x y apart at_x at_y (topic_one identity x y same)))

-- the empty text is no topic
no_topic : (a b : List ℕ) → bytes_eq [] (a ++ codes "." ++ b) ≡ false
no_topic a b = apart_texts [] (a ++ codes "." ++ b) (λ same. (
    let none : 0 ≡ length (a ++ codes "." ++ b) = ap length same in
    let some : length (a ++ codes "." ++ b) ≡ length (a ++ codes ".") + length b = length-append (a ++ codes ".") b in
    let dot : length (a ++ codes ".") ≡ length a + 1 = length-append a (codes ".") in
    absurd (omega (arith, none, some, dot))))

no_progress : (a : List ℕ) → bytes_eq [] (a ++ codes ".dblog-progress") ≡ false
no_progress a = apart_texts [] (a ++ codes ".dblog-progress") (λ same. (
    let none : 0 ≡ length (a ++ codes ".dblog-progress") = ap length same in
    let some : length (a ++ codes ".dblog-progress") ≡ length a + 15 = length-append a (codes ".dblog-progress") in
    absurd (omega (arith, none, some))))

-- ---- records that are alike as far as a table goes

module _ (identity : Identity) (info : TableInfo) where
  abbrev own_topic : List ℕ
  own_topic = topic_of identity info

  -- in another topic, and no report of progress
  abbrev pub IsElsewhere : Record → Type 0
  IsElsewhere item = (bytes_eq item.topic (topic_of identity info) ≡ false) × (bytes_eq item.topic (progress_topic identity) ≡ false)

  abbrev pub IsLike : Record → Record → Type 0
  IsLike a b = (place_of a ≡ place_of b) × ((a ≡ b) ⊎ (IsElsewhere a × IsElsewhere b))

  abbrev pub AreLike : List Record → List Record → Type 0
  AreLike [] [] = Unit {0}
  AreLike [] (b ∷ ys) = ⊥
  AreLike (a ∷ xs) [] = ⊥
  AreLike (a ∷ xs) (b ∷ ys) = IsLike a b × AreLike xs ys

  pub like_itself : (xs : List Record) → AreLike xs xs
  like_itself [] = tt
  like_itself (a ∷ xs) = ((refl, inl refl), like_itself xs)

  pub like_back : (xs ys : List Record) → AreLike xs ys → AreLike ys xs
  like_back [] [] like = tt
  like_back [] (b ∷ ys) like = elim like [ ]
  like_back (a ∷ xs) [] like = elim like [ ]
  like_back (a ∷ xs) (b ∷ ys) like = ((sym like.0.0, elim like.0.1 [ inl same ↦ inl (sym same) | inr apart ↦ inr (apart.1, apart.0) ]), like_back xs ys like.1)

  pub like_append : (xs ys cs ds : List Record) → AreLike xs ys → AreLike cs ds → AreLike (xs ++ cs) (ys ++ ds)
  like_append [] [] cs ds one two = two
  like_append [] (b ∷ ys) cs ds one two = elim one [ ]
  like_append (a ∷ xs) [] cs ds one two = elim one [ ]
  like_append (a ∷ xs) (b ∷ ys) cs ds one two = (one.0, like_append xs ys cs ds one.1 two)

  pub like_take : (n : ℕ) (xs ys : List Record) → AreLike xs ys → AreLike (take n xs) (take n ys)
  like_take zero xs ys like = tt
  like_take (suc n) [] [] like = tt
  like_take (suc n) [] (b ∷ ys) like = elim like [ ]
  like_take (suc n) (a ∷ xs) [] like = elim like [ ]
  like_take (suc n) (a ∷ xs) (b ∷ ys) like = (like.0, like_take n xs ys like.1)

  -- a consumer has equal rows in the table's topic

  passed : (text : List ℕ) (a : Record) (held : Option HeldCells) → bytes_eq a.topic (topic_of identity info) ≡ false
      → reading_after identity.placeholder (topic_of identity info) text held (reading_of (as_line a)) ≡ held
  passed text a held other = ap (λ (b : Bool). if b then row_after_result (act_of identity.placeholder (reading_of (as_line a))) text held else held) other

  row_one : (text : List ℕ) (a b : Record) (held : Option HeldCells) → IsLike a b
      → reading_after identity.placeholder (topic_of identity info) text held (reading_of (as_line a)) ≡ reading_after identity.placeholder (topic_of identity info) text held (reading_of (as_line b))
  row_one text a b held like = elim like.1 [
    | inl same ↦ ap (λ (r : Record). reading_after identity.placeholder (topic_of identity info) text held (reading_of (as_line r))) same
    | inr apart ↦ passed text a held apart.0.0 ∙ sym (passed text b held apart.1.0)
  ]

  rows_fold : (text : List ℕ) (xs ys : List Record) (held : Option HeldCells) → AreLike xs ys
      → fold (reading_after identity.placeholder (topic_of identity info) text) held (map reading_of (map as_line xs)) ≡ fold (reading_after identity.placeholder (topic_of identity info) text) held (map reading_of (map as_line ys))
  rows_fold text [] [] held like = refl
  rows_fold text [] (b ∷ ys) held like = elim like [ ]
  rows_fold text (a ∷ xs) [] held like = elim like [ ]
  rows_fold text (a ∷ xs) (b ∷ ys) held like =
      rows_fold text xs ys (reading_after identity.placeholder (topic_of identity info) text held (reading_of (as_line a))) like.1
      ∙ ap (λ (h : Option HeldCells). fold (reading_after identity.placeholder (topic_of identity info) text) h (map reading_of (map as_line ys))) (row_one text a b held like.0)

  pub rows_like : (text : List ℕ) (xs ys : List Record) → AreLike xs ys → held_row identity xs (topic_of identity info) text ≡ held_row identity ys (topic_of identity info) text
  rows_like text xs ys like = rows_fold text xs ys None like

  -- they report the same progress

  first_item : (b : Record) (ys : List Record) → Contains (b ∷ ys) b
  first_item b ys = (0, omega arith, refl)

  reports : (xs ys : List Record) → AreLike xs ys → AllByRecursion (λ (x : Record). x.topic ≡ progress_topic identity → Contains ys x) xs
  reports [] [] like = tt
  reports [] (b ∷ ys) like = elim like [ ]
  reports (a ∷ xs) [] like = elim like [ ]
  reports (a ∷ xs) (b ∷ ys) like = (
    λ is. elim like.0.1 [
      | inl same ↦ subst (Contains (b ∷ ys)) (sym same) (first_item b ys)
      | inr apart ↦ absurd (differ a.topic (progress_topic identity) apart.0.1 is)
    ],
    all_weaker (λ (x : Record). x.topic ≡ progress_topic identity → Contains ys x) (λ (x : Record). x.topic ≡ progress_topic identity → Contains (b ∷ ys) x)
        (λ x found is. Contains-append_right (b ∷ []) ys x (found is)) xs (reports xs ys like.1),
  )

  pub told_like : (infos : List TableInfo) (table : ℕ) (key : Key) (xs ys : List Record) → AreLike xs ys → IsTold identity infos xs table key → IsTold identity infos ys table key
  told_like infos table key xs ys like told = record {
    info = told.info;
    captured = told.captured;
    item = told.item;
    stands = All-contains (λ (x : Record). x.topic ≡ progress_topic identity → Contains ys x) xs told.item
        (All-from_recursion (λ (x : Record). x.topic ≡ progress_topic identity → Contains ys x) xs (reports xs ys like)) told.stands told.tells.topic;
    through = told.through;
    done = told.done;
    tells = told.tells;
    covers = told.covers;
  }

  -- they reach the same points

  pub last_like : (infos : List TableInfo) (commits : List Commit) (far : ℕ) (xs ys : List Record) → AreLike xs ys → last_moment infos commits far xs ≡ last_moment infos commits far ys
  last_like infos commits far [] [] like = refl
  last_like infos commits far [] (b ∷ ys) like = elim like [ ]
  last_like infos commits far (a ∷ xs) [] like = elim like [ ]
  last_like infos commits far (a ∷ xs) (b ∷ ys) like =
      last_like infos commits (max far (record_moment infos commits a)) xs ys like.1
      ∙ ap (λ (p : Place). last_moment infos commits (max far (place_moment infos commits p)) ys) like.0.0

  -- ---- what is aged of the table

  module _ (infos : List TableInfo) (commits : List Commit) (start from table : ℕ) where
    abbrev pub end_of : List Record → ℕ
    end_of records = span_end infos commits start records from

    abbrev pub OwnCell : List Record → List ℕ → List ℕ → Key → List ℕ → Type 0
    OwnCell records topic text key column = IsAgedCell (IsKnown identity infos (all_changes commits) start records (end_of records) table key)
        (source_cell infos (all_changes commits) table key column) from (end_of records) (held_cell identity records topic text column)

    abbrev pub Own : List Record → Type 0
    Own records = (topic text : List ℕ) (key : Key) (column : List ℕ) → Names identity infos topic text table key → OwnCell records topic text key column

    pub own_like : slice_get infos table ≡ Some info → (xs ys : List Record) → AreLike xs ys → Own xs → Own ys
    own_like captured xs ys like own topic text key column names =
        let e : end_of xs ≡ end_of ys = ap (max from) (last_like infos commits start xs ys like) in
        let same_info : Some names.info ≡ Some info = sym names.captured ∙ captured in
        let info_is : names.info ≡ info = cc in
        let topic_is : topic_of identity info ≡ topic = ap (topic_of identity) (sym info_is) ∙ names.topic_is in
        let held : held_cell identity xs topic text column ≡ held_cell identity ys topic text column =
        subst (λ (t : List ℕ). held_cell identity xs t text column ≡ held_cell identity ys t text column) topic_is (ap (λ (r : Option HeldCells). held_at r column) (rows_like text xs ys like)) in
        let K : Type 0 = IsKnown identity infos (all_changes commits) start xs (end_of xs) table key in
        let L : Type 0 = IsKnown identity infos (all_changes commits) start ys (end_of ys) table key in
        let life = source_cell infos (all_changes commits) table key column in
        let here : IsAgedCell L life from (end_of xs) (held_cell identity xs topic text column) =
        aged_same K L life life from (end_of xs) (held_cell identity xs topic text column) (λ i low. refl)
        (λ known. less known (sym e)) (own topic text key column names) in
        subst (IsAgedCell L life from (end_of ys)) held (subst (λ (x : ℕ). IsAgedCell L life from x (held_cell identity xs topic text column)) e here)
      where
        less : {m n : ℕ} → IsKnown identity infos (all_changes commits) start ys m table key → m ≡ n → IsKnown identity infos (all_changes commits) start xs n table key
        less (inl told) is = inl (told_like infos table key ys xs (like_back xs ys like) told)
        less (inr touched) is = inr (subst (λ (x : ℕ). IsTouched infos (all_changes commits) start x table key) is touched)

-- ---- records that show nothing of other tables

module _ (identity : Identity) (info : TableInfo) where
  by_topic : Bool → Bool → Record → Record
  by_topic true report item = item
  by_topic false true item = item
  by_topic false false item = record item { topic = [] }

  pub emptied : Record → Record
  emptied item = by_topic (bytes_eq item.topic (topic_of identity info)) (bytes_eq item.topic (progress_topic identity)) item

  no_own_topic : bytes_eq [] (topic_of identity info) ≡ false
  no_own_topic = no_topic identity.prefix (full_name info.name)

  no_report : bytes_eq [] (progress_topic identity) ≡ false
  no_report = no_progress identity.prefix

  emptied_one : (item : Record) → IsLike identity info (emptied item) item
  unfolding emptied by_topic
  emptied_one item = by (bytes_eq item.topic (topic_of identity info)) refl (bytes_eq item.topic (progress_topic identity)) refl
    where
      by : (b : Bool) → bytes_eq item.topic (topic_of identity info) ≡ b → (d : Bool) → bytes_eq item.topic (progress_topic identity) ≡ d → IsLike identity info (by_topic b d item) item
      by true own d report = (refl, inl refl)
      by false own true report = (refl, inl refl)
      by false own false report = (refl, inr ((no_own_topic, no_report), (own, report)))

  pub emptied_place : (item : Record) → place_of (emptied item) ≡ place_of item
  emptied_place item = (emptied_one item).0

  pub emptied_like : (records : List Record) → AreLike identity info (map emptied records) records
  emptied_like [] = tt
  emptied_like (item ∷ records) = (emptied_one item, emptied_like records)

  -- a topic of another table gets none of them

  step_other : (text : List ℕ) (other : List ℕ) (item : Record) → bytes_eq (topic_of identity info) other ≡ false → bytes_eq (progress_topic identity) other ≡ false → bytes_eq [] other ≡ false
      → reading_after identity.placeholder other text None (reading_of (as_line (emptied item))) ≡ None
  unfolding emptied by_topic
  step_other text other item of_table of_report of_none = by (bytes_eq item.topic (topic_of identity info)) refl (bytes_eq item.topic (progress_topic identity)) refl
    where
      passes : (x : Record) → bytes_eq x.topic other ≡ false → reading_after identity.placeholder other text None (reading_of (as_line x)) ≡ None
      passes x apart = ap (λ (b : Bool). if b then row_after_result (act_of identity.placeholder (reading_of (as_line x))) text None else None) apart

      by : (b : Bool) → bytes_eq item.topic (topic_of identity info) ≡ b → (d : Bool) → bytes_eq item.topic (progress_topic identity) ≡ d
          → reading_after identity.placeholder other text None (reading_of (as_line (by_topic b d item))) ≡ None
      by true own d report = passes item (subst (λ (t : List ℕ). bytes_eq t other ≡ false) (sym (same_text item.topic (topic_of identity info) own)) of_table)
      by false own true report = passes item (subst (λ (t : List ℕ). bytes_eq t other ≡ false) (sym (same_text item.topic (progress_topic identity) report)) of_report)
      by false own false report = passes (record item { topic = [] }) of_none

  none_fold : (text : List ℕ) (other : List ℕ) (records : List Record) → bytes_eq (topic_of identity info) other ≡ false → bytes_eq (progress_topic identity) other ≡ false → bytes_eq [] other ≡ false
      → fold (reading_after identity.placeholder other text) None (map reading_of (map as_line (map emptied records))) ≡ None
  none_fold text other [] of_table of_report of_none = refl
  none_fold text other (item ∷ records) of_table of_report of_none =
      ap (λ (h : Option HeldCells). fold (reading_after identity.placeholder other text) h (map reading_of (map as_line (map emptied records)))) (step_other text other item of_table of_report of_none)
      ∙ none_fold text other records of_table of_report of_none

  pub flip_apart : (a b : List ℕ) → bytes_eq a b ≡ false → bytes_eq b a ≡ false
  flip_apart a b other = apart_texts b a (λ same. differ a b other (sym same))

  pub none_held : (infos : List TableInfo) (t u : ℕ) (y : TableInfo) (records : List Record) (text : List ℕ) → AreDistinctTables infos → slice_get infos t ≡ Some info → slice_get infos u ≡ Some y → t ≢ u
      → held_row identity (map emptied records) (topic_of identity y) text ≡ None
  none_held infos t u y records text apart at_x at_y other =
      none_fold text (topic_of identity y) records (topics_apart identity infos t u info y apart at_x at_y other)
      (flip_apart (topic_of identity y) (progress_topic identity) (not_of_table identity y)) (no_topic identity.prefix (full_name y.name))

-- ---- a course has no row of other tables

none_after : (b : Bool) → row_after (at_key b true Ends) None ≡ None
none_after true = refl
none_after false = refl

row_none : (infos : List TableInfo) (table u : ℕ) (key : Key) → table ≢ u → (cs : List Change) → AreTicks table cs → row_from infos u key None cs ≡ None
row_none infos table u key other [] ticks = refl
row_none infos table u key other (c ∷ cs) ticks =
    ap (λ (r : Option (List Val)). row_from infos u key r cs) (one ticks.0) ∙ row_none infos table u key other cs ticks.1
  where
    one : IsTick table c → row_after (effect_of infos c u key) None ≡ None
    one (inl own) = silent_change infos u key None c (λ e. other (sym own ∙ e))
    one (inr clear) = subst (λ (d : Change). row_after (effect_of infos d u key) None ≡ None) (sym clear.1) (none_after (clear.0 == u))

other_row : (infos : List TableInfo) (table u : ℕ) (key : Key) → table ≢ u → (cs : List Change) → AreTicks table cs → (n : ℕ) → rows_at infos cs n u key ≡ None
other_row infos table u key other cs ticks n = rows_from-row_from infos no_rows (take n cs) u key ∙ row_none infos table u key other (take n cs) (all_take (IsTick table) n cs ticks)

-- ---- what is aged of the table alone is aged, of records that show nothing of other tables

module _ (identity : Identity) (infos : List TableInfo) (commits : List Commit) (start from table : ℕ) (info : TableInfo) (captured : slice_get infos table ≡ Some info) where
  from_end : (a b : ℕ) → a ≤ max a b
  from_end a b = omega arith

  other_cell : AreDistinctTables infos → AreTicks table (all_changes commits) → (records : List Record) (topic text : List ℕ) (u : ℕ) (key : Key) (column : List ℕ) → table ≢ u → Names identity infos topic text u key
      → IsAgedCell (IsKnown identity infos (all_changes commits) start (map (emptied identity info) records) (span_end infos commits start (map (emptied identity info) records) from) u key)
      (source_cell infos (all_changes commits) u key column) from (span_end infos commits start (map (emptied identity info) records) from) (held_cell identity (map (emptied identity info) records) topic text column)
  other_cell apart ticks records topic text u key column other names =
      let S : List Record = map (emptied identity info) records in
      let end : ℕ = span_end infos commits start S from in
      let K : Type 0 = IsKnown identity infos (all_changes commits) start S end u key in
      let life = source_cell infos (all_changes commits) u key column in
      let none : held_row identity S topic text ≡ None =
      subst (λ (t : List ℕ). held_row identity S t text ≡ None) names.topic_is (none_held identity info infos table u names.info records text apart captured names.captured other) in
      let gone : life from ≡ None =
      ap (λ (r : Option (List Val)). option_and_then (λ texts. texts column) (option_map (row_json_texts (columns_of infos u)) r)) (other_row infos table u key other (all_changes commits) ticks from) in
      subst (IsAgedCell K life from end) (sym (ap (λ (r : Option HeldCells). held_at r column) none))
      (λ known. record { moment = from; not_before = omega arith; not_after = from_end from (last_moment infos commits start S); is = gone })

  pub whole : AreDistinctTables infos → AreTicks table (all_changes commits) → (records : List Record) → Own identity info infos commits start from table records → IsAged identity infos commits start (map (emptied identity info) records) from
  whole apart ticks records own = record {
    each = λ topic text u key column names. elim (cases_eq table u) [
      | inl same ↦ subst
          (λ (w : ℕ). Names identity infos topic text w key
          → IsAgedCell (IsKnown identity infos (all_changes commits) start (map (emptied identity info) records) (span_end infos commits start (map (emptied identity info) records) from) w key)
          (source_cell infos (all_changes commits) w key column) from (span_end infos commits start (map (emptied identity info) records) from) (held_cell identity (map (emptied identity info) records) topic text column))
          same
          (λ own_names. own_like identity info infos commits start from table captured records (map (emptied identity info) records)
          (like_back identity info (map (emptied identity info) records) records (emptied_like identity info records)) own topic text key column own_names) names
      | inr other ↦ other_cell apart ticks records topic text u key column other names
    ];
  }
