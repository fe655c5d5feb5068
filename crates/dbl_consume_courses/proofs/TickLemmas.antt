-- The records of a commit, and those of the commit in the course of a table: they are alike as far as that table goes.
use Rattle.std.proofs.Common.{◌≡◌, ◌≢◌, ◌∙◌, ◌⊎◌, inl, inr, ℕ, ℤ, zero, suc, ◌+◌, Bool, true, false, Option, Some, None, List, [], ◌∷◌, ◌++◌, length, map, take, refl, sym, ap, subst}
use Rattle.std.proofs.lemmas.Bool.{eqb-true}
use Rattle.std.proofs.lemmas.List.{append-nil}
use Rattle.std.proofs.lemmas.Grind.{flat_map-append}
use Rattle.std.specs.Prelude.{◌==◌, if◌then◌else◌, flat_map, option_map, unwrap_or, slice_get, codes}
use Rattle.std.specs.List.{AllByRecursion}
use Rattle.std.specs.Option.{option_or}
use Rattle.std.specs.Str.{bytes_eq}
use Rattle.dbl_record.specs.declared.record.Record.{Record}
use Rattle.dbl_model_table.specs.declared.identity.Identity.{Identity}
use Rattle.dbl_model_table.specs.declared.row.Key.{Key}
use Rattle.dbl_model_table.specs.declared.row.Row.{Row}
use Rattle.dbl_model_table.specs.declared.table.TableInfo.{TableInfo}
use Rattle.dbl_model_table.specs.declared.table.TableName.{TableName}
use Rattle.dbl_model_table.specs.declared.change.Cell.{Cell}
use Rattle.dbl_model_table.specs.declared.change.Change.{Change}
use Rattle.dbl_model_table.specs.declared.change.Change.TheVariants.{Insert, Update, Delete, Clear}
use Rattle.dbl_model_table.specs.declared.change.Body.{Body}
use Rattle.dbl_model_table.specs.declared.change.Body.TheVariants.{Changes, Mark}
use Rattle.dbl_model_table.specs.Tables.{full_name, column_names}
use Rattle.dbl_model_table.specs.Infos.{topic_of}
use Rattle.dbl_model_table.specs.Keys.{new_key_of, given_or_null, same_key}
use Rattle.dbl_model_table.specs.Rows.{table_of, changes_of}
use Rattle.dbl_model_history.specs.Laws.{AreDistinctTables}
use Rattle.dbl_model_event.specs.Events.{Updated, Truncated, Notice, Event, notice, move_notices, change_notices, notices, is_nil, numbered}
use Rattle.dbl_model_event.specs.EventJson.{source_data, print}
use Rattle.dbl_model_event.specs.Clashes.{Clash, clash_among, clash_at, notice_clash, first_found}
use Rattle.dbl_model_event.specs.Snapshots.{read_record, read_records, progress_record, chunk_records}
use Rattle.dbl_consume_courses.specs.Versions.{Versioned, plain_commit}
use Rattle.dbl_consume_courses.specs.Courses.{ticked, ticked_body, ticked_commit}
use Rattle.dbl_consume_courses.proofs.CourseLemmas.{not_same}
use Rattle.dbl_consume_courses.proofs.Kin.{AreKin, kin_at}
use Rattle.dbl_consume_courses.proofs.Alone.{IsLike, AreLike, topics_apart, not_of_table}

-- ---- the events of a change

abbrev pub AreOf : TableName → List Notice → Type 0
AreOf name ns = AllByRecursion (λ n. n.info.name ≡ name) ns

of_update : (info : TableInfo) (t : ℕ) (from to : Key) (old : Option Row) (cells : List Cell) (stays : Bool)
    → AreOf info.name (if stays then notice t info (Some from) (Updated old cells) ∷ [] else move_notices t info from to old (record { cells = map given_or_null cells }))
of_update info t from to old cells true = (refl, tt)
of_update info t from to old cells false = (refl, (refl, (refl, tt)))

pub of_change : (info : TableInfo) (t : ℕ) (c : Change) → AreOf info.name (change_notices t info c)
of_change info t (Insert u row) = (refl, tt)
of_change info t (Update u from old cells) = of_update info t from (new_key_of info cells) old cells (same_key from (new_key_of info cells))
of_change info t (Delete u from old) = (refl, (refl, tt))
of_change info t (Clear u) = (refl, tt)

-- that of a truncation prints no cell
no_cells : (placeholder : List ℕ) (names : List (List ℕ)) → clash_among placeholder names [] ≡ None
no_cells placeholder [] = refl
no_cells placeholder (name ∷ names) = refl

no_clash : (t : ℕ) (y : TableInfo) (placeholder : List ℕ) → notice_clash placeholder (notice t y None Truncated) ≡ None
no_clash t y placeholder = ap (λ (o : Option (List ℕ)). clash_at y (option_or o o)) (no_cells placeholder (column_names y.columns))

pub topic_by : (identity : Identity) (x y : TableInfo) → x.name ≡ y.name → topic_of identity x ≡ topic_of identity y
topic_by identity x y name = ap (λ (n : TableName). identity.prefix ++ codes "." ++ full_name n) name

module _ (identity : Identity) (a b : List TableInfo) (table : ℕ) (info : TableInfo) (kin : AreKin a b) (same : slice_get a table ≡ slice_get b table) (captured : slice_get b table ≡ Some info) (apart : AreDistinctTables b) where
  -- an event in the course and that of the commit: one and the same, or both of another table
  abbrev pub IsAlike : Notice → Notice → Type 0
  IsAlike x y = (x ≡ y) ⊎ ((bytes_eq (topic_of identity x.info) (topic_of identity info) ≡ false) × (bytes_eq (topic_of identity y.info) (topic_of identity info) ≡ false) × (notice_clash identity.placeholder x ≡ None))

  abbrev pub AreAlike : List Notice → List Notice → Type 0
  AreAlike [] [] = Unit {0}
  AreAlike [] (y ∷ ys) = ⊥
  AreAlike (x ∷ xs) [] = ⊥
  AreAlike (x ∷ xs) (y ∷ ys) = IsAlike x y × AreAlike xs ys

  alike_itself : (xs : List Notice) → AreAlike xs xs
  alike_itself [] = tt
  alike_itself (x ∷ xs) = (inl refl, alike_itself xs)

  alike_append : (xs ys us vs : List Notice) → AreAlike xs ys → AreAlike us vs → AreAlike (xs ++ us) (ys ++ vs)
  alike_append [] [] us vs one two = two
  alike_append [] (y ∷ ys) us vs one two = elim one [ ]
  alike_append (x ∷ xs) [] us vs one two = elim one [ ]
  alike_append (x ∷ xs) (y ∷ ys) us vs one two = (one.0, alike_append xs ys us vs one.1 two)

  topic_same : (x y : TableInfo) → x.name ≡ y.name → topic_of identity x ≡ topic_of identity y
  topic_same x y name = ap (λ (n : TableName). identity.prefix ++ codes "." ++ full_name n) name

  -- ---- of a change of another table

  module _ (o : ℕ) (y : TableInfo) (at : slice_get b o ≡ Some y) (other : o ≢ table) where
    elsewhere : (x : TableInfo) → x.name ≡ y.name → bytes_eq (topic_of identity x) (topic_of identity info) ≡ false
    elsewhere x name = subst (λ (t : List ℕ). bytes_eq t (topic_of identity info) ≡ false) (sym (topic_same x y name)) (topics_apart identity b o table y info apart at captured other)

    truncated : notices b (Clear o) ≡ notice o y None Truncated ∷ []
    truncated = ap (λ (i : Option TableInfo). unwrap_or (option_map (λ w. change_notices o w (Clear o)) i) []) at

    clears_alike : (ns : List Notice) → AreOf y.name ns → AreAlike (flat_map (notices b) (map (λ n. Clear o) ns)) ns
    clears_alike [] are = tt
    clears_alike (n ∷ ns) are =
        subst (λ (l : List Notice). AreAlike (l ++ flat_map (notices b) (map (λ n. Clear o) ns)) (n ∷ ns)) (sym truncated)
        (inr (elsewhere y refl, elsewhere n.info are.0, no_clash o y identity.placeholder), clears_alike ns are.1)

  others_alike : (c : Change) → table_of c ≢ table → AreAlike (flat_map (notices b) (map (λ n. Clear (table_of c)) (notices a c))) (notices a c)
  others_alike c other = by (slice_get a (table_of c)) refl
    where
      by : (i : Option TableInfo) → slice_get a (table_of c) ≡ i → AreAlike (flat_map (notices b) (map (λ n. Clear (table_of c)) (notices a c))) (notices a c)
      by None at =
          subst (λ (l : List Notice). AreAlike (flat_map (notices b) (map (λ n. Clear (table_of c)) l)) l) (sym (ap (λ (i : Option TableInfo). unwrap_or (option_map (λ w. change_notices (table_of c) w c) i) []) at)) tt
      by (Some x) at =
          let there = kin_at a b kin (table_of c) x at in
          subst (λ (l : List Notice). AreAlike (flat_map (notices b) (map (λ n. Clear (table_of c)) l)) l) (sym (ap (λ (i : Option TableInfo). unwrap_or (option_map (λ w. change_notices (table_of c) w c) i) []) at))
          (clears_alike (table_of c) there.0 there.1 other (change_notices (table_of c) x c) (subst (λ (n : TableName). AreOf n (change_notices (table_of c) x c)) there.2 (of_change x (table_of c) c)))

  own_alike : (c : Change) → table_of c ≡ table → AreAlike (flat_map (notices b) (c ∷ [])) (notices a c)
  own_alike c own =
      let at : slice_get a (table_of c) ≡ slice_get b (table_of c) = ap (slice_get a) own ∙ (same ∙ sym (ap (slice_get b) own)) in
      let equal : notices a c ≡ notices b c = ap (λ (i : Option TableInfo). unwrap_or (option_map (λ w. change_notices (table_of c) w c) i) []) at in
      subst (λ (l : List Notice). AreAlike l (notices a c)) (equal ∙ sym (append-nil (notices b c))) (alike_itself (notices a c))

  change_alike : (c : Change) → AreAlike (flat_map (notices b) (ticked a table c)) (notices a c)
  change_alike c = by (table_of c == table) refl
    where
      by : (t : Bool) → (table_of c == table) ≡ t → AreAlike (flat_map (notices b) (ticked a table c)) (notices a c)
      by true is =
          subst (λ (l : List Change). AreAlike (flat_map (notices b) l) (notices a c)) (sym (ap (λ (t : Bool). if t then c ∷ [] else map (λ n. Clear (table_of c)) (notices a c)) is))
          (own_alike c (eqb-true (table_of c) table is))
      by false is =
          subst (λ (l : List Change). AreAlike (flat_map (notices b) l) (notices a c)) (sym (ap (λ (t : Bool). if t then c ∷ [] else map (λ n. Clear (table_of c)) (notices a c)) is))
          (others_alike c (not_same (table_of c) table is))

  pub changes_alike : (cs : List Change) → AreAlike (flat_map (notices b) (flat_map (ticked a table) cs)) (flat_map (notices a) cs)
  changes_alike [] = tt
  changes_alike (c ∷ cs) =
      subst (λ (l : List Notice). AreAlike l (notices a c ++ flat_map (notices a) cs)) (sym (flat_map-append (notices b) (ticked a table c) (flat_map (ticked a table) cs)))
      (alike_append (flat_map (notices b) (ticked a table c)) (notices a c) (flat_map (notices b) (flat_map (ticked a table) cs)) (flat_map (notices a) cs) (change_alike c) (changes_alike cs))

  -- ---- values equal to the placeholder

  none_first : (x y : Option Clash) → option_or x y ≡ None → x ≡ None
  none_first None y none = refl
  none_first (Some c) y none = none

  none_rest : (x y : Option Clash) → option_or x y ≡ None → y ≡ None
  none_rest None y none = none
  none_rest (Some c) y none = cc

  none_both : (x y : Option Clash) → x ≡ None → y ≡ None → option_or x y ≡ None
  none_both x y one two = ap (λ (o : Option Clash). option_or o y) one ∙ two

  pub clash_alike : (xs ys : List Notice) → AreAlike xs ys → first_found (notice_clash identity.placeholder) ys ≡ None → first_found (notice_clash identity.placeholder) xs ≡ None
  clash_alike [] ys alike none = refl
  clash_alike (x ∷ xs) [] alike none = elim alike [ ]
  clash_alike (x ∷ xs) (y ∷ ys) alike none =
      let first : notice_clash identity.placeholder y ≡ None = none_first (notice_clash identity.placeholder y) (first_found (notice_clash identity.placeholder) ys) none in
      let rest : first_found (notice_clash identity.placeholder) ys ≡ None = none_rest (notice_clash identity.placeholder y) (first_found (notice_clash identity.placeholder) ys) none in
      none_both (notice_clash identity.placeholder x) (first_found (notice_clash identity.placeholder) xs)
      (elim alike.0 [ inl is ↦ ap (notice_clash identity.placeholder) is ∙ first | inr others ↦ others.2 ])
      (clash_alike xs ys alike.1 rest)

  pub alike_take : (n : ℕ) (xs ys : List Notice) → AreAlike xs ys → AreAlike (take n xs) (take n ys)
  alike_take zero xs ys alike = tt
  alike_take (suc n) [] [] alike = tt
  alike_take (suc n) [] (y ∷ ys) alike = elim alike [ ]
  alike_take (suc n) (x ∷ xs) [] alike = elim alike [ ]
  alike_take (suc n) (x ∷ xs) (y ∷ ys) alike = (alike.0, alike_take n xs ys alike.1)

  -- ---- their records

  module _ (v : Versioned) (now : ℤ) where
    printed_same : (e : Event) → print identity (ticked_commit table v) now e ≡ print identity (plain_commit v) now e
    unfolding source_data
    printed_same e = refl

    nil_alike : (xs ys : List Notice) → AreAlike xs ys → is_nil xs ≡ is_nil ys
    nil_alike [] [] alike = refl
    nil_alike [] (y ∷ ys) alike = elim alike [ ]
    nil_alike (x ∷ xs) [] alike = elim alike [ ]
    nil_alike (x ∷ xs) (y ∷ ys) alike = refl

    event_at : ℕ → ℕ → Bool → Notice → Event
    event_at position ordinal last n = record { notice = n; position = position; ordinal = ordinal; last = last }

    one_like : (position ordinal : ℕ) (p q : Bool) (x y : Notice) → p ≡ q → IsAlike x y
        → IsLike identity info (print identity (ticked_commit table v) now (event_at position ordinal p x)) (print identity (plain_commit v) now (event_at position ordinal q y))
    unfolding event_at
    one_like position ordinal p q x y last (inl is) =
        (refl, inl (printed_same (event_at position ordinal p x) ∙ (ap (λ (n : Notice). print identity (plain_commit v) now (event_at position ordinal p n)) is ∙ ap (λ (l : Bool). print identity (plain_commit v) now (event_at position ordinal l y)) last)))
    one_like position ordinal p q x y last (inr others) = (refl, inr ((others.0, not_of_table identity x.info), (others.1, not_of_table identity y.info)))

    pub records_like : (position ordinal : ℕ) (xs ys : List Notice) → AreAlike xs ys
        → AreLike identity info (map (print identity (ticked_commit table v) now) (numbered position ordinal xs)) (map (print identity (plain_commit v) now) (numbered position ordinal ys))
    unfolding event_at
    records_like position ordinal [] [] alike = tt
    records_like position ordinal [] (y ∷ ys) alike = elim alike [ ]
    records_like position ordinal (x ∷ xs) [] alike = elim alike [ ]
    records_like position ordinal (x ∷ xs) (y ∷ ys) alike = (one_like position ordinal (is_nil xs) (is_nil ys) x y (nil_alike xs ys alike.1) alike.0, records_like position (ordinal + 1) xs ys alike.1)

  -- ---- the commit in the course

  abbrev course_notices : Versioned → List Notice
  course_notices v = flat_map (notices b) (changes_of (ticked_commit table v))

  pub commit_alike : (v : Versioned) → v.infos ≡ a → AreAlike (course_notices v) (flat_map (notices a) (changes_of (plain_commit v)))
  commit_alike v infos_are = subst (λ (l : List TableInfo). AreAlike (flat_map (notices b) (elim (ticked_body l table v.body) [ Changes changes ↦ changes | Mark value ↦ [] ])) (flat_map (notices a) (changes_of (plain_commit v)))) (sym infos_are) (by v.body)
    where
      by : (body : Body) → AreAlike (flat_map (notices b) (elim (ticked_body a table body) [ Changes changes ↦ changes | Mark value ↦ [] ])) (flat_map (notices a) (elim body [ Changes changes ↦ changes | Mark value ↦ [] ]))
      by (Changes changes) = changes_alike changes
      by (Mark value) = tt

-- ---- the records of a window, in the commit of its high watermark and in that of the course

module _ (identity : Identity) (table : ℕ) (v : Versioned) (now : ℤ) (info : TableInfo) where
  read_same : (ordinal : ℕ) (rows : List (Key × Row)) → read_records identity info (ticked_commit table v) now ordinal rows ≡ read_records identity info (plain_commit v) now ordinal rows
  unfolding source_data
  read_same ordinal [] = refl
  read_same ordinal (entry ∷ rows) = ap (λ (l : List Record). read_record identity info (plain_commit v) now ordinal entry ∷ l) (read_same (ordinal + 1) rows)

  pub chunk_same : (rows : List (Key × Row)) (through : Option Key) (done : Bool) → chunk_records identity info rows through done (ticked_commit table v) now ≡ chunk_records identity info rows through done (plain_commit v) now
  chunk_same rows through done = ap (λ (l : List Record). l ++ progress_record identity info (plain_commit v) (length rows) through done ∷ []) (read_same 0 rows)
