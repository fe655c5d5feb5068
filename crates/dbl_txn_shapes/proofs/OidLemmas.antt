-- The OIDs of the captured tables, and lists with another item.
use Rattle.std.proofs.Common.{◌≡◌, ◌⊎◌, inl, inr, ◌∙◌, ℕ, zero, suc, ◌+◌, ◌<◌, arith, Bool, true, false, not, ◌||◌, ◌&&◌, Option, Some, None, List, [], ◌∷◌, ◌++◌, map, take, get_or, length, refl, sym, ap, ap₂, subst}
use Rattle.std.proofs.lemmas.Bool.{eqb-true}
use Rattle.std.proofs.lemmas.List.{take_more, map_push}
use Rattle.std.proofs.lemmas.Slice.Eq.{bytes_eq-Decides}
use Rattle.std.specs.Prelude.{if◌then◌else◌, ◌==◌, option_map, unwrap_or, slice_get, slice_set}
use Rattle.std.specs.List.{position_from}
use Rattle.dbl_pgmsg.specs.declared.messages.Message.{Message}
use Rattle.dbl_pgmsg.specs.declared.messages.Message.TheVariants as says
use Rattle.dbl_pgmsg.specs.declared.messages.RelationColumn.{RelationColumn}
use Rattle.dbl_model_table.specs.declared.table.TableInfo.{TableInfo}
use Rattle.dbl_model_table.specs.declared.table.TableName.{TableName}
use Rattle.dbl_model_table.specs.Tables.{same_name, is_watermark}
use Rattle.dbl_model_table.specs.Infos.{number_of}
use Rattle.dbl_model_table.proofs.Lists.{or_right, or_none, and_left, and_right, same_text, position_from-at}
use Rattle.dbl_model_commit.specs.Past.{table_named, HasNoRelation}
use Rattle.dbl_model_commit.specs.Shapes.{has_other_oid}
use Rattle.dbl_model_commit.proofs.Reshaping.{set_other, position_set}
use Rattle.dbl_txn_shapes.specs.declared.oids.TableOids.{TableOids}
use Rattle.dbl_txn_shapes.specs.declared.oids.TableOids.TheVariants.{Unseen, One, Several}
use Rattle.dbl_txn_shapes.specs.Oids.{other_among, other_at, with_oid, with_oid_of, IsOidsOf, KnowsOids}

same_name-self : (name : TableName) → same_name name name ≡ true
same_name-self name =
    ap₂ (λ (s n : Bool). s && n) ((bytes_eq-Decides name.schema name.schema).1 refl) ((bytes_eq-Decides name.name name.name).1 refl)

-- ---- names and indices

pub names_are : (a b : TableName) → same_name a b ≡ true → a ≡ b
names_are a b same =
    let schema = same_text a.schema b.schema (and_left _ _ same) in
    let name = same_text a.name b.name (and_right _ _ same) in
    ap₂ (λ (s n : List ℕ). let t : TableName = record { schema = s; name = n } in t) schema name

pub record IsNumbered (infos : List TableInfo) (name : TableName) (place : ℕ) : Type 0 where
  pub info : TableInfo
  pub at : slice_get infos place ≡ Some info
  pub name_is : info.name ≡ name

pub numbered : (infos : List TableInfo) (name : TableName) (place : ℕ) → number_of infos name ≡ Some place → IsNumbered infos name place
numbered infos name place is =
    let found = position_from-at (λ (info : TableInfo). same_name info.name name) 0 infos place is in
    let here : found.0 ≡ place = omega (arith, found.1) in
    record {
      info = found.2.0;
      at = subst (λ (n : ℕ). slice_get infos n ≡ Some found.2.0) here found.2.1;
      name_is = names_are found.2.0.name name found.2.2;
    }

-- the index of a name among one table more
learnt_at : (infos : List TableInfo) (info : TableInfo) (name : TableName) (i : ℕ) (n : ℕ)
    → position_from (λ (x : TableInfo). same_name x.name name) i (infos ++ info ∷ []) ≡ Some n
    → (position_from (λ (x : TableInfo). same_name x.name name) i infos ≡ Some n) ⊎ ((n ≡ i + length infos) × (same_name info.name name ≡ true))
learnt_at [] info name i n is = by (same_name info.name name) refl is
  where
    by : (b : Bool) → same_name info.name name ≡ b → (if b then Some i else None) ≡ Some n → (None ≡ Some n) ⊎ ((n ≡ i + 0) × (same_name info.name name ≡ true))
    by true same told = let e : i ≡ n = cc in inr (omega (arith, e), same)
    by false same told = inl told
learnt_at (x ∷ xs) info name i n is = by (same_name x.name name) (λ told. learnt_at xs info name (i + 1) n told) is
  where
    by : (b : Bool)
        → (position_from (λ (x : TableInfo). same_name x.name name) (i + 1) (xs ++ info ∷ []) ≡ Some n
        → (position_from (λ (x : TableInfo). same_name x.name name) (i + 1) xs ≡ Some n) ⊎ ((n ≡ (i + 1) + length xs) × (same_name info.name name ≡ true)))
        → (if b then Some i else position_from (λ (x : TableInfo). same_name x.name name) (i + 1) (xs ++ info ∷ [])) ≡ Some n
        → ((if b then Some i else position_from (λ (x : TableInfo). same_name x.name name) (i + 1) xs) ≡ Some n) ⊎ ((n ≡ i + suc (length xs)) ×
        (same_name info.name name ≡ true))
    by true rest told = inl told
    by false rest told = elim (rest told) [
      | inl there ↦ inl there
      | inr last ↦ (let long : n ≡ (i + 1) + length xs = last.0 in inr (omega (arith, long), last.1))
    ]

-- ---- lists

pub get_front : {X : Type 0} (xs ys : List X) (k : ℕ) (x : X) → slice_get xs k ≡ Some x → slice_get (xs ++ ys) k ≡ Some x
get_front [] ys k x at = cc
get_front (z ∷ xs) ys zero x at = at
get_front (z ∷ xs) ys (suc k) x at = get_front xs ys k x at

get_last : {X : Type 0} (xs : List X) (y : X) → slice_get (xs ++ y ∷ []) (length xs) ≡ Some y
get_last [] y = refl
get_last (x ∷ xs) y = get_last xs y

length_push : {X : Type 0} (xs : List X) (y : X) → length (xs ++ y ∷ []) ≡ suc (length xs)
length_push [] y = refl
length_push (x ∷ xs) y = ap suc (length_push xs y)

pub length_set : {X : Type 0} (xs : List X) (k : ℕ) (y : X) → length (slice_set xs k y) ≡ length xs
length_set [] k y = refl
length_set (x ∷ xs) zero y = refl
length_set (x ∷ xs) (suc k) y = ap suc (length_set xs k y)

set_here : {X : Type 0} (xs : List X) (k : ℕ) (x y : X) → slice_get xs k ≡ Some x → slice_get (slice_set xs k y) k ≡ Some y
set_here [] k x y at = cc
set_here (z ∷ xs) zero x y at = refl
set_here (z ∷ xs) (suc k) x y at = set_here xs k x y at

pub set_itself : {X : Type 0} (xs : List X) (k : ℕ) (x : X) → slice_get xs k ≡ Some x → slice_set xs k x ≡ xs
set_itself [] k x at = refl
set_itself (z ∷ xs) zero x at = let e : z ≡ x = cc in ap (λ (y : _). y ∷ xs) (sym e)
set_itself (z ∷ xs) (suc k) x at = ap (λ (l : List _). z ∷ l) (set_itself xs k x at)

-- ---- one more message

-- one that isn't a Relation of the table
pub other_stays : (oid : ℕ) (name : TableName) (given : ℕ) (ns nm : List ℕ) (identity : ℕ) (columns : List RelationColumn) (ms : List Message)
    → same_name (table_named ns nm) name ≡ false
    → has_other_oid oid name (says.Relation given ns nm identity columns ∷ ms) ≡ has_other_oid oid name ms
other_stays oid name given ns nm identity columns ms other = ap (λ (b : Bool). b && not (given == oid) || has_other_oid oid name ms) other

none_other : (oid : ℕ) (name : TableName) (ms : List Message) → HasNoRelation name ms → has_other_oid oid name ms ≡ false
none_other oid name [] none = refl
none_other oid name (says.Relation given ns nm identity columns ∷ ms) none =
    other_stays oid name given ns nm identity columns ms (apart (same_name (table_named ns nm) name) refl) ∙ none_other oid name ms none.1
  where
    apart : (b : Bool) → same_name (table_named ns nm) name ≡ b → b ≡ false
    apart true same = absurd (none.0 (names_are (table_named ns nm) name same))
    apart false same = refl
none_other oid name (says.Begin l t x ∷ ms) none = none_other oid name ms none
none_other oid name (says.Commit f l e t ∷ ms) none = none_other oid name ms none
none_other oid name (says.Origin l n ∷ ms) none = none_other oid name ms none
none_other oid name (says.TypeName o n m ∷ ms) none = none_other oid name ms none
none_other oid name (says.Insert o new ∷ ms) none = none_other oid name ms none
none_other oid name (says.Update o before new ∷ ms) none = none_other oid name ms none
none_other oid name (says.Delete o before ∷ ms) none = none_other oid name ms none
none_other oid name (says.Truncate options oids ∷ ms) none = none_other oid name ms none
none_other oid name (says.Logical f l p c ∷ ms) none = none_other oid name ms none

-- a Relation of a table that isn't captured
pub oids_passed : (infos : List TableInfo) (ms : List Message) (list : List TableOids) (given : ℕ) (ns nm : List ℕ) (identity : ℕ)
    (columns : List RelationColumn) → KnowsOids infos ms list
    → (is_watermark (table_named ns nm) ≡ true) ⊎ (number_of infos (table_named ns nm) ≡ None)
    → KnowsOids infos (says.Relation given ns nm identity columns ∷ ms) list
oids_passed infos ms list given ns nm identity columns knows passed = record {
  long = knows.long;
  each = λ name place no_mark at.
      let was = knows.each name place no_mark at in (
        was.0,
        was.1,
        λ oid. other_stays oid name given ns nm identity columns ms (apart name place no_mark at (same_name
            (table_named ns nm) name) refl passed) ∙ was.2 oid,
      );
}
  where
    apart : (name : TableName) (place : ℕ) → is_watermark name ≡ false → number_of infos name ≡ Some place → (b : Bool) → same_name (table_named ns nm) name ≡ b
        → (is_watermark (table_named ns nm) ≡ true) ⊎ (number_of infos (table_named ns nm) ≡ None) → b ≡ false
    apart name place no_mark at false same passed = refl
    apart name place no_mark at true same (inl mark) =
        let both : true ≡ false = sym mark ∙ ap is_watermark (names_are (table_named ns nm) name same) ∙ no_mark in cc
    apart name place no_mark at true same (inr none) =
        let both : None ≡ Some place = sym none ∙ ap (number_of infos) (names_are (table_named ns nm) name same) ∙ at in cc

same_twice : (a : Bool) → (a || a) ≡ a
same_twice true = refl
same_twice false = refl

-- with one OID more of a table there is another than this one if there was, or if the new one is another
with_one : (oids : TableOids) (oid given : ℕ) → (not (given == oid) || other_among oids oid) ≡ other_among (with_oid given oids) oid
with_one Unseen oid given = or_none (not (given == oid))
with_one Several oid given = or_right (not (given == oid))
with_one (One first) oid given = by (first == given) refl
  where
    by : (b : Bool) → (first == given) ≡ b → (not (given == oid) || not (first == oid)) ≡ other_among (if not b then Several else One given) oid
    by true is =
        ap (λ (n : ℕ). not (given == oid) || not (n == oid)) (eqb-true first given is) ∙ same_twice (not (given == oid))
    by false is = apart (given == oid) refl
      where
        apart : (c : Bool) → (given == oid) ≡ c → (not c || not (first == oid)) ≡ true
        apart false other = refl
        apart true same =
            ap (λ (n : ℕ). not (first == n)) (sym (eqb-true given oid same)) ∙ ap not is

module _ (infos : List TableInfo) (ms : List Message) (list : List TableOids) (given : ℕ) (ns nm : List ℕ) (identity : ℕ) (columns : List RelationColumn)
    (knows : KnowsOids infos ms list) where
  abbrev here : TableName
  here = table_named ns nm

  abbrev told : List Message
  told = says.Relation given ns nm identity columns ∷ ms

  -- a Relation of a captured table
  pub oids_seen : (place : ℕ) (oids : TableOids) → number_of infos here ≡ Some place → slice_get list place ≡ Some oids → IsOidsOf ms here oids
      → KnowsOids infos told (slice_set list place (with_oid given oids))
  oids_seen place oids at there is = record {
    long = length_set list place (with_oid given oids) ∙ knows.long;
    each = λ name j no_mark at_j. by name j no_mark at_j (same_name here name) refl;
  }
    where
      by : (name : TableName) (j : ℕ) → is_watermark name ≡ false → number_of infos name ≡ Some j → (b : Bool) → same_name here name ≡ b
          → (found : TableOids) × (slice_get (slice_set list place (with_oid given oids)) j ≡ Some found) × IsOidsOf told name found
      by name j no_mark at_j true same =
          let names = names_are here name same in
          let both : Some j ≡ Some place = sym at_j ∙ ap (number_of infos) (sym names) ∙ at in
          let e : place ≡ j = cc in (
            with_oid given oids,
            subst (λ (k : ℕ). slice_get (slice_set list place (with_oid given oids)) k ≡ Some (with_oid given oids)) e (set_here list place oids
                (with_oid given oids) there),
            λ oid. ap (λ (b : Bool). b && not (given == oid) || has_other_oid oid name ms) same
                ∙ ap (λ (b : Bool). not (given == oid) || b) (ap (λ (n : TableName). has_other_oid oid n ms) (sym names) ∙ is oid)
                ∙ with_one oids oid given,
          )
      by name j no_mark at_j false same =
          let was = knows.each name j no_mark at_j in
          let apart : j ≡ place → ⊥ = (λ e.
          let mine = numbered infos here place at in
          let its = numbered infos name j at_j in
          let both : Some its.info ≡ Some mine.info = sym its.at ∙ ap (slice_get infos) e ∙ mine.at in
          let one : its.info ≡ mine.info = cc in
          let names : here ≡ name = sym mine.name_is ∙ ap (λ (i : TableInfo). i.name) (sym one) ∙ its.name_is in
          let no : true ≡ false = sym (same_name-self here) ∙ ap (same_name here) names ∙ same in
          cc) in
          (was.0, set_other list place j (with_oid given oids) apart ∙ was.1, λ oid. other_stays oid name given ns nm identity columns ms same ∙ was.2 oid)

-- a table of which there was no Relation
pub oids_learnt : (infos : List TableInfo) (ms : List Message) (list : List TableOids) (info : TableInfo) → KnowsOids infos ms list → HasNoRelation info.name ms
    → KnowsOids (infos ++ info ∷ []) ms (list ++ Unseen ∷ [])
oids_learnt infos ms list info knows none = record {
  long = length_push list _ ∙ ap suc knows.long ∙ sym (length_push infos info);
  each = λ name j no_mark at. by name j no_mark (learnt_at infos info name 0 j at);
}
  where
    by : (name : TableName) (j : ℕ) → is_watermark name ≡ false → (number_of infos name ≡ Some j) ⊎ ((j ≡ 0 + length infos) × (same_name info.name name ≡ true))
        → (found : TableOids) × (slice_get (list ++ Unseen ∷ []) j ≡ Some found) × IsOidsOf ms name found
    by name j no_mark (inl at) =
        let was = knows.each name j no_mark at in
        (was.0, get_front list _ j was.0 was.1, was.2)
    by name j no_mark (inr last) =
        let names : info.name ≡ name = names_are info.name name last.1 in
        let e : length list ≡ j = omega (arith, last.0, knows.long) in (
          Unseen,
          subst (λ (k : ℕ). slice_get (list ++ Unseen ∷ []) k ≡ Some Unseen) e (get_last list Unseen),
          λ oid. none_other oid name ms (subst (λ (n : TableName). HasNoRelation n ms) names none),
        )

-- a message that is no Relation
pub oids_kept : (infos : List TableInfo) (m : Message) (ms : List Message) (list : List TableOids)
    → ((oid : ℕ) (name : TableName) → has_other_oid oid name (m ∷ ms) ≡ has_other_oid oid name ms)
    → KnowsOids infos ms list → KnowsOids infos (m ∷ ms) list
oids_kept infos m ms list kept knows = record {
  long = knows.long;
  each = λ name place no_mark at. let was = knows.each name place no_mark at in (was.0, was.1, λ oid. kept oid name ∙ was.2 oid);
}

-- a table in other columns
pub oids_reshaped : (infos : List TableInfo) (ms : List Message) (list : List TableOids) (place : ℕ) (old new : TableInfo)
    → slice_get infos place ≡ Some old → new.name ≡ old.name
    → KnowsOids infos ms list → KnowsOids (slice_set infos place new) ms list
oids_reshaped infos ms list place old new at named knows = record {
  long = knows.long ∙ sym (length_set infos place new);
  each = λ name j no_mark at_j. knows.each name j no_mark
      (sym (position_set (λ (info : TableInfo). same_name info.name name) 0 infos place old new at (ap (λ (n : TableName). same_name n name) named)) ∙ at_j);
}

-- the OIDs that a Relation of a captured table finds
pub record Finds (infos : List TableInfo) (ms : List Message) (list : List TableOids) (name : TableName) (place given : ℕ) : Type 0 where
  pub oids : TableOids
  pub there : slice_get list place ≡ Some oids
  pub is : IsOidsOf ms name oids
  pub other : other_at list place given ≡ has_other_oid given name ms
  pub seen : with_oid_of place given list (slice_get list place) ≡ slice_set list place (with_oid given oids)

pub finds : (infos : List TableInfo) (ms : List Message) (list : List TableOids) (name : TableName) (place given : ℕ) → KnowsOids infos ms list
    → is_watermark name ≡ false
    → number_of infos name ≡ Some place → Finds infos ms list name place given
finds infos ms list name place given knows no_mark at =
    let was = knows.each name place no_mark at in
    record {
      oids = was.0;
      there = was.1;
      is = was.2;
      other = ap (λ (o : Option TableOids). unwrap_or (option_map (λ oids. other_among oids given) o) false) was.1 ∙ sym (was.2 given);
      seen = ap (with_oid_of place given list) was.1;
    }

-- ---- names of columns

pub name_pushed : {A : Type 0} (name : ℕ → A) (places : List ℕ) (i : ℕ) (front more : List A) (x : A) → front ≡ map name (take i places)
    → i < length places → more ≡ front ++ x ∷ []
    → x ≡ name (get_or places i 0) → more ≡ map name (take (i + 1) places)
name_pushed {A = A} name places i front more x so_far lt pushed is =
    pushed ∙ (ap₂ (λ (l : List A) (y : A). l ++ y ∷ []) so_far is
    ∙ sym (ap (map name) (take_more places i 0 lt) ∙ map_push name (take i places) (get_or places i 0)))
