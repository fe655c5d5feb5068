-- A key's text is of one key, and rows have one image.
use Rattle.std.proofs.Common.{◌≡◌, ◌∙◌, ◌≤◌, ◌<◌, ◌^◌, inl, inr, ℕ, ℤ, zero, suc, pos, negsuc, Bool, true, false, not, ◌&&◌, ◌||◌, Option, Some, None, List, [], ◌∷◌, length, map, refl, sym, ap, subst, arith}
use Rattle.std.specs.Prelude.{if◌then◌else◌, option_map, slice_get}
use lib.Signed.{mag}
use Rattle.std.specs.List.{list_any}
use Rattle.std.specs.Str.{bytes_eq}
use Rattle.std.specs.Ordering.{nat_cmp, match_ordering, ordering_reverse}
use Rattle.std.specs.declared.cmp.Ordering.{Ordering}
use Rattle.std.specs.declared.cmp.Ordering.TheVariants.{Less, Equal, Greater}
use Rattle.std.specs.Cmp.Lexicographic.{slice_cmp}
use Rattle.std.proofs.lemmas.Cmp.{nat_list_cmp_total}
use Rattle.std.proofs.lemmas.List.{length-map}
use Rattle.std.proofs.lemmas.Slice.Eq.{bytes_eq-Decides}
use Rattle.serde_json.specs.Data.{Data, number, string, Members, no_members, member, put, depth, members_depth}
use Rattle.serde_json.specs.Find.{of_integer, get, get_member}
use Rattle.serde_json.specs.Written.{compact_text}
use Rattle.serde_json.proofs.Views.{get_member-put, get_member-put_other}
use Rattle.dbl_record.specs.Whole.{IsWhole, MembersAreWhole, IsBelow}
use Rattle.dbl_record.proofs.Back.{texts_tell_data}
use Rattle.dbl_value_types.specs.declared.column_type.PgType.{PgType}
use Rattle.dbl_value_types.specs.declared.value.Val.{Val}
use Rattle.dbl_value_types.specs.declared.value.Val.TheVariants as val
use Rattle.dbl_value_types.specs.Values.{json_data, IsOf}
use Rattle.dbl_value_types.specs.Time.Stamps.{is_instant, zulu_text}
use Rattle.dbl_value_types.proofs.JsonTexts.{IsInRange, IsOf-IsInRange, json_tells_cells}
use Rattle.dbl_model_table.specs.declared.row.Key.{Key}
use Rattle.dbl_model_table.specs.declared.table.TableName.{TableName}
use Rattle.dbl_model_table.specs.declared.table.TableInfo.{TableInfo}
use Rattle.dbl_model_table.specs.declared.identity.Identity.{Identity}
use Rattle.dbl_model_table.specs.Tables.{same_name, are_distinct, type_at}
use Rattle.dbl_model_table.specs.Infos.{name_at, key_names, key_types, columns_of}
use Rattle.dbl_model_table.specs.Rows.{Rows}
use Rattle.dbl_model_history.specs.Fit.{AreOf, IsKeyOf}
use Rattle.dbl_model_history.specs.Image.{members_of, key_data, key_text, row_json_texts, image_row, Names}
use Rattle.dbl_model_history.specs.Laws.{AreDistinctTables, KeyTextsNameKeys, RowsHaveOneImage}
use Rattle.dbl_model_table.proofs.Lists.{bool_case, and_left, and_right, or_false, text_itself}
use Rattle.dbl_model_table.proofs.InfoLemmas.{key_names_distinct, topic_one, true_false}

-- ---- the members of a key are whole and shallow

number_whole : (z : ℤ) → mag z < 2 ^ 63 → IsWhole (number (of_integer z))
number_whole (pos n) small = omega (arith, small)
number_whole (negsuc n) small = omega (arith, small)

whole_in_range : (v : Val) → IsInRange v → IsWhole (json_data v)
whole_in_range val.Null range = tt
whole_in_range (val.Bool truth) range = tt
whole_in_range (val.Int z) range = number_whole z range
whole_in_range (val.Text text) range = tt
whole_in_range (val.Bytes bytes) range = tt
whole_in_range (val.Date z) range = number_whole z range
whole_in_range (val.Time z) range = number_whole z range
whole_in_range (val.Stamp z) range = number_whole z range
whole_in_range (val.StampTz z) range = rw range tt

whole_value : (ty : PgType) (v : Val) → IsOf ty v → IsWhole (json_data v)
whole_value ty v is = whole_in_range v (IsOf-IsInRange ty v is)

below_more : (k l : List ℕ) (ms : Members) → slice_cmp nat_cmp k l ≡ Less → IsBelow l ms → IsBelow k ms
below_more k l no_members lt below = tt
below_more k l (member m d ms) lt below = (nat_list_cmp_total.trans k l m lt below.0, below_more k l ms lt below.1)

below_put : (l k : List ℕ) (d : Data) (ms : Members) → slice_cmp nat_cmp l k ≡ Less → IsBelow l ms → IsBelow l (put k d ms)
below_put l k d no_members lt below = (lt, tt)
below_put l k d (member m e ms) lt below = step (slice_cmp nat_cmp k m) (below_put l k d ms lt below.1)
  where
    step : (o : Ordering) → IsBelow l (put k d ms) → IsBelow l (match_ordering o (member k d (member m e ms)) (member m d ms) (member m e (put k d ms)))
    step Less later = (lt, (below.0, below.1))
    step Equal later = (below.0, below.1)
    step Greater later = (below.0, later)

pub put_whole : (k : List ℕ) (d : Data) (ms : Members) → IsWhole d → MembersAreWhole ms → MembersAreWhole (put k d ms)
put_whole k d no_members whole rest = (whole, tt, tt)
put_whole k d (member l e ms) whole rest = step (slice_cmp nat_cmp k l) refl (put_whole k d ms whole rest.2)
  where
    step : (o : Ordering) → slice_cmp nat_cmp k l ≡ o → MembersAreWhole (put k d ms) → MembersAreWhole (match_ordering o (member k d (member l e ms)) (member l d ms) (member l e (put k d ms)))
    step Less is later = (whole, (is, below_more k l ms is rest.1), (rest.0, rest.1, rest.2))
    step Equal is later = (whole, rest.1, rest.2)
    step Greater is later = (rest.0, below_put l k d ms (nat_list_cmp_total.antisymm l k ∙ ap ordering_reverse is) rest.1, later)

put_shallow : (k : List ℕ) (d : Data) (ms : Members) → depth d ≤ 0 → members_depth ms ≤ 0 → members_depth (put k d ms) ≤ 0
put_shallow k d no_members low rest = omega arith
put_shallow k d (member l e ms) low rest = step (slice_cmp nat_cmp k l) (put_shallow k d ms low (omega arith))
  where
    step : (o : Ordering) → members_depth (put k d ms) ≤ 0 → members_depth (match_ordering o (member k d (member l e ms)) (member l d ms) (member l e (put k d ms))) ≤ 0
    step Less later = omega arith
    step Equal later = omega arith
    step Greater later = omega arith

flat_value : (v : Val) → depth (json_data v) ≤ 0
flat_value val.Null = omega arith
flat_value (val.Bool truth) = omega arith
flat_value (val.Int z) = omega arith
flat_value (val.Text text) = omega arith
flat_value (val.Bytes bytes) = omega arith
flat_value (val.Date z) = omega arith
flat_value (val.Time z) = omega arith
flat_value (val.Stamp z) = omega arith
flat_value (val.StampTz z) = either (is_instant z)
  where
    either : (b : Bool) → depth (if b then string (zulu_text z) else number (of_integer z)) ≤ 0
    either true = omega arith
    either false = omega arith

-- named values are whole members: none of them is a fraction
pub members_whole : (names : List (List ℕ)) (types : List PgType) (values : List Val) → AreOf types values → MembersAreWhole (members_of names values)
members_whole [] types values are = tt
members_whole (name ∷ names) types [] are = tt
members_whole (name ∷ names) [] (v ∷ values) are = elim are [ ]
members_whole (name ∷ names) (ty ∷ types) (v ∷ values) are = put_whole name (json_data v) (members_of names values) (whole_value ty v are.0) (members_whole names types values are.1)

-- and stand no deeper than their object
pub members_shallow : (names : List (List ℕ)) (values : List Val) → members_depth (members_of names values) ≤ 0
members_shallow [] values = omega arith
members_shallow (name ∷ names) [] = omega arith
members_shallow (name ∷ names) (v ∷ values) = put_shallow name (json_data v) (members_of names values) (flat_value v) (members_shallow names values)

-- ---- what the members say of the cells

pub members_none : (names : List (List ℕ)) (values : List Val) (q : List ℕ) → list_any (bytes_eq q) names ≡ false → get_member q (members_of names values) ≡ None
members_none [] values q new = refl
members_none (name ∷ names) [] q new = refl
members_none (name ∷ names) (v ∷ values) q new =
    let apart = or_false (bytes_eq q name) (list_any (bytes_eq q) names) new in
    get_member-put_other q name (json_data v) (members_of names values) (λ same. true_false (sym ((bytes_eq-Decides q name).1 same) ∙ apart.0)) ∙ members_none names values q apart.1

not_true : (b : Bool) → not b ≡ true → b ≡ false
not_true true h = sym h
not_true false h = refl

cells_one : (names : List (List ℕ)) (types : List PgType) (a b : List Val) → length names ≡ length types → are_distinct bytes_eq names ≡ true → AreOf types a → AreOf types b
    → ((q : List ℕ) → get_member q (members_of names a) ≡ get_member q (members_of names b)) → a ≡ b
cells_one names [] [] [] long apart of_a of_b same = refl
cells_one names [] [] (w ∷ b) long apart of_a of_b same = elim of_b [ ]
cells_one names [] (v ∷ a) b long apart of_a of_b same = elim of_a [ ]
cells_one names (ty ∷ types) [] b long apart of_a of_b same = elim of_a [ ]
cells_one names (ty ∷ types) (v ∷ a) [] long apart of_a of_b same = elim of_b [ ]
cells_one [] (ty ∷ types) (v ∷ a) (w ∷ b) long apart of_a of_b same = absurd (omega (arith, long))
cells_one (name ∷ names) (ty ∷ types) (v ∷ a) (w ∷ b) long apart of_a of_b same =
    let new : list_any (bytes_eq name) names ≡ false = not_true (list_any (bytes_eq name) names) (and_left _ _ apart) in
    let found : Some (json_data v) ≡ Some (json_data w) = sym (get_member-put name (json_data v) (members_of names a)) ∙ (same name ∙ get_member-put name (json_data w) (members_of names b)) in
    let data_same : json_data v ≡ json_data w = cc in
    let first : v ≡ w = json_tells_cells ty v w (inr of_a.0) (inr of_b.0) (ap compact_text data_same) in
    let rest : a ≡ b = cells_one names types a b (omega (arith, long)) (and_right (not (list_any (bytes_eq name) names)) _ apart) of_a.1 of_b.1
    (λ q. elim (bool_case (bytes_eq q name)) [
      | inl here ↦ (
          let e : q ≡ name = (bytes_eq-Decides q name).0 here in
          let none : list_any (bytes_eq q) names ≡ false = ap (λ (n : List ℕ). list_any (bytes_eq n) names) e ∙ new in
          members_none names a q none ∙ sym (members_none names b q none))
      | inr other ↦ (
          let differ : q ≡ name → ⊥ = λ e. true_false (sym ((bytes_eq-Decides q name).1 e) ∙ other) in
          sym (get_member-put_other q name (json_data v) (members_of names a) differ) ∙ (same q ∙ get_member-put_other q name (json_data w) (members_of names b) differ))
    ]) in
    ap (λ (x : Val). x ∷ a) first ∙ ap (λ (l : List Val). w ∷ l) rest

pub key_one : KeyTextsNameKeys
key_one info a b of_a of_b same =
    let names : List (List ℕ) = key_names info in
    let whole_a : MembersAreWhole (members_of names a.cells) = members_whole names (key_types info) a.cells of_a in
    let whole_b : MembersAreWhole (members_of names b.cells) = members_whole names (key_types info) b.cells of_b in
    let low_a : depth (key_data info a) ≤ 127 = omega (arith, members_shallow names a.cells) in
    let low_b : depth (key_data info b) ≤ 127 = omega (arith, members_shallow names b.cells) in
    let e : key_data info a ≡ key_data info b = texts_tell_data (key_data info a) (key_data info b) whole_a whole_b low_a low_b same in
    let long : length names ≡ length (key_types info) = length-map info.key (name_at info.columns) ∙ sym (length-map info.key (type_at info.columns)) in
    let cells : a.cells ≡ b.cells = cells_one names (key_types info) a.cells b.cells long (key_names_distinct info) of_a of_b (λ q. ap (get q) e) in
    λ i. record { cells = cells i }

-- ---- one table

same_name-itself : (a b : TableName) → a ≡ b → same_name a b ≡ true
same_name-itself a b e = ap (λ (n : TableName). same_name a n) (sym e) ∙ (ap (λ (t : Bool). t && bytes_eq a.name a.name) (text_itself a.schema) ∙ text_itself a.name)

named : (infos : List TableInfo) (i : ℕ) (info : TableInfo) (name : TableName) → slice_get infos i ≡ Some info → name ≡ info.name → list_any (same_name name) (map (λ (x : TableInfo). x.name) infos) ≡ true
named [] i info name at is = cc
named (x ∷ infos) zero info name at is =
    let e : x ≡ info = cc in
    ap (λ (b : Bool). b || list_any (same_name name) (map (λ (y : TableInfo). y.name) infos)) (same_name-itself name x.name (is ∙ ap (λ (y : TableInfo). y.name) (sym e)))
named (x ∷ infos) (suc i) info name at is = step (same_name name x.name) (named infos i info name at is)
  where
    step : (b : Bool) → list_any (same_name name) (map (λ (y : TableInfo). y.name) infos) ≡ true → (b || list_any (same_name name) (map (λ (y : TableInfo). y.name) infos)) ≡ true
    step true h = refl
    step false h = h

pub table_one : (infos : List TableInfo) (i j : ℕ) (x y : TableInfo) → AreDistinctTables infos → slice_get infos i ≡ Some x → slice_get infos j ≡ Some y → x.name ≡ y.name → i ≡ j
table_one [] i j x y apart at_x at_y same = cc
table_one (z ∷ infos) zero zero x y apart at_x at_y same = refl
table_one (z ∷ infos) zero (suc j) x y apart at_x at_y same =
    let e : z ≡ x = cc in
    absurd (true_false (sym (named infos j y z.name at_y (ap (λ (w : TableInfo). w.name) e ∙ same)) ∙ not_true (list_any (same_name z.name) (map (λ (w : TableInfo). w.name) infos)) (and_left _ _ apart)))
table_one (z ∷ infos) (suc i) zero x y apart at_x at_y same =
    let e : z ≡ y = cc in
    absurd (true_false (sym (named infos i x z.name at_x (ap (λ (w : TableInfo). w.name) e ∙ sym same)) ∙ not_true (list_any (same_name z.name) (map (λ (w : TableInfo). w.name) infos)) (and_left _ _ apart)))
table_one (z ∷ infos) (suc i) (suc j) x y apart at_x at_y same = ap suc (table_one infos i j x y (and_right (not (list_any (same_name z.name) (map (λ (w : TableInfo). w.name) infos))) _ apart) at_x at_y same)

-- a topic and a text are of one table and key
pub names_one : (identity : Identity) (infos : List TableInfo) (topic text : List ℕ) (t u : ℕ) (k l : Key) → AreDistinctTables infos → Names identity infos topic text t k → Names identity infos topic text u l → (t ≡ u) × (k ≡ l)
names_one identity infos topic text t u k l apart a b =
    let x : TableInfo = a.info in
    let y : TableInfo = b.info in
    let same : x.name ≡ y.name = topic_one identity x y (a.topic_is ∙ sym b.topic_is) in
    let table : t ≡ u = table_one infos t u x y apart a.captured b.captured same in
    let found : Some x ≡ Some y = sym a.captured ∙ (ap (slice_get infos) table ∙ b.captured) in
    let info : x ≡ y = cc in
    let is_key : IsKeyOf x l = subst (λ (z : TableInfo). IsKeyOf z l) (sym info) b.is_key in
    (table, key_one x k l a.is_key is_key (a.text_is ∙ sym (ap (λ (z : TableInfo). key_text z l) info ∙ b.text_is)))

gone : (infos : List TableInfo) (at : Rows) (table : ℕ) (key : Key) (texts : List ℕ → Option (List ℕ)) → image_row infos at table key ≡ Some texts → at table key ≡ None → ⊥
gone infos at table key texts row none =
    let e : None ≡ Some texts = sym (ap (option_map (row_json_texts (columns_of infos table))) none) ∙ row in
    cc

pub image_one : RowsHaveOneImage
image_one identity infos at topic text None None apart a b = refl
image_one identity infos at topic text None (Some y) apart a b = absurd (gone infos at b.table b.key y b.row (a b.table b.key b.names))
image_one identity infos at topic text (Some x) None apart a b = absurd (gone infos at a.table a.key x a.row (b a.table a.key a.names))
image_one identity infos at topic text (Some x) (Some y) apart a b =
    let same = names_one identity infos topic text a.table b.table a.key b.key apart a.names b.names in
    sym a.row ∙ (ap (λ (t : ℕ). image_row infos at t a.key) same.0 ∙ (ap (image_row infos at b.table) same.1 ∙ b.row))
