-- The first value equal to the placeholder, change by change and row by row.
use Rattle.std.proofs.Common.{◌≡◌, ◌∙◌, ◌⊎◌, inl, inr, ℕ, suc, zero, ◌+◌, ◌<◌, ◌≤◌, Bool, true, false, List, [], ◌∷◌, ◌++◌, length, drop, map, flat_map, slice_get, Option, Some, None, refl, sym, ap, ap₂, subst, arith, min}
use Rattle.std.specs.Prelude.{IsSome, option_map, unwrap_or, if◌then◌else◌}
use Rattle.std.specs.Option.{option_or}
use Rattle.dbl_value_types.specs.declared.value.Val.{Val}
use Rattle.dbl_model_table.specs.declared.table.TableInfo.{TableInfo}
use Rattle.dbl_model_table.specs.declared.row.Key.{Key}
use Rattle.dbl_model_table.specs.declared.row.Row.{Row}
use Rattle.dbl_model_table.specs.declared.change.Cell.{Cell}
use Rattle.dbl_model_table.specs.declared.change.Cell.TheVariants.{Given, Unchanged}
use Rattle.dbl_model_table.specs.declared.change.Change.{Change}
use Rattle.dbl_model_table.specs.declared.change.Change.TheVariants.{Insert, Update, Delete, Clear}
use Rattle.dbl_model_table.specs.Tables.{column_names}
use Rattle.dbl_model_table.specs.Keys.{new_key_of, same_key, given_or_null}
use Rattle.dbl_model_table.specs.Rows.{all_given, table_of}
use Rattle.dbl_model_event.specs.Events.{Updated, notice, move_notices, notices, change_notices}
use Rattle.dbl_model_event.specs.Clashes.{Clash, is_clash, clash_among, old_cells, clash_at, notice_clash, first_found, rows_clash}
use Rattle.dbl_model_table.proofs.KeyLemmas.{same_key-itself}
use Rattle.dbl_envelope.specs.Suits.{SuitsUpdate, SuitsTable}
use Rattle.dbl_envelope.specs.Clashing.{clash_error, IsClash, change_clash, notices_clash, row_clash}
use Rattle.dbl_envelope.specs.declared.error.EnvelopeError.{EnvelopeError}
use Rattle.dbl_envelope_json.proofs.LayoutLemmas.{drop_here}

or_assoc : {B : Type 0} (o p q : Option B) → option_or o (option_or p q) ≡ option_or (option_or o p) q
or_assoc None p q = refl
or_assoc (Some b) p q = refl

pub found_append : {A B : Type 0} (f : A → Option B) (xs ys : List A) → first_found f (xs ++ ys) ≡ option_or (first_found f xs) (first_found f ys)
found_append f [] ys = refl
found_append f (x ∷ xs) ys = ap (option_or (f x)) (found_append f xs ys) ∙ or_assoc (f x) (first_found f xs) (first_found f ys)

or_none : {A : Type 0} (o : Option A) → option_or o None ≡ o
or_none None = refl
or_none (Some a) = refl

pub none_among : (p : List ℕ) (names : List (List ℕ)) → clash_among p names [] ≡ None
none_among p [] = refl
none_among p (name ∷ names) = refl

at_or : (info : TableInfo) (a b : Option (List ℕ)) → option_or (clash_at info a) (clash_at info b) ≡ clash_at info (option_or a b)
at_or info None b = refl
at_or info (Some a) b = refl

-- a row whose cells are all given is these cells
given_back : (cells : List Cell) → IsSome (all_given cells) → map Given (map given_or_null cells) ≡ cells
given_back [] h = refl
given_back (Given v ∷ cells) h = ap (λ cs. Given v ∷ cs) (given_back cells (inner (all_given cells) h))
  where
    inner : (o : Option (List Val)) → IsSome (option_map (λ row. v ∷ row) o) → IsSome o
    inner None h = h
    inner (Some row) h = refl
given_back (Unchanged ∷ cells) h = cc

moved_given : (info : TableInfo) (from : Key) (cells : List Cell) → (from ≡ new_key_of info cells) ⊎ IsSome (all_given cells) → same_key from (new_key_of info cells) ≡ false → IsSome (all_given cells)
moved_given info from cells (inl stays) moved =
    let same : same_key from (new_key_of info cells) ≡ true = ap (same_key from) (sym stays) ∙ same_key-itself from in
    let contra : true ≡ false = sym same ∙ moved in
    cc
moved_given info from cells (inr given) moved = given

-- an update that moves its key leaves no cell unsent
pub moves_given : (info : TableInfo) (from : Key) (old : Option Row) (cells : List Cell) → SuitsUpdate info from old cells → same_key from (new_key_of info cells) ≡ false → IsSome (all_given cells)
moves_given info from old cells suits moved = moved_given info from cells suits.stays_or_moves moved

-- what an update tells, whether it leaves the key as it is or moves it
update_kept : (p : List ℕ) (t : ℕ) (info : TableInfo) (key : Key) (old : Option Row) (cells : List Cell)
    → first_found (notice_clash p) (notice t info (Some key) (Updated old cells) ∷ [])
    ≡ clash_at info (option_or (clash_among p (column_names info.columns) (old_cells old)) (clash_among p (column_names info.columns) cells))
update_kept p t info key old cells = or_none (clash_at info (option_or (clash_among p (column_names info.columns) (old_cells old)) (clash_among p (column_names info.columns) cells)))

update_moved : (p : List ℕ) (t : ℕ) (info : TableInfo) (key : Key) (old : Option Row) (cells : List Cell) → IsSome (all_given cells)
    → first_found (notice_clash p) (move_notices t info key (new_key_of info cells) old (record { cells = map given_or_null cells }))
    ≡ clash_at info (option_or (clash_among p (column_names info.columns) (old_cells old)) (clash_among p (column_names info.columns) cells))
update_moved p t info key old cells given =
    simp (none_among, or_none) (rw (given_back cells given) (at_or info (clash_among p (column_names info.columns) (old_cells old)) (clash_among p (column_names info.columns) cells)))

update_clash : (p : List ℕ) (t : ℕ) (info : TableInfo) (key : Key) (old : Option Row) (cells : List Cell) (b : Bool) → (b ≡ false → IsSome (all_given cells))
    → first_found (notice_clash p) (if b then notice t info (Some key) (Updated old cells) ∷ [] else move_notices t info key (new_key_of info cells) old (record { cells = map given_or_null cells }))
    ≡ clash_at info (option_or (clash_among p (column_names info.columns) (old_cells old)) (clash_among p (column_names info.columns) cells))
update_clash p t info key old cells true given = update_kept p t info key old cells
update_clash p t info key old cells false given = update_moved p t info key old cells (given refl)

-- the first value equal to the placeholder of what a change of a table tells
pub table_clash : (p : List ℕ) (t : ℕ) (info : TableInfo) (c : Change) → SuitsTable info c → first_found (notice_clash p) (change_notices t info c) ≡ clash_at info (change_clash p info c)
table_clash p t info (Insert u row) suits = simp (none_among, or_none)
table_clash p t info (Update u key old cells) suits = update_clash p t info key old cells (same_key key (new_key_of info cells)) (moves_given info key old cells suits)
table_clash p t info (Delete u key old) suits = simp (none_among, or_none)
table_clash p t info (Clear u) suits = simp (none_among, or_none)

-- one more change without a value equal to the placeholder, or with the first one
pub change_found : (p : List ℕ) (infos : List TableInfo) (c : Change) (info : TableInfo) → slice_get infos (table_of c) ≡ Some info → SuitsTable info c
    → first_found (notice_clash p) (notices infos c) ≡ clash_at info (change_clash p info c)
change_found p infos c info is suits =
    ap (λ o. first_found (notice_clash p) (unwrap_or (option_map (λ info. change_notices (table_of c) info c) o) [])) is ∙ table_clash p (table_of c) info c suits

-- ---- one more change

stop : (x rest : Option Clash) (e : EnvelopeError) → IsClash x e → IsClash (option_or x rest) e
stop None rest e h = λ no. let absent : option_map clash_error None ≡ Some e = h no in cc
stop (Some k) rest e h = h

pub check_more : (p : List ℕ) (infos : List TableInfo) (cs : List Change) (i : ℕ) (c : Change) → drop i cs ≡ c ∷ drop (i + 1) cs → notices_clash p infos c ≡ None
    → first_found (notice_clash p) (flat_map (notices infos) (drop (i + 1) cs)) ≡ first_found (notice_clash p) (flat_map (notices infos) (drop i cs))
check_more p infos cs i c here none =
    let f = notice_clash p in
    let rest = flat_map (notices infos) (drop (i + 1) cs) in
    sym (ap (λ l. first_found f (flat_map (notices infos) l)) here ∙ found_append f (notices infos c) rest ∙ ap (λ o. option_or o (first_found f rest)) none)

pub check_stop : (p : List ℕ) (infos : List TableInfo) (cs : List Change) (i : ℕ) (c : Change) (e : EnvelopeError) → drop i cs ≡ c ∷ drop (i + 1) cs → IsClash (notices_clash p infos c) e
    → IsClash (first_found (notice_clash p) (flat_map (notices infos) (drop i cs))) e
check_stop p infos cs i c e here clash =
    let f = notice_clash p in
    let rest = flat_map (notices infos) (drop (i + 1) cs) in
    subst (λ o. IsClash o e) (sym (ap (λ l. first_found f (flat_map (notices infos) l)) here ∙ found_append f (notices infos c) rest)) (stop (notices_clash p infos c) (first_found f rest) e clash)

-- ---- one more row

pub row_more : (p : List ℕ) (info : TableInfo) (e : Key × Row) (rows : List (Key × Row)) → row_clash p info e.1 ≡ None → rows_clash p info rows ≡ rows_clash p info (e ∷ rows)
row_more p info e rows none = ap (λ o. option_or (clash_at info o) (rows_clash p info rows)) (sym none)

pub row_stop : (p : List ℕ) (info : TableInfo) (e : Key × Row) (rows : List (Key × Row)) (error : EnvelopeError) → IsClash (clash_at info (row_clash p info e.1)) error → IsClash (rows_clash p info (e ∷ rows)) error
row_stop p info e rows error clash = stop (clash_at info (row_clash p info e.1)) (rows_clash p info rows) error clash

-- ---- cells one by one

below : {A : Type 0} (xs : List A) (i : ℕ) → i < length xs → (x : A) × (slice_get xs i ≡ Some x)
below [] i h = absurd (omega arith)
below (x ∷ xs) zero h = (x, refl)
below (x ∷ xs) (suc i) h = below xs i (omega arith)

pub among_more : (p : List ℕ) (names : List (List ℕ)) (cells : List Cell) (i : ℕ) (c : Cell) → i < length names → slice_get cells i ≡ Some c → is_clash p c ≡ false
    → clash_among p (drop (i + 1) names) (drop (i + 1) cells) ≡ clash_among p (drop i names) (drop i cells)
among_more p names cells i c lt at not_here =
    let n = below names i lt in
    let next : suc i ≡ i + 1 = omega arith in
    sym (ap₂ (clash_among p) (drop_here names i n.0 n.1) (drop_here cells i c at)
    ∙ ap (λ b. if b then Some n.0 else clash_among p (drop (suc i) names) (drop (suc i) cells)) not_here
    ∙ ap (λ m. clash_among p (drop m names) (drop m cells)) next)

pub among_found : (p : List ℕ) (names : List (List ℕ)) (cells : List Cell) (i : ℕ) (n : List ℕ) (c : Cell) → slice_get names i ≡ Some n → slice_get cells i ≡ Some c → is_clash p c ≡ true
    → clash_among p (drop i names) (drop i cells) ≡ Some n
among_found p names cells i n c is at here =
    ap₂ (clash_among p) (drop_here names i n is) (drop_here cells i c at) ∙ ap (λ b. if b then Some n else clash_among p (drop (suc i) names) (drop (suc i) cells)) here

drop_past : {A : Type 0} (xs : List A) (i : ℕ) → length xs ≤ i → drop i xs ≡ []
drop_past [] zero e = refl
drop_past [] (suc i) e = refl
drop_past (x ∷ xs) zero e = absurd (omega arith)
drop_past (x ∷ xs) (suc i) e = drop_past xs i (omega arith)

min_le : (a b i : ℕ) → min a b ≤ i → (a ≤ i) ⊎ (b ≤ i)
min_le zero b i h = inl (omega arith)
min_le (suc a) zero i h = inr (omega arith)
min_le (suc a) (suc b) zero h = absurd (omega arith)
min_le (suc a) (suc b) (suc i) h = one_more a b i (min_le a b i (omega arith))
  where
    one_more : (a b i : ℕ) → (a ≤ i) ⊎ (b ≤ i) → (suc a ≤ suc i) ⊎ (suc b ≤ suc i)
    one_more a b i (inl x) = inl (omega arith)
    one_more a b i (inr x) = inr (omega arith)

past_one : (p : List ℕ) (names : List (List ℕ)) (cells : List Cell) (i : ℕ) → (length names ≤ i) ⊎ (length cells ≤ i) → clash_among p (drop i names) (drop i cells) ≡ None
past_one p names cells i (inl e) = ap (λ ns. clash_among p ns (drop i cells)) (drop_past names i e)
past_one p names cells i (inr e) = ap (λ cs. clash_among p (drop i names) cs) (drop_past cells i e) ∙ none_among p (drop i names)

pub among_end : (p : List ℕ) (names : List (List ℕ)) (cells : List Cell) (i : ℕ) → min (length names) (length cells) ≤ i → clash_among p (drop i names) (drop i cells) ≡ None
among_end p names cells i h = past_one p names cells i (min_le (length names) (length cells) i h)
