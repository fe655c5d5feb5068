-- What a row that is set holds at each column.
use Rattle.std.proofs.Common.{◌≡◌, ◌∙◌, inl, inr, ◌+◌, ℕ, zero, suc, List, [], ◌∷◌, Bool, true, false, cond, Option, Some, None, Ordering, Less, Equal, Greater, is_eq, fold, length, map, refl, sym, ap, arith}
use Rattle.std.specs.Prelude.{◌≢◌, IfSome, option_map, option_and_then, unwrap_or, slice_get}
use Rattle.std.specs.List.{AllByRecursion, position_from}
use Rattle.std.specs.Map.{lookup}
use Rattle.std.specs.BTreeMap.{insert_entry, is_at}
use Rattle.std.specs.Ordering.{nat_cmp, match_ordering, ordering_reverse}
use Rattle.std.specs.Cmp.Lexicographic.{slice_cmp}
use Rattle.std.specs.Str.{bytes_eq}
use Rattle.std.proofs.lemmas.Cmp.{nat_list_cmp_total}
use Rattle.std.proofs.lemmas.Map.Text.{is_eq-slice_cmp}
use Rattle.std.proofs.lemmas.Slice.Eq.{bytes_eq-Decides}
use Rattle.serde_json.specs.Data.{Data, null, boolean, number, string, array, object, Members, no_members, member, put}
use Rattle.serde_json.specs.Find.{get_member}
use Rattle.serde_json.specs.Written.{compact_text}
use Rattle.serde_json.proofs.Views.{get_member-put, get_member-put_other}
use Rattle.dbl_base.specs.Texts.{text_cmp}
use Rattle.dbl_value_types.specs.declared.value.Val.{Val}
use Rattle.dbl_value_types.specs.Values.{json_data, json_of}
use Rattle.dbl_record.specs.declared.acts.GivenCell.{GivenCell}
use Rattle.dbl_record.specs.declared.acts.HeldCell.{HeldCell}
use Rattle.dbl_record.specs.declared.acts.HeldCell.TheVariants.{Known, Unknown}
use Rattle.dbl_record.specs.Whole.{IsBelow, MembersAreWhole}
use Rattle.dbl_record.specs.Acts.{sent_text, cells_of}
use Rattle.dbl_record.specs.Consumers.{HeldCells, held_at, held_now, row_of}
use Rattle.dbl_model_table.specs.declared.table.Column.{Column}
use Rattle.dbl_model_table.specs.declared.change.Cell.{Cell}
use Rattle.dbl_model_table.specs.declared.change.Cell.TheVariants.{Given, Unchanged}
use Rattle.dbl_model_table.specs.Tables.{column_names}
use Rattle.dbl_model_table.specs.Infos.{column_of}
use Rattle.dbl_model_table.specs.Rows.{overlay}
use Rattle.dbl_model_history.specs.Image.{members_of, row_json_texts}
use Rattle.dbl_model_event.specs.EventJson.{sent}
use Rattle.dbl_model_table.proofs.Lists.{bool_case, text_itself}
use Rattle.dbl_consume_laws.specs.Laws.{IsNotPlaceholder, IsNoPlaceholderCell, HoldsTexts}

-- ---- an act's row is its members' cells, each at its column

abbrev pub set_cell : Option HeldCells → HeldCells → GivenCell → HeldCells
set_cell row made cell = insert_entry text_cmp made cell.column (held_now row cell.column cell.text)

-- cells of later columns go after
cells_below : (placeholder : List ℕ) (row : Option HeldCells) (ms : Members) (name : List ℕ) (cell : HeldCell) (made : HeldCells) → IsBelow name ms
    → fold (set_cell row) ((name, cell) ∷ made) (cells_of placeholder ms) ≡ (name, cell) ∷ fold (set_cell row) made (cells_of placeholder ms)
cells_below placeholder row no_members name cell made h = refl
cells_below placeholder row (member other d ms) name cell made h =
    let above : slice_cmp nat_cmp other name ≡ Greater = nat_list_cmp_total.antisymm other name ∙ ap ordering_reverse h.0 in
    let now = held_now row other (sent_text placeholder d) in
    ap (λ o. fold (set_cell row) (match_ordering o ((other, now) ∷ (name, cell) ∷ made) ((name, now) ∷ made) ((name, cell) ∷ insert_entry text_cmp made other now)) (cells_of placeholder ms)) above
    ∙ cells_below placeholder row ms name cell (insert_entry text_cmp made other now) h.1

abbrev pub cells_set : List ℕ → Option HeldCells → Members → HeldCells
cells_set placeholder row no_members = []
cells_set placeholder row (member name d ms) = (name, held_now row name (sent_text placeholder d)) ∷ cells_set placeholder row ms

pub row_set : (placeholder : List ℕ) (row : Option HeldCells) (ms : Members) → MembersAreWhole ms → row_of row (cells_of placeholder ms) ≡ cells_set placeholder row ms
row_set placeholder row no_members h = refl
row_set placeholder row (member name d ms) h =
    let now = held_now row name (sent_text placeholder d) in
    cells_below placeholder row ms name now [] h.1 ∙ ap (λ es. (name, now) ∷ es) (row_set placeholder row ms h.2)

pub equal_names : (a b : List ℕ) → slice_cmp nat_cmp a b ≡ Equal → a ≡ b
equal_names a b e = (bytes_eq-Decides a b).0 (sym (is_eq-slice_cmp a b) ∙ ap is_eq e)

-- what was set at a column is looked up there
pub looked_up : (placeholder : List ℕ) (row : Option HeldCells) (ms : Members) (column : List ℕ)
    → lookup (is_at (text_cmp column)) (cells_set placeholder row ms) ≡ option_map (λ d. held_now row column (sent_text placeholder d)) (get_member column ms)
looked_up placeholder row no_members column = refl
looked_up placeholder row (member name d ms) column = step (slice_cmp nat_cmp column name) refl (looked_up placeholder row ms column)
  where
    step : (o : Ordering) → slice_cmp nat_cmp column name ≡ o
        → lookup (is_at (text_cmp column)) (cells_set placeholder row ms) ≡ option_map (λ e. held_now row column (sent_text placeholder e)) (get_member column ms)
        → cond (is_eq o) (Some (held_now row name (sent_text placeholder d))) (lookup (is_at (text_cmp column)) (cells_set placeholder row ms))
        ≡ option_map (λ e. held_now row column (sent_text placeholder e)) (match_ordering o (get_member column ms) (Some d) (get_member column ms))
    step Less e later = later
    step Equal e later = ap (λ name. Some (held_now row name (sent_text placeholder d))) (sym (equal_names column name e))
    step Greater e later = later

-- ---- the members of a row at a column

further : (test : List ℕ → Bool) (i : ℕ) (names : List (List ℕ)) → position_from test (i + 1) names ≡ option_map suc (position_from test i names)
further test i [] = refl
further test i (name ∷ names) = step (test name) (further test (i + 1) names)
  where
    step : (b : Bool) → position_from test (i + 1 + 1) names ≡ option_map suc (position_from test (i + 1) names) → cond b (Some (i + 1)) (position_from test (i + 1 + 1) names) ≡ option_map suc (cond b (Some i) (position_from test (i + 1) names))
    step true h = ap Some (omega arith)
    step false h = h

-- the item at the place of a name
abbrev pub item_at : {X : Type 0} → List (List ℕ) → List X → List ℕ → Option X
item_at names items column = option_and_then (slice_get items) (position_from (bytes_eq column) 0 names)

item_later : {X : Type 0} (names : List (List ℕ)) (x : X) (items : List X) (column : List ℕ) → option_and_then (slice_get (x ∷ items)) (position_from (bytes_eq column) 1 names) ≡ item_at names items column
item_later names x items column = ap (option_and_then (slice_get (x ∷ items))) (further (bytes_eq column) 0 names) ∙ step (position_from (bytes_eq column) 0 names)
  where
    step : (o : Option ℕ) → option_and_then (slice_get (x ∷ items)) (option_map suc o) ≡ option_and_then (slice_get items) o
    step None = refl
    step (Some i) = refl

-- the item of the first name, where that is the column's, and else of the later ones
pub item_first : {X : Type 0} (name : List ℕ) (names : List (List ℕ)) (x : X) (items : List X) (column : List ℕ) → item_at (name ∷ names) (x ∷ items) column ≡ cond (bytes_eq column name) (Some x) (item_at names items column)
item_first name names x items column = step (bytes_eq column name) (item_later names x items column)
  where
    step : (b : Bool) → option_and_then (slice_get (x ∷ items)) (position_from (bytes_eq column) 1 names) ≡ item_at names items column
        → option_and_then (slice_get (x ∷ items)) (cond b (Some 0) (position_from (bytes_eq column) 1 names)) ≡ cond b (Some x) (item_at names items column)
    step true h = refl
    step false h = h

pub no_item : {X : Type 0} (o : Option ℕ) → option_and_then (slice_get {X = X} []) o ≡ None
no_item None = refl
no_item (Some i) = refl

pub member_at : (names : List (List ℕ)) (values : List Val) (column : List ℕ) → get_member column (members_of names values) ≡ option_map json_data (item_at names values column)
member_at [] values column = refl
member_at (name ∷ names) [] column = ap (option_map json_data) (sym (no_item (position_from (bytes_eq column) 0 (name ∷ names))))
member_at (name ∷ names) (v ∷ values) column = elim (bool_case (bytes_eq column name)) [
  | inl same ↦ (
      let e : column ≡ name = (bytes_eq-Decides column name).0 same in
      ap (λ n. get_member n (put name (json_data v) (members_of names values))) e
      ∙ get_member-put name (json_data v) (members_of names values)
      ∙ ap (option_map json_data) (sym (item_first name names v values column ∙ ap (λ b. cond b (Some v) (item_at names values column)) same)))
  | inr other ↦ (
      get_member-put_other column name (json_data v) (members_of names values) (λ e. let same : bytes_eq column name ≡ true = (bytes_eq-Decides column name).1 e in let contra : true ≡ false = sym same ∙ other in cc)
      ∙ member_at names values column
      ∙ ap (option_map json_data) (sym (item_first name names v values column ∙ ap (λ b. cond b (Some v) (item_at names values column)) other)))
]

-- ---- rows that are set

-- data that aren't the placeholder are sent as their text
pub told : (placeholder : List ℕ) (d : Data) → d ≢ string placeholder → sent_text placeholder d ≡ Some (compact_text d)
told placeholder null other = refl
told placeholder (boolean b) other = refl
told placeholder (number n) other = refl
told placeholder (string s) other = elim (bool_case (bytes_eq s placeholder)) [
  | inl same ↦ absurd (other (ap string ((bytes_eq-Decides s placeholder).0 same)))
  | inr differs ↦ rw differs refl
]
told placeholder (array ds) other = refl
told placeholder (object ms) other = refl

pub untold : (placeholder : List ℕ) → sent_text placeholder (string placeholder) ≡ None
untold placeholder = rw (text_itself placeholder) refl

pub at_place : {X : Type 0} (P : X → Type 0) (items : List X) (i : ℕ) → AllByRecursion P items → IfSome (slice_get items i) P
at_place P [] i h = tt
at_place P (x ∷ items) zero h = h.0
at_place P (x ∷ items) (suc i) h = at_place P items i h.1

-- a row that is given whole is held as its texts
pub whole_set : (placeholder : List ℕ) (row : Option HeldCells) (columns : List Column) (cells : List Val) → AllByRecursion (IsNotPlaceholder placeholder) cells → MembersAreWhole (members_of (column_names columns) cells)
    → HoldsTexts (row_of row (cells_of placeholder (members_of (column_names columns) cells))) (row_json_texts columns cells)
whole_set placeholder row columns cells given whole column =
    ap (lookup (is_at (text_cmp column))) (row_set placeholder row (members_of (column_names columns) cells) whole)
    ∙ looked_up placeholder row (members_of (column_names columns) cells) column
    ∙ ap (option_map (λ d. held_now row column (sent_text placeholder d))) (member_at (column_names columns) cells column)
    ∙ placed (column_of columns column)
  where
    shown : (o : Option Val) → IfSome o (IsNotPlaceholder placeholder) → option_map (λ d. held_now row column (sent_text placeholder d)) (option_map json_data o) ≡ option_map Known (option_map json_of o)
    shown None h = refl
    shown (Some v) h = ap (λ text. Some (held_now row column text)) (told placeholder (json_data v) h)

    placed : (o : Option ℕ) → option_map (λ d. held_now row column (sent_text placeholder d)) (option_map json_data (option_and_then (slice_get cells) o)) ≡ option_map Known (option_map json_of (option_and_then (slice_get cells) o))
    placed None = refl
    placed (Some i) = shown (slice_get cells i) (at_place (IsNotPlaceholder placeholder) cells i given)

module _ (placeholder : List ℕ) (held : HeldCells) (column : List ℕ) where
  kept_or_told : (cells : List Cell) (old : List Val) (i : ℕ) → length cells ≡ length old → AllByRecursion (IsNoPlaceholderCell placeholder) cells → held_at (Some held) column ≡ option_map Known (option_map json_of (slice_get old i))
      → option_map (λ d. held_now (Some held) column (sent_text placeholder d)) (option_map json_data (slice_get (map (sent placeholder) cells) i)) ≡ option_map Known (option_map json_of (slice_get (overlay cells old) i))
  kept_or_told [] [] i long h was = refl
  kept_or_told [] (x ∷ old) i long h was = absurd (omega (arith, long))
  kept_or_told (cell ∷ cells) [] i long h was = absurd (omega (arith, long))
  kept_or_told (Given v ∷ cells) (x ∷ old) zero long h was = ap (λ text. Some (held_now (Some held) column text)) (told placeholder (json_data v) h.0)
  kept_or_told (Unchanged ∷ cells) (x ∷ old) zero long h was = ap (λ text. Some (held_now (Some held) column text)) (untold placeholder) ∙ ap (λ o. Some (unwrap_or o Unknown)) was
  kept_or_told (Given v ∷ cells) (x ∷ old) (suc i) long h was = kept_or_told cells old i (omega (arith, long)) h.1 was
  kept_or_told (Unchanged ∷ cells) (x ∷ old) (suc i) long h was = kept_or_told cells old i (omega (arith, long)) h.1 was

-- a row of which a part is given is held as the new cells over those that were held
pub part_set : (placeholder : List ℕ) (held : HeldCells) (columns : List Column) (cells : List Cell) (old : List Val) → length cells ≡ length old → AllByRecursion (IsNoPlaceholderCell placeholder) cells
    → MembersAreWhole (members_of (column_names columns) (map (sent placeholder) cells)) → HoldsTexts held (row_json_texts columns old)
    → HoldsTexts (row_of (Some held) (cells_of placeholder (members_of (column_names columns) (map (sent placeholder) cells)))) (row_json_texts columns (overlay cells old))
part_set placeholder held columns cells old long given whole was column =
    ap (lookup (is_at (text_cmp column))) (row_set placeholder (Some held) (members_of (column_names columns) (map (sent placeholder) cells)) whole)
    ∙ looked_up placeholder (Some held) (members_of (column_names columns) (map (sent placeholder) cells)) column
    ∙ ap (option_map (λ d. held_now (Some held) column (sent_text placeholder d))) (member_at (column_names columns) (map (sent placeholder) cells) column)
    ∙ placed (column_of columns column) (was column)
  where
    placed : (o : Option ℕ) → held_at (Some held) column ≡ option_map Known (option_map json_of (option_and_then (slice_get old) o))
        → option_map (λ d. held_now (Some held) column (sent_text placeholder d)) (option_map json_data (option_and_then (slice_get (map (sent placeholder) cells)) o))
        ≡ option_map Known (option_map json_of (option_and_then (slice_get (overlay cells old)) o))
    placed None there = refl
    placed (Some i) there = kept_or_told placeholder held column cells old i long given there
