-- The rows that are printed are those of the source, and their lines those of its rows.
use Rattle.std.proofs.Common.{◌≡◌, ◌∙◌, ℕ, ℤ, List, [], ◌∷◌, ◌++◌, Bool, true, false, cond, Option, Some, None, Ordering, Less, Equal, Greater, is_eq, nat_cmp, Result, Ok, Err, fold, map, refl, sym, ap, subst, append_assoc, codes}
use Rattle.std.specs.Prelude.{IfSome, option_map, unwrap_or}
use Rattle.std.specs.List.{AllByRecursion, join_with_byte}
use Rattle.std.specs.List.Sorted.{IsStrictlySortedBy}
use Rattle.std.specs.Map.{lookup, keys_of}
use Rattle.std.specs.BTreeMap.{insert_entry, is_at}
use Rattle.std.specs.Ordering.{match_ordering, ordering_reverse}
use Rattle.std.specs.Cmp.{tied_itself}
use Rattle.std.specs.Cmp.Lexicographic.{slice_cmp}
use Rattle.std.specs.Str.{bytes_eq}
use Rattle.std.proofs.lemmas.Cmp.{nat_list_cmp_total}
use Rattle.json.specs.Print.{quoted}
use Rattle.serde_json.specs.Data.{Data, object, Members, no_members, member, put}
use Rattle.serde_json.specs.Find.{get_member}
use Rattle.serde_json.specs.Written.{compact_text, members_text}
use Rattle.dbl_base.specs.Texts.{text_cmp}
use Rattle.dbl_value_types.specs.declared.value.Val.{Val}
use Rattle.dbl_value_types.specs.Values.{json_data, json_of}
use Rattle.dbl_record.specs.declared.acts.GivenCell.{GivenCell}
use Rattle.dbl_record.specs.declared.acts.HeldCell.{HeldCell}
use Rattle.dbl_record.specs.declared.acts.HeldCell.TheVariants.{Known}
use Rattle.dbl_record.specs.declared.acts.Act.{Act}
use Rattle.dbl_record.specs.declared.acts.Act.TheVariants.{Nothing, Set, Remove, Wipe}
use Rattle.dbl_record.specs.declared.acts.ConsumeError.{ConsumeError}
use Rattle.dbl_record.specs.Acts.{Reading, reading_of, act_of}
use Rattle.dbl_record.specs.Consumers.{HeldCells, held_now, row_of, row_after_result, row_after, consumer_of}
use Rattle.dbl_record.specs.Line.{part_text, object_text}
use Rattle.dbl_consume.specs.Printing.{HeldRow, spot_cmp, AreRowsOf, cell_part, row_line}
use Rattle.dbl_consume.proofs.RowLemmas.{spot_total}
use Rattle.dbl_model_table.specs.declared.identity.Identity.{Identity}
use Rattle.dbl_model_table.specs.declared.row.Key.{Key}
use Rattle.dbl_model_table.specs.declared.table.Column.{Column}
use Rattle.dbl_model_table.specs.declared.table.TableInfo.{TableInfo}
use Rattle.dbl_model_table.specs.declared.change.Commit.{Commit}
use Rattle.dbl_model_table.specs.Tables.{column_names}
use Rattle.dbl_model_table.specs.Infos.{columns_of, topic_of}
use Rattle.dbl_model_table.specs.Rows.{Rows}
use Rattle.dbl_model_history.specs.History.{History}
use Rattle.dbl_model_history.specs.Typed.{typed}
use Rattle.dbl_model_history.specs.Image.{members_of, key_text, row_json_texts, image_row, Names}
use Rattle.dbl_consume_laws.specs.Laws.{IsToldWhole, HoldsJsonTexts, HoldsTexts, last_rows, lines_of_commits, held_of}
use Rattle.dbl_consume_laws.proofs.Held.{equal_names, item_at, member_at}
use Rattle.dbl_consume_laws.proofs.Consumers.{named_holds}
use Rattle.dbl_consume_laws.proofs.Named.{hold_images, no_other_rows}
use Rattle.dblog_laws.specs.Pipe.{IsSourceLine, AreSourceRows}

abbrev find : HeldCells → List ℕ → Option HeldCell
find cells name = lookup (is_at (text_cmp name)) cells

abbrev Below : List ℕ → HeldCells → Type 0
Below name [] = Unit {0}
Below name (e ∷ cells) = (text_cmp name e.0 ≡ Less) × Below name cells

-- the columns ascend
abbrev InOrder : HeldCells → Type 0
InOrder [] = Unit {0}
InOrder (e ∷ cells) = Below e.0 cells × InOrder cells

-- ---- a row's cells ascend

below_more : (a b : List ℕ) (cells : HeldCells) → text_cmp a b ≡ Less → Below b cells → Below a cells
below_more a b [] less below = tt
below_more a b (e ∷ cells) less below = (nat_list_cmp_total.trans a b e.0 less below.0, below_more a b cells less below.1)

below_set : (name column : List ℕ) (cell : HeldCell) (cells : HeldCells) → text_cmp name column ≡ Less → Below name cells → Below name (insert_entry text_cmp cells column cell)
below_set name column cell [] less below = (less, tt)
below_set name column cell (e ∷ cells) less below = step (text_cmp column e.0) (below_set name column cell cells less below.1)
  where
    step : (o : Ordering) → Below name (insert_entry text_cmp cells column cell) → Below name (match_ordering o ((column, cell) ∷ e ∷ cells) ((e.0, cell) ∷ cells) (e ∷ insert_entry text_cmp cells column cell))
    step Less later = (less, below)
    step Equal later = below
    step Greater later = (below.0, later)

set_in_order : (column : List ℕ) (cell : HeldCell) (cells : HeldCells) → InOrder cells → InOrder (insert_entry text_cmp cells column cell)
set_in_order column cell [] h = (tt, tt)
set_in_order column cell (e ∷ cells) h = step (text_cmp column e.0) refl (set_in_order column cell cells h.1)
  where
    step : (o : Ordering) → text_cmp column e.0 ≡ o → InOrder (insert_entry text_cmp cells column cell) → InOrder (match_ordering o ((column, cell) ∷ e ∷ cells) ((e.0, cell) ∷ cells) (e ∷ insert_entry text_cmp cells column cell))
    step Less is later = ((is, below_more column e.0 cells is h.0), h)
    step Equal is later = h
    step Greater is later = (below_set e.0 column cell cells (nat_list_cmp_total.antisymm e.0 column ∙ ap ordering_reverse is) h.0, later)

row_in_order : (row : Option HeldCells) (made : HeldCells) (given : List GivenCell) → InOrder made → InOrder (fold (λ m cell. insert_entry text_cmp m cell.column (held_now row cell.column cell.text)) made given)
row_in_order row made [] h = h
row_in_order row made (cell ∷ given) h =
    row_in_order row (insert_entry text_cmp made cell.column (held_now row cell.column cell.text)) given (set_in_order cell.column (held_now row cell.column cell.text) made h)

abbrev IsOrdered : Option HeldCells → Type 0
IsOrdered held = IfSome held InOrder

chosen : (b : Bool) (x y : Option HeldCells) → IsOrdered x → IsOrdered y → IsOrdered (cond b x y)
chosen true x y h k = h
chosen false x y h k = k

result_in_order : (r : Result Act ConsumeError) (key : List ℕ) (row : Option HeldCells) → IsOrdered row → IsOrdered (row_after_result r key row)
result_in_order (Ok Nothing) key row h = h
result_in_order (Ok (Set text cells)) key row h = chosen (bytes_eq text key) (Some (row_of row cells)) row (row_in_order row [] cells tt) h
result_in_order (Ok (Remove text)) key row h = chosen (bytes_eq text key) None row tt h
result_in_order (Ok Wipe) key row h = tt
result_in_order (Err error) key row h = h

after_in_order : (placeholder topic key : List ℕ) (readings : List Reading) (row : Option HeldCells) → IsOrdered row → IsOrdered (fold (row_after placeholder topic key) row readings)
after_in_order placeholder topic key [] row h = h
after_in_order placeholder topic key (reading ∷ readings) row h =
    after_in_order placeholder topic key readings (row_after placeholder topic key row reading)
    (chosen (bytes_eq reading.topic topic) (row_after_result (act_of placeholder reading) key row) row (result_in_order (act_of placeholder reading) key row h) h)

held_in_order : (placeholder : List ℕ) (readings : List Reading) (topic key : List ℕ) (cells : HeldCells) → consumer_of placeholder readings topic key ≡ Some cells → InOrder cells
held_in_order placeholder readings topic key cells is = subst IsOrdered is (after_in_order placeholder topic key readings None tt)

-- ---- cells that ascend and are found alike are the same

none_above : (name : List ℕ) (cells : HeldCells) → Below name cells → find cells name ≡ None
none_above name [] below = refl
none_above name (e ∷ cells) below = ap (λ o. cond (is_eq o) (Some e.1) (find cells name)) below.0 ∙ none_above name cells below.1

at_head : (name : List ℕ) (cell : HeldCell) (cells : HeldCells) → find ((name, cell) ∷ cells) name ≡ Some cell
at_head name cell cells = ap (λ o. cond (is_eq o) (Some cell) (find cells name)) (tied_itself nat_list_cmp_total name)

clash : (cell : HeldCell) (o : Option HeldCell) → o ≡ Some cell → o ≡ None → ⊥
clash cell o some none = let no : Some cell ≡ None = sym some ∙ none in absurd (cc)

same_cell : (a b : HeldCell) → Some a ≡ Some b → a ≡ b
same_cell a b e = cc

same_heads : (a b : List ℕ) (c d : HeldCell) (xs ys : HeldCells) → Below a xs → Below b ys → ((name : List ℕ) → find ((a, c) ∷ xs) name ≡ find ((b, d) ∷ ys) name) → a ≡ b
same_heads a b c d xs ys below_a below_b same = go (text_cmp a b) refl
  where
    go : (o : Ordering) → text_cmp a b ≡ o → a ≡ b
    go Less e = absurd (clash c (find ((b, d) ∷ ys) a) (sym (same a) ∙ at_head a c xs) (none_above a ((b, d) ∷ ys) (e, below_more a b ys e below_b)))
    go Equal e = equal_names a b e
    go Greater e =
        let less = nat_list_cmp_total.antisymm b a ∙ ap ordering_reverse e in
        absurd (clash d (find ((a, c) ∷ xs) b) (same b ∙ at_head b d ys) (none_above b ((a, c) ∷ xs) (less, below_more b a xs less below_a)))

same_rests : (first : List ℕ) (c d : HeldCell) (xs ys : HeldCells) → Below first xs → Below first ys → ((name : List ℕ) → find ((first, c) ∷ xs) name ≡ find ((first, d) ∷ ys) name) → (name : List ℕ) → find xs name ≡ find ys name
same_rests first c d xs ys below_a below_b same name = go (text_cmp name first) refl
  where
    past : (o : Ordering) → text_cmp name first ≡ o → is_eq o ≡ false → find xs name ≡ find ys name
    past o e apart =
        let not_first : is_eq (text_cmp name first) ≡ false = ap is_eq e ∙ apart in
        sym (ap (λ t. cond t (Some c) (find xs name)) not_first) ∙ same name ∙ ap (λ t. cond t (Some d) (find ys name)) not_first

    go : (o : Ordering) → text_cmp name first ≡ o → find xs name ≡ find ys name
    go Less e = past Less e refl
    go Equal e = let is = equal_names name first e in ap (find xs) is ∙ none_above first xs below_a ∙ sym (ap (find ys) is ∙ none_above first ys below_b)
    go Greater e = past Greater e refl

one_row : (xs ys : HeldCells) → InOrder xs → InOrder ys → ((name : List ℕ) → find xs name ≡ find ys name) → xs ≡ ys
one_row [] [] p q same = refl
one_row [] ((b, d) ∷ ys) p q same = absurd (clash d None (same b ∙ at_head b d ys) refl)
one_row ((a, c) ∷ xs) [] p q same = absurd (clash c None (sym (same a) ∙ at_head a c xs) refl)
one_row ((a, c) ∷ xs) ((b, d) ∷ ys) p q same =
    let names : a ≡ b = same_heads a b c d xs ys p.0 q.0 same in
    let below : Below a ys = subst (λ name. Below name ys) (sym names) q.0 in
    let moved : (name : List ℕ) → find ((a, c) ∷ xs) name ≡ find ((a, d) ∷ ys) name = subst (λ first. (name : List ℕ) → find ((a, c) ∷ xs) name ≡ find ((first, d) ∷ ys) name) (sym names) same in
    let cells : c ≡ d = same_cell c d (sym (at_head a c xs) ∙ moved a ∙ at_head a d ys) in
    let rests : xs ≡ ys = one_row xs ys p.1 q.1 (same_rests a c d xs ys p.0 below moved) in
    λ i. (names i, cells i) ∷ rests i

-- ---- the cells of a row of the source

abbrev known : Members → HeldCells
known no_members = []
known (member name d ms) = (name, Known (compact_text d)) ∷ known ms

known_put : (name : List ℕ) (d : Data) (ms : Members) → known (put name d ms) ≡ insert_entry text_cmp (known ms) name (Known (compact_text d))
known_put name d no_members = refl
known_put name d (member other e ms) = step (slice_cmp nat_cmp name other) (known_put name d ms)
  where
    step : (o : Ordering) → known (put name d ms) ≡ insert_entry text_cmp (known ms) name (Known (compact_text d))
        → known (match_ordering o (member name d (member other e ms)) (member other d ms) (member other e (put name d ms)))
        ≡ match_ordering o ((name, Known (compact_text d)) ∷ (other, Known (compact_text e)) ∷ known ms) ((other, Known (compact_text d)) ∷ known ms) ((other, Known (compact_text e)) ∷ insert_entry text_cmp (known ms) name (Known (compact_text d)))
    step Less later = refl
    step Equal later = refl
    step Greater later = ap (λ (cells : HeldCells). (other, Known (compact_text e)) ∷ cells) later

known_in_order : (names : List (List ℕ)) (values : List Val) → InOrder (known (members_of names values))
known_in_order [] values = tt
known_in_order (name ∷ names) [] = tt
known_in_order (name ∷ names) (v ∷ values) =
    subst InOrder (sym (known_put name (json_data v) (members_of names values))) (set_in_order name (Known (compact_text (json_data v))) (known (members_of names values)) (known_in_order names values))

known_at : (ms : Members) (column : List ℕ) → find (known ms) column ≡ option_map (λ d. Known (compact_text d)) (get_member column ms)
known_at no_members column = refl
known_at (member name d ms) column = step (slice_cmp nat_cmp column name) (known_at ms column)
  where
    step : (o : Ordering) → find (known ms) column ≡ option_map (λ e. Known (compact_text e)) (get_member column ms)
        → cond (is_eq o) (Some (Known (compact_text d))) (find (known ms) column) ≡ option_map (λ e. Known (compact_text e)) (match_ordering o (get_member column ms) (Some d) (get_member column ms))
    step Less later = later
    step Equal later = refl
    step Greater later = later

as_texts : (o : Option Val) → option_map (λ d. Known (compact_text d)) (option_map json_data o) ≡ option_map Known (option_map json_of o)
as_texts None = refl
as_texts (Some v) = refl

values_at : (columns : List Column) (values : List Val) (column : List ℕ) → find (known (members_of (column_names columns) values)) column ≡ option_map Known (row_json_texts columns values column)
values_at columns values column =
    known_at (members_of (column_names columns) values) column ∙ ap (option_map (λ d. Known (compact_text d))) (member_at (column_names columns) values column) ∙ as_texts (item_at (column_names columns) values column)

cells_are : (columns : List Column) (values : List Val) (cells : HeldCells) → InOrder cells → HoldsTexts cells (row_json_texts columns values) → cells ≡ known (members_of (column_names columns) values)
cells_are columns values cells order holds =
    one_row cells (known (members_of (column_names columns) values)) order (known_in_order (column_names columns) values) (λ name. holds name ∙ sym (values_at columns values name))

-- ---- their text

last_part : (n c t e : List ℕ) → ((n ++ c) ++ t) ++ e ≡ n ++ (c ++ (t ++ e))
last_part n c t e = simp append_assoc

more_parts : (n c t s more e all : List ℕ) → more ++ e ≡ all → (((n ++ c) ++ t) ++ (s ++ more)) ++ e ≡ n ++ (c ++ (t ++ (s ++ all)))
more_parts n c t s more e all is = simp append_assoc (ap (λ x. n ++ (c ++ (t ++ (s ++ x)))) is)

parts_text : (name : List ℕ) (d : Data) (ms : Members)
    → join_with_byte 44 (part_text (name, compact_text d) ∷ map part_text (map cell_part (known ms))) ++ codes "}" ≡ quoted name ++ 58 ∷ (compact_text d ++ members_text true ms)
parts_text name d no_members = last_part (quoted name) (codes ":") (compact_text d) (codes "}")
parts_text name d (member other e ms) =
    more_parts (quoted name) (codes ":") (compact_text d) (codes ",") (join_with_byte 44 (part_text (other, compact_text e) ∷ map part_text (map cell_part (known ms)))) (codes "}")
    (quoted other ++ 58 ∷ (compact_text e ++ members_text true ms)) (parts_text other e ms)

row_text : (ms : Members) → object_text (map cell_part (known ms)) ≡ compact_text (object ms)
row_text no_members = refl
row_text (member name d ms) = ap (λ (t : List ℕ). 123 ∷ t) (parts_text name d ms)

-- ---- a row that is held

source_row : (identity : Identity) (infos : List TableInfo) (source : Rows) (row : HeldRow) (table : ℕ) (key : Key) → Names identity infos row.0.0 row.0.1 table key → InOrder row.1 → (o : Option (List Val)) → source table key ≡ o
    → HoldsJsonTexts (Some row.1) (option_map (row_json_texts (columns_of infos table)) o) → IsSourceLine identity infos source (row_line row)
source_row identity infos source row table key names order None is holds = absurd holds
source_row identity infos source row table key names order (Some values) is holds =
    let info = names.info in
    let columns : columns_of infos table ≡ info.columns = ap (λ (o : Option TableInfo). unwrap_or (option_map (λ i. i.columns) o) []) names.captured in
    let cells = cells_are info.columns values row.1 order (subst (λ (cs : List Column). HoldsTexts row.1 (row_json_texts cs values)) columns holds) in
    record {
      table = table;
      info = info;
      key = key;
      values = values;
      captured = names.captured;
      row = is;
      line_is = ap (λ (t : List ℕ). (((t ++ codes " ") ++ row.0.1) ++ codes " ") ++ object_text (map cell_part row.1)) (sym names.topic_is)
          ∙ ap (λ (t : List ℕ). (((topic_of identity info ++ codes " ") ++ t) ++ codes " ") ++ object_text (map cell_part row.1)) (sym names.text_is)
          ∙ ap (λ (cs : HeldCells). (((topic_of identity info ++ codes " ") ++ key_text info key) ++ codes " ") ++ object_text (map cell_part cs)) cells
          ∙ ap (λ (t : List ℕ). (((topic_of identity info ++ codes " ") ++ key_text info key) ++ codes " ") ++ t) (row_text (members_of (column_names info.columns) values));
    }

-- ---- rows in order are found in their places

abbrev place_of : List HeldRow → HeldRow → Option HeldCells
place_of rows row = lookup (is_at (spot_cmp row.0)) rows

found_later : (first : HeldRow) (rows all : List HeldRow) → AllByRecursion (λ spot. spot_cmp first.0 spot ≡ Less) (keys_of rows) → AllByRecursion (λ row. place_of all row ≡ Some row.1) rows → AllByRecursion (λ row. place_of (first ∷ all) row ≡ Some row.1) rows
found_later first [] all below h = tt
found_later first (row ∷ rows) all below h =
    let above = spot_total.antisymm row.0 first.0 ∙ ap ordering_reverse below.0 in
    (ap (λ o. cond (is_eq o) (Some first.1) (place_of all row)) above ∙ h.0, found_later first rows all below.1 h.1)

found_rows : (rows : List HeldRow) → IsStrictlySortedBy spot_cmp (keys_of rows) → AllByRecursion (λ row. place_of rows row ≡ Some row.1) rows
unfolding IsStrictlySortedBy
found_rows [] sorted = tt
found_rows (row ∷ rows) sorted =
    (ap (λ o. cond (is_eq o) (Some row.1) (place_of rows row)) (tied_itself spot_total row.0), found_later row rows rows sorted.0 (found_rows rows sorted.1))

-- ---- rows that a consumer of a history holds

in_places : (held : List ℕ → List ℕ → Option HeldCells) (rows all : List HeldRow) → AreRowsOf held all → AllByRecursion (λ row. place_of all row ≡ Some row.1) rows → AllByRecursion (λ row. held row.0.0 row.0.1 ≡ Some row.1) rows
in_places held [] all are h = tt
in_places held (row ∷ rows) all are h = (sym (are.exact row.0.0 row.0.1) ∙ h.0, in_places held rows all are h.1)

module _ (history : History) (infos : List TableInfo) (identity : Identity) (now : Commit → ℤ) (told : IsToldWhole history infos identity now) where
  held_row : (row : HeldRow) → held_of identity infos now history row.0.0 row.0.1 ≡ Some row.1 → IsSourceLine identity infos (last_rows infos (typed infos history)) (row_line row)
  held_row row is =
      let source = last_rows infos (typed infos history) in
      let found = no_other_rows history infos identity now told row.0.0 row.0.1 row.1 is in
      let holds = subst (λ h. HoldsJsonTexts h (image_row infos source found.0 found.1)) is (named_holds history infos identity now told row.0.0 row.0.1 found.0 found.1 found.2) in
      let order = held_in_order identity.placeholder (map reading_of (lines_of_commits identity infos now (typed infos history))) row.0.0 row.0.1 row.1 is in
      source_row identity infos source row found.0 found.1 found.2 order (source found.0 found.1) refl holds

  held_rows : (rows : List HeldRow) → AllByRecursion (λ row. held_of identity infos now history row.0.0 row.0.1 ≡ Some row.1) rows → AllByRecursion (IsSourceLine identity infos (last_rows infos (typed infos history))) (map row_line rows)
  held_rows [] h = tt
  held_rows (row ∷ rows) h = (held_row row h.0, held_rows rows h.1)

  pub source_rows : (rows : List HeldRow) → AreRowsOf (held_of identity infos now history) rows → AreSourceRows identity infos (last_rows infos (typed infos history)) rows
  source_rows rows are = record {
    ordered = are.ordered;
    lines = held_rows rows (in_places (held_of identity infos now history) rows rows are (found_rows rows are.ordered));
    exact = λ topic text image is. subst (λ h. HoldsJsonTexts h image) (sym (are.exact topic text)) (hold_images history infos identity now told topic text image is);
  }
