-- What the events of a commit do to one cell.
use Rattle.std.proofs.Common.{◌≡◌, ◌∙◌, ◌+◌, ℕ, ℤ, List, [], ◌∷◌, Bool, true, false, cond, Option, Some, None, Result, map, flat_map, refl, sym, ap, subst}
use Rattle.std.specs.Prelude.{IfSome, option_map, option_and_then, unwrap_or, slice_get}
use Rattle.std.specs.Option.{option_or}
use Rattle.std.specs.List.{AllByRecursion, position_from}
use Rattle.std.specs.Map.{lookup}
use Rattle.std.specs.BTreeMap.{is_at}
use Rattle.std.specs.Str.{bytes_eq}
use Rattle.std.proofs.lemmas.Option.{slice_get-map}
use Rattle.serde_json.specs.Data.{Members}
use Rattle.serde_json.specs.Find.{get_member}
use Rattle.dbl_base.specs.Texts.{text_cmp}
use Rattle.dbl_value_types.specs.declared.value.Val.{Val}
use Rattle.dbl_value_types.specs.Values.{json_data}
use Rattle.dbl_record.specs.declared.acts.Act.{Act}
use Rattle.dbl_record.specs.declared.acts.ConsumeError.{ConsumeError}
use Rattle.dbl_record.specs.Whole.{MembersAreWhole}
use Rattle.dbl_record.specs.Acts.{sent_text, cells_of, act, reading_of}
use Rattle.dbl_record.specs.Consumers.{held_now}
use Rattle.dbl_record.specs.Reading.{as_line}
use Rattle.dbl_model_table.specs.declared.identity.Identity.{Identity}
use Rattle.dbl_model_table.specs.declared.row.Key.{Key}
use Rattle.dbl_model_table.specs.declared.row.Row.{Row}
use Rattle.dbl_model_table.specs.declared.table.TableInfo.{TableInfo}
use Rattle.dbl_model_table.specs.declared.change.Cell.{Cell}
use Rattle.dbl_model_table.specs.declared.change.Cell.TheVariants.{Given, Unchanged}
use Rattle.dbl_model_table.specs.declared.change.Change.{Change}
use Rattle.dbl_model_table.specs.declared.change.Change.TheVariants.{Insert, Update, Delete, Clear}
use Rattle.dbl_model_table.specs.declared.change.Commit.{Commit}
use Rattle.dbl_model_table.specs.Tables.{column_names}
use Rattle.dbl_model_table.specs.Infos.{topic_of}
use Rattle.dbl_model_table.specs.Keys.{new_key_of, given_or_null, same_key}
use Rattle.dbl_model_table.specs.Rows.{table_of, changes_of}
use Rattle.dbl_model_history.specs.Ranges.{IsCommitInRange, IsMomentInRange}
use Rattle.dbl_model_history.specs.Image.{members_of, key_text}
use Rattle.dbl_model_event.specs.Events.{Content, Created, Updated, Deleted, Tombstone, Truncated, Notice, move_notices, change_notices, notices, numbered}
use Rattle.dbl_model_event.specs.EventJson.{sent, print}
use Rattle.dbl_model_event.specs.Clashes.{is_string, is_clash, clash_among, cells_before, cells_after, clash_at, notice_clash, first_found}
use Rattle.dbl_model_table.proofs.Lists.{text_itself}
use Rattle.dbl_consume_laws.specs.Laws.{IsNotPlaceholder, IsNoPlaceholderCell}
use Rattle.dbl_consume_laws.specs.Cells.{Op, Stay, set_at, set_op, result_op, record_op, named_column_cell, cell_op, content_op, is_about, notice_op, EventsChangeCells}
use Rattle.dbl_consume_laws.proofs.Wholes.{row_of_values}
use Rattle.dbl_consume_laws.proofs.Notices.{KeyFits, ContentFits, NoticeFits, all_append, commit_tells}
use Rattle.dbl_consume_laws.proofs.Lines.{sent_fit}
use Rattle.dbl_consume_laws.proofs.Acts.{line_of_event, act_created, act_updated, act_deleted, act_tombstone, act_truncated}
use Rattle.dbl_consume_laws.proofs.Held.{row_set, looked_up, item_at, item_first, no_item, member_at, told, untold, at_place}
use Rattle.dbl_consume_laws.proofs.Cells.{row_cell}

-- ---- what is set at a column by the members of a row

-- a row that held nothing tells what was set in it
unmapped : (column : List ℕ) (a b : Option (Option (List ℕ))) → option_map (held_now None column) a ≡ option_map (held_now None column) b → a ≡ b
unmapped column None None e = refl
unmapped column None (Some b) e = cc
unmapped column (Some a) None e = cc
unmapped column (Some None) (Some None) e = refl
unmapped column (Some None) (Some (Some t)) e = cc
unmapped column (Some (Some s)) (Some None) e = cc
unmapped column (Some (Some s)) (Some (Some t)) e = cc

twice : {A B C : Type 0} (f : B → C) (g : A → B) (o : Option A) → option_map (λ a. f (g a)) o ≡ option_map f (option_map g o)
twice f g None = refl
twice f g (Some a) = refl

pub set_members : (placeholder : List ℕ) (ms : Members) (column : List ℕ) → MembersAreWhole ms → set_at (cells_of placeholder ms) column ≡ option_map (sent_text placeholder) (get_member column ms)
set_members placeholder ms column whole =
    unmapped column (set_at (cells_of placeholder ms) column) (option_map (sent_text placeholder) (get_member column ms))
    (sym (row_cell None (cells_of placeholder ms) column)
    ∙ ap (lookup (is_at (text_cmp column))) (row_set placeholder None ms whole)
    ∙ looked_up placeholder None ms column
    ∙ twice (held_now None column) (sent_text placeholder) (get_member column ms))

given_op : (placeholder : List ℕ) (o : Option Val) → IfSome o (IsNotPlaceholder placeholder) → set_op (option_map (sent_text placeholder) (option_map json_data o)) ≡ cell_op (option_map Given o)
given_op placeholder None h = refl
given_op placeholder (Some v) h = ap (λ text. set_op (Some text)) (told placeholder (json_data v) h)

sent_op : (placeholder : List ℕ) (o : Option Cell) → IfSome o (IsNoPlaceholderCell placeholder) → set_op (option_map (sent_text placeholder) (option_map json_data (option_map (sent placeholder) o))) ≡ cell_op o
sent_op placeholder None h = refl
sent_op placeholder (Some (Given v)) h = ap (λ text. set_op (Some text)) (told placeholder (json_data v) h)
sent_op placeholder (Some Unchanged) h = ap (λ text. set_op (Some text)) (untold placeholder)

pub item_mapped : {X Y : Type 0} (f : X → Y) (items : List X) (place : Option ℕ) → option_and_then (slice_get (map f items)) place ≡ option_map f (option_and_then (slice_get items) place)
item_mapped f items None = refl
item_mapped f items (Some i) = slice_get-map f items i

-- ---- cells that aren't the placeholder

pub no_clash_cell : (placeholder : List ℕ) (cell : Cell) → is_clash placeholder cell ≡ false → IsNoPlaceholderCell placeholder cell
no_clash_cell placeholder (Given v) clear =
    λ same. (let clashes : is_string placeholder (json_data v) ≡ true = ap (is_string placeholder) same ∙ text_itself placeholder in
    let contra : true ≡ false = sym clashes ∙ clear in cc)
no_clash_cell placeholder Unchanged clear = tt

pub clash_parts : (b : Bool) (name : List ℕ) (rest : Option (List ℕ)) → cond b (Some name) rest ≡ None → (b ≡ false) × (rest ≡ None)
clash_parts true name rest e = cc
clash_parts false name rest e = (refl, e)

no_clash_named : (placeholder : List ℕ) (names : List (List ℕ)) (cells : List Cell) (column : List ℕ) → clash_among placeholder names cells ≡ None → IfSome (item_at names cells column) (IsNoPlaceholderCell placeholder)
no_clash_named placeholder [] cells column clear = tt
no_clash_named placeholder (name ∷ names) [] column clear = subst (λ o. IfSome o (IsNoPlaceholderCell placeholder)) (sym (no_item (position_from (bytes_eq column) 0 (name ∷ names)))) tt
no_clash_named placeholder (name ∷ names) (cell ∷ cells) column clear =
    let parts = clash_parts (is_clash placeholder cell) name (clash_among placeholder names cells) clear in
    subst (λ o. IfSome o (IsNoPlaceholderCell placeholder)) (sym (item_first name names cell cells column)) (by (bytes_eq column name) (no_clash_cell placeholder cell parts.0) (no_clash_named placeholder names cells column parts.1))
  where
    by : (b : Bool) → IsNoPlaceholderCell placeholder cell → IfSome (item_at names cells column) (IsNoPlaceholderCell placeholder) → IfSome (cond b (Some cell) (item_at names cells column)) (IsNoPlaceholderCell placeholder)
    by true first later = first
    by false first later = later

given_lacks : (placeholder : List ℕ) (o : Option Val) → IfSome (option_map Given o) (IsNoPlaceholderCell placeholder) → IfSome o (IsNotPlaceholder placeholder)
given_lacks placeholder None h = tt
given_lacks placeholder (Some v) h = h

-- ---- what a row does

pub created_op : (placeholder : List ℕ) (info : TableInfo) (row : Row) (column : List ℕ) → ContentFits (Created row) → IfSome (named_column_cell info.columns row.cells column) (IsNotPlaceholder placeholder)
    → set_op (set_at (cells_of placeholder (members_of (column_names info.columns) row.cells)) column) ≡ content_op info (Created row) column
created_op placeholder info row column fits lacks =
    let names = column_names info.columns in
    ap set_op (set_members placeholder (members_of names row.cells) column (row_of_values names row.cells fits).whole)
    ∙ ap (λ o. set_op (option_map (sent_text placeholder) o)) (member_at names row.cells column)
    ∙ given_op placeholder (item_at names row.cells column) lacks

-- a row without a value equal to the placeholder, and one without a cell that is it
clear_lacks : (placeholder : List ℕ) (info : TableInfo) (values : List Val) (column : List ℕ) → clash_among placeholder (column_names info.columns) (map Given values) ≡ None → IfSome (named_column_cell info.columns values column) (IsNotPlaceholder placeholder)
clear_lacks placeholder info values column clear =
    given_lacks placeholder (named_column_cell info.columns values column)
    (subst (λ o. IfSome o (IsNoPlaceholderCell placeholder)) (item_mapped Given values (position_from (bytes_eq column) 0 (column_names info.columns))) (no_clash_named placeholder (column_names info.columns) (map Given values) column clear))

pub named_lacks : (placeholder : List ℕ) (info : TableInfo) (values : List Val) (column : List ℕ) → AllByRecursion (IsNotPlaceholder placeholder) values → IfSome (named_column_cell info.columns values column) (IsNotPlaceholder placeholder)
named_lacks placeholder info values column lacks = step (position_from (bytes_eq column) 0 (column_names info.columns))
  where
    step : (place : Option ℕ) → IfSome (option_and_then (slice_get values) place) (IsNotPlaceholder placeholder)
    step None = tt
    step (Some i) = at_place (IsNotPlaceholder placeholder) values i lacks

updated_op : (placeholder : List ℕ) (info : TableInfo) (old : Option Row) (cells : List Cell) (column : List ℕ) → ContentFits (Updated old cells) → clash_among placeholder (column_names info.columns) cells ≡ None
    → set_op (set_at (cells_of placeholder (members_of (column_names info.columns) (map (sent placeholder) cells))) column) ≡ content_op info (Updated old cells) column
updated_op placeholder info old cells column fits clear =
    let names = column_names info.columns in
    let values = map (sent placeholder) cells in
    ap set_op (set_members placeholder (members_of names values) column (row_of_values names values (sent_fit placeholder cells fits.1)).whole)
    ∙ ap (λ o. set_op (option_map (sent_text placeholder) o)) (member_at names values column)
    ∙ ap (λ o. set_op (option_map (sent_text placeholder) (option_map json_data o))) (item_mapped (sent placeholder) cells (position_from (bytes_eq column) 0 names))
    ∙ sent_op placeholder (item_at names cells column) (no_clash_named placeholder names cells column clear)

-- ---- one event

-- an event is about a key, but for that of a whole table
abbrev pub IsKeyed : Option Key → Content → Type 0
IsKeyed None (Created row) = ⊥
IsKeyed None (Updated old cells) = ⊥
IsKeyed None (Deleted old) = ⊥
IsKeyed None Tombstone = ⊥
IsKeyed None Truncated = Unit {0}
IsKeyed (Some key) (Created row) = Unit {0}
IsKeyed (Some key) (Updated old cells) = Unit {0}
IsKeyed (Some key) (Deleted old) = Unit {0}
IsKeyed (Some key) Tombstone = Unit {0}
IsKeyed (Some key) Truncated = ⊥

abbrev pub IsKeyedNotice : Notice → Type 0
IsKeyedNotice n = IsKeyed n.key n.content

stays : (b : Bool) → Stay ≡ cond b Stay Stay
stays true = refl
stays false = refl

module _ (identity : Identity) (commit : Commit) (now : ℤ) (range : IsCommitInRange commit) (moment : IsMomentInRange now) where
  -- what the event's record does, where this is its act
  acts : (info : TableInfo) (key : Option Key) (content : Content) (topic text column : List ℕ) (result : Result Act ConsumeError) → act identity.placeholder (line_of_event identity commit now info key content) ≡ result
      → record_op identity.placeholder (reading_of (line_of_event identity commit now info key content)) topic text column ≡ cond (bytes_eq (topic_of identity info) topic) (result_op result text column) Stay
  acts info key content topic text column result e = ap (λ r. cond (bytes_eq (topic_of identity info) topic) (result_op r text column) Stay) e

  -- at the key of an event, and elsewhere
  at_its_key : (info : TableInfo) (key : Key) (topic text : List ℕ) (a b : Op) → a ≡ b
      → cond (bytes_eq (topic_of identity info) topic) (cond (bytes_eq (key_text info key) text) a Stay) Stay ≡ cond (bytes_eq (topic_of identity info) topic) (cond (bytes_eq (key_text info key) text) b Stay) Stay
  at_its_key info key topic text a b e = ap (λ op. cond (bytes_eq (topic_of identity info) topic) (cond (bytes_eq (key_text info key) text) op Stay) Stay) e

  pub event_op : (info : TableInfo) (key : Option Key) (content : Content) (topic text column : List ℕ) → KeyFits key → ContentFits content → IsKeyed key content
      → clash_among identity.placeholder (column_names info.columns) (cells_after content) ≡ None
      → record_op identity.placeholder (reading_of (line_of_event identity commit now info key content)) topic text column
      ≡ cond (bytes_eq (topic_of identity info) topic) (cond (is_about info key text) (content_op info content column) Stay) Stay
  event_op info (Some key) (Created row) topic text column k c keyed clear =
      acts info (Some key) (Created row) topic text column _ (act_created identity commit now range moment info key row k c)
      ∙ at_its_key info key topic text _ _ (created_op identity.placeholder info row column c (clear_lacks identity.placeholder info row.cells column clear))
  event_op info (Some key) (Updated old cells) topic text column k c keyed clear =
      acts info (Some key) (Updated old cells) topic text column _ (act_updated identity commit now range moment info key old cells k c.0 c.1)
      ∙ at_its_key info key topic text _ _ (updated_op identity.placeholder info old cells column c clear)
  event_op info (Some key) (Deleted old) topic text column k c keyed clear = acts info (Some key) (Deleted old) topic text column _ (act_deleted identity commit now range moment info key old k c)
  event_op info (Some key) Tombstone topic text column k c keyed clear =
      acts info (Some key) Tombstone topic text column _ (act_tombstone identity commit now range moment info key k)
      ∙ ap (λ op. cond (bytes_eq (topic_of identity info) topic) op Stay) (stays (bytes_eq (key_text info key) text))
  event_op info (Some key) Truncated topic text column k c keyed clear = elim keyed [ ]
  event_op info None (Created row) topic text column k c keyed clear = elim keyed [ ]
  event_op info None (Updated old cells) topic text column k c keyed clear = elim keyed [ ]
  event_op info None (Deleted old) topic text column k c keyed clear = elim keyed [ ]
  event_op info None Tombstone topic text column k c keyed clear = elim keyed [ ]
  event_op info None Truncated topic text column k c keyed clear = acts info None Truncated topic text column _ (act_truncated identity commit now range moment info)

-- ---- those of a commit

update_keyed : (table : ℕ) (info : TableInfo) (from to : Key) (old : Option Row) (cells : List Cell) (stays : Bool)
    → AllByRecursion IsKeyedNotice (cond stays (record { table = table; info = info; key = Some from; content = Updated old cells; newkey = None; oldkey = None } ∷ []) (move_notices table info from to old (record { cells = map given_or_null cells })))
update_keyed table info from to old cells true = (tt, tt)
update_keyed table info from to old cells false = (tt, (tt, (tt, tt)))

change_keyed : (table : ℕ) (info : TableInfo) (c : Change) → AllByRecursion IsKeyedNotice (change_notices table info c)
change_keyed table info (Insert t row) = (tt, tt)
change_keyed table info (Update t from old cells) = update_keyed table info from (new_key_of info cells) old cells (same_key from (new_key_of info cells))
change_keyed table info (Delete t from old) = (tt, (tt, tt))
change_keyed table info (Clear t) = (tt, tt)

notices_keyed : (infos : List TableInfo) (c : Change) → AllByRecursion IsKeyedNotice (notices infos c)
notices_keyed infos c = step (slice_get infos (table_of c))
  where
    step : (o : Option TableInfo) → AllByRecursion IsKeyedNotice (unwrap_or (option_map (λ info. change_notices (table_of c) info c) o) [])
    step None = tt
    step (Some info) = change_keyed (table_of c) info c

pub all_keyed : (infos : List TableInfo) (cs : List Change) → AllByRecursion IsKeyedNotice (flat_map (notices infos) cs)
all_keyed infos [] = tt
all_keyed infos (c ∷ cs) = all_append IsKeyedNotice (notices infos c) (flat_map (notices infos) cs) (notices_keyed infos c) (all_keyed infos cs)

-- nothing is found among some things where nothing is found of the first and among the others
pub found_parts : {A B : Type 0} (f : A → Option B) (x : A) (xs : List A) → first_found f (x ∷ xs) ≡ None → (f x ≡ None) × (first_found f xs ≡ None)
found_parts {B = B} f x xs e = step (f x) e
  where
    step : (o : Option B) → option_or o (first_found f xs) ≡ None → (o ≡ None) × (first_found f xs ≡ None)
    step None e = (refl, e)
    step (Some y) e = cc

none_mapped : {A B : Type 0} (f : A → B) (o : Option A) → option_map f o ≡ None → o ≡ None
none_mapped f None e = refl
none_mapped f (Some a) e = cc

second_none : {A : Type 0} (a b : Option A) → option_or a b ≡ None → b ≡ None
second_none None b e = e
second_none (Some x) b e = cc

-- a column has a value equal to the placeholder if and only if there is one
pub clash_none : (info : TableInfo) (column : Option (List ℕ)) → clash_at info column ≡ None → column ≡ None
clash_none info column e = none_mapped (λ name. record { table = info.name; column = name }) column e

pub clear_after : (placeholder : List ℕ) (n : Notice) → notice_clash placeholder n ≡ None → clash_among placeholder (column_names n.info.columns) (cells_after n.content) ≡ None
clear_after placeholder n clear =
    let names = column_names n.info.columns in
    second_none (clash_among placeholder names (cells_before n.content)) (clash_among placeholder names (cells_after n.content))
    (clash_none n.info (option_or (clash_among placeholder names (cells_before n.content)) (clash_among placeholder names (cells_after n.content))) clear)

module _ (identity : Identity) (commit : Commit) (now : ℤ) (range : IsCommitInRange commit) (moment : IsMomentInRange now) where
  numbered_ops : (position ordinal : ℕ) (ns : List Notice) → AllByRecursion NoticeFits ns → AllByRecursion IsKeyedNotice ns → first_found (notice_clash identity.placeholder) ns ≡ None
      → AllByRecursion (λ e. (topic text column : List ℕ)
      → record_op identity.placeholder (reading_of (as_line (print identity commit now e))) topic text column ≡ notice_op identity e.notice topic text column) (numbered position ordinal ns)
  numbered_ops position ordinal [] fits keyed clear = tt
  numbered_ops position ordinal (n ∷ ns) fits keyed clear =
      let parts = found_parts (notice_clash identity.placeholder) n ns clear in (
        λ topic text column. event_op identity commit now range moment n.info n.key n.content topic text column fits.0.key fits.0.content keyed.0 (clear_after identity.placeholder n parts.0),
        numbered_ops position (ordinal + 1) ns fits.1 keyed.1 parts.1,
      )

pub events_change_cells : EventsChangeCells
events_change_cells identity infos commit now range moment clear =
    numbered_ops identity commit now range moment commit.lsn.0 0 (flat_map (notices infos) (changes_of commit)) (commit_tells infos commit range).fit (all_keyed infos (changes_of commit)) clear
