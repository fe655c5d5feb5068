-- Each row that a consumer holds is at a captured table and key, and has a cell in each of its columns.
use Rattle.std.proofs.Common.{◌≡◌, ◌∙◌, ◌⊎◌, inl, inr, ◌+◌, ℕ, ℤ, List, [], ◌∷◌, ◌++◌, Bool, true, false, cond, Option, Some, None, Ok, fold, length, take, map, flat_map, refl, sym, ap, subst, append_assoc, append-nil}
use Rattle.std.specs.Prelude.{IfSome, IsSome, Contains, option_map, unwrap_or, slice_get}
use Rattle.std.specs.List.{AllByRecursion}
use Rattle.std.specs.Str.{bytes_eq}
use Rattle.std.proofs.lemmas.List.{map-append, length-map}
use Rattle.std.proofs.lemmas.List.Elements.{All-contains, All-from_recursion}
use Rattle.dbl_value_types.specs.declared.value.Val.{Val}
use Rattle.dbl_value_types.specs.Values.{json_data}
use Rattle.dbl_record.specs.declared.acts.Act.{Act}
use Rattle.dbl_record.specs.declared.acts.Act.TheVariants.{Nothing, Set, Remove, Wipe}
use Rattle.dbl_record.specs.declared.reading.Line.{Line}
use Rattle.dbl_record.specs.declared.record.Record.{Record}
use Rattle.dbl_record.specs.Acts.{reading_of, act, sent_text, cells_of}
use Rattle.dbl_record.specs.Consumers.{HeldCells, held_at, held_now, row_of, row_after, row_after_act, row_after_result}
use Rattle.dbl_record.specs.Reading.{as_line}
use Rattle.dbl_model_table.specs.declared.identity.Identity.{Identity}
use Rattle.dbl_model_table.specs.declared.row.Key.{Key}
use Rattle.dbl_model_table.specs.declared.row.Row.{Row}
use Rattle.dbl_model_table.specs.declared.table.TableInfo.{TableInfo}
use Rattle.dbl_model_table.specs.declared.change.Cell.{Cell}
use Rattle.dbl_model_table.specs.declared.change.Change.{Change}
use Rattle.dbl_model_table.specs.declared.change.Change.TheVariants.{Insert, Update, Delete, Clear}
use Rattle.dbl_model_table.specs.declared.change.Commit.{Commit}
use Rattle.dbl_model_table.specs.Tables.{column_names}
use Rattle.dbl_model_table.specs.Infos.{column_of, column_types, topic_of, width}
use Rattle.dbl_model_table.specs.Keys.{key_of, new_key_of, given_or_null, same_key}
use Rattle.dbl_model_table.specs.Rows.{Rows, no_rows, rows_after, rows_from, table_of, changes_of, all_changes}
use Rattle.dbl_model_history.specs.Fit.{IsKeyOf, IsFitInsert, IsFitUpdate, IsFitDelete, IsFit, AreFit}
use Rattle.dbl_model_history.specs.FitsInfos.{AreCellsOf}
use Rattle.dbl_model_history.specs.Image.{key_text, members_of}
use Rattle.dbl_model_history.specs.Ranges.{IsCommitInRange, IsMomentInRange}
use Rattle.dbl_model_event.specs.Events.{Content, Created, Updated, Deleted, Tombstone, Truncated, Notice, move_notices, change_notices, notices}
use Rattle.dbl_model_event.specs.EventJson.{sent}
use Rattle.dbl_model_event.specs.Snapshots.{read_record, read_records, progress_record, chunk_records}
use Rattle.dbl_model_table.proofs.Lists.{same_text}
use Rattle.dbl_model_history.proofs.FitsInfosLemmas.{some_value}
use Rattle.dbl_model_history.proofs.RowKeys.{some_and, is_some_value}
use Rattle.dbl_model_history.proofs.RowLemmas.{all_changes-append}
use Rattle.dbl_consume_laws.specs.Snapshots.{IsReadInRange}
use Rattle.dbl_consume_laws.proofs.Wholes.{AllFit, row_of_values, all_fit_in_range}
use Rattle.dbl_consume_laws.proofs.Notices.{KeyFits, ContentFits, NoticeFits, all_append, commit_tells}
use Rattle.dbl_consume_laws.proofs.Lines.{sent_fit}
use Rattle.dbl_consume_laws.proofs.Acts.{line_of_event, act_created, act_updated, act_deleted, act_tombstone, act_truncated}
use Rattle.dbl_consume_laws.proofs.Held.{at_place, member_at}
use Rattle.dbl_consume_laws.proofs.Cells.{row_cell}
use Rattle.dbl_consume_laws.proofs.CellEvents.{IsKeyed, IsKeyedNotice, set_members, all_keyed}
use Rattle.dbl_consume_laws.proofs.Clashes.{cells_wide}
use Rattle.dbl_consume_laws.proofs.Consumers.{fold_append, fit_left, fit_right}
use Rattle.dbl_consume_laws.proofs.Prints.{through_in_range}
use Rattle.dbl_consume_laws.proofs.ReadRows.{act_read_record, act_progress}
use Rattle.dbl_consume_laws.specs.Commits.{AreFitCommits}
use Rattle.dbl_consume_laws.specs.Ages.{held_row, IsNamedRow, HasNamedRows}
use Rattle.dbl_consume_laws.specs.ChangeLaws.{IsRecordOf}
use Rattle.dbl_consume_laws.specs.RowLaws.{EventsKeepNames, SnapshotsKeepNames, NoRecordsAreNamed, IsRecordOfSome, IsRecordOfWindow, AreRecordsOf, RecordsOfHistoriesAreNamed, RecordsOfHistoriesAgree}
use Rattle.dbl_consume_laws.proofs.Lists.{all_take}
use Rattle.dbl_consume_laws.proofs.Deliver.{commit_in_range}
use Rattle.dbl_consume_laws.proofs.Events.{numbered_notice}
use Rattle.dbl_consume_laws.proofs.Rows.{wide_item, aged_records_agree}
use Rattle.dbl_consume_laws.proofs.Snapshot.{cells_in_range}

-- ---- the notices of a change that fits

abbrev IsWide : TableInfo → Content → Type 0
IsWide info (Created row) = length row.cells ≡ width info
IsWide info (Updated old cells) = length cells ≡ width info
IsWide info (Deleted old) = Unit {0}
IsWide info Tombstone = Unit {0}
IsWide info Truncated = Unit {0}

-- it is of a captured table and a key of it, and tells of as many cells as the table has columns
pub record IsTellable (infos : List TableInfo) (n : Notice) : Type 0 where
  pub captured : slice_get infos n.table ≡ Some n.info
  pub keyed : IfSome n.key (IsKeyOf n.info)
  pub wide : IsWide n.info n.content

update_tellable : (infos : List TableInfo) (t : ℕ) (info : TableInfo) (from to : Key) (old : Option Row) (cells : List Cell) (stays : Bool) → slice_get infos t ≡ Some info → IsKeyOf info from → IsKeyOf info to → length cells ≡ width info
    → AllByRecursion (IsTellable infos) (cond stays (record { table = t; info = info; key = Some from; content = Updated old cells; newkey = None; oldkey = None } ∷ []) (move_notices t info from to old (record { cells = map given_or_null cells })))
update_tellable infos t info from to old cells true captured of_from of_to wide = (record { captured = captured; keyed = of_from; wide = wide }, tt)
update_tellable infos t info from to old cells false captured of_from of_to wide = (
  record { captured = captured; keyed = of_from; wide = tt },
  (
    record { captured = captured; keyed = of_from; wide = tt },
    (record { captured = captured; keyed = of_to; wide = length-map cells given_or_null ∙ wide }, tt),
  ),
)

told_tellable : (infos : List TableInfo) (c : Change) (info : TableInfo) → slice_get infos (table_of c) ≡ Some info → AllByRecursion (IsTellable infos) (change_notices (table_of c) info c) → AllByRecursion (IsTellable infos) (notices infos c)
told_tellable infos c info captured all = subst (λ o. AllByRecursion (IsTellable infos) (unwrap_or (option_map (λ i. change_notices (table_of c) i c) o) [])) (sym captured) all

change_tellable : (infos : List TableInfo) (at : Rows) (c : Change) → IsFit infos at c → AllByRecursion (IsTellable infos) (notices infos c)
change_tellable infos at (Insert t row) fit =
    let f = some_and (slice_get infos t) (λ i. IsFitInsert i (at t) row) fit in
    told_tellable infos (Insert t row) f.0 f.1 (record { captured = f.1; keyed = f.2.key; wide = f.2.wide }, tt)
change_tellable infos at (Update t from old cells) fit =
    let f = some_and (slice_get infos t) (λ i. IsFitUpdate i (at t) from old cells) fit in
    told_tellable infos (Update t from old cells) f.0 f.1 (update_tellable infos t f.0 from (new_key_of f.0 cells) old cells (same_key from (new_key_of f.0 cells)) f.1 f.2.old_key f.2.new_key f.2.wide)
change_tellable infos at (Delete t from old) fit =
    let f = some_and (slice_get infos t) (λ i. IsFitDelete i (at t) from old) fit in
    told_tellable infos (Delete t from old) f.0 f.1 (record { captured = f.1; keyed = f.2.old_key; wide = tt }, (record { captured = f.1; keyed = f.2.old_key; wide = tt }, tt))
change_tellable infos at (Clear t) fit =
    let f = is_some_value (slice_get infos t) fit in
    told_tellable infos (Clear t) f.0 f.1 (record { captured = f.1; keyed = tt; wide = tt }, tt)

all_tellable : (infos : List TableInfo) (at : Rows) (cs : List Change) → AreFit infos at cs → AllByRecursion (IsTellable infos) (flat_map (notices infos) cs)
all_tellable infos at [] fit = tt
all_tellable infos at (c ∷ cs) fit =
    all_append (IsTellable infos) (notices infos c) (flat_map (notices infos) cs) (change_tellable infos at c fit.0) (all_tellable infos (rows_after infos c at) cs fit.1)

-- ---- one record

pub held_row-one : (identity : Identity) (records : List Record) (item : Record) (topic text : List ℕ) → held_row identity (records ++ item ∷ []) topic text ≡ row_after identity.placeholder topic text (held_row identity records topic text) (reading_of (as_line item))
held_row-one identity records item topic text =
    ap (λ (l : List Line). fold (row_after identity.placeholder topic text) None (map reading_of l)) (map-append as_line records (item ∷ []))
    ∙ (ap (fold (row_after identity.placeholder topic text) None) (map-append reading_of (map as_line records) (as_line item ∷ []))
    ∙ fold_append (row_after identity.placeholder topic text) None (map reading_of (map as_line records)) (reading_of (as_line item) ∷ []))

module _ (identity : Identity) (infos : List TableInfo) where
  -- a row that is held here is named
  abbrev pub IsNamedHere : List ℕ → List ℕ → Option HeldCells → Type 0
  IsNamedHere topic text held = (cells : HeldCells) → held ≡ Some cells → IsNamedRow identity infos topic text cells

  -- the record leaves named rows named, for any row that is held
  abbrev pub KeepsNames : Record → Type 0
  KeepsNames item = (topic text : List ℕ) (held : Option HeldCells) → IsNamedHere topic text held → IsNamedHere topic text (row_after identity.placeholder topic text held (reading_of (as_line item)))

  none_named : (topic text : List ℕ) → IsNamedHere topic text None
  none_named topic text cells e = cc

  pub named_one : (records : List Record) (item : Record) → KeepsNames item → HasNamedRows identity infos records → HasNamedRows identity infos (records ++ item ∷ [])
  named_one records item keeps named = record {
    each = λ topic text cells is. keeps topic text (held_row identity records topic text) (λ before was. named.each topic text before was) cells (sym (held_row-one identity records item topic text) ∙ is);
  }

  pub named_more : (more records : List Record) → AllByRecursion KeepsNames more → HasNamedRows identity infos records → HasNamedRows identity infos (records ++ more)
  named_more [] records keep named = subst (HasNamedRows identity infos) (sym (append-nil records)) named
  named_more (item ∷ more) records keep named = subst (HasNamedRows identity infos) (append_assoc records (item ∷ []) more) (named_more more (records ++ item ∷ []) keep.1 (named_one records item keep.0 named))

  -- ---- a record that sets a row

  -- a row that is set has a cell in each column
  set_columns : (info : TableInfo) (values : List Val) (held : Option HeldCells) (column : List ℕ) → length values ≡ width info → AllFit values → IsSome (column_of info.columns column)
      → IsSome (held_at (Some (row_of held (cells_of identity.placeholder (members_of (column_names info.columns) values)))) column)
  set_columns info values held column wide fits named =
      let ms = members_of (column_names info.columns) values in
      let value = wide_item info values column wide named in
      let is : held_at (Some (row_of held (cells_of identity.placeholder ms))) column ≡ Some (held_now held column (sent_text identity.placeholder (json_data value.0))) =
      row_cell held (cells_of identity.placeholder ms) column
      ∙ (ap (option_map (held_now held column)) (set_members identity.placeholder ms column (row_of_values (column_names info.columns) values fits).whole)
      ∙ (ap (λ o. option_map (held_now held column) (option_map (sent_text identity.placeholder) o)) (member_at (column_names info.columns) values column)
      ∙ ap (λ o. option_map (held_now held column) (option_map (sent_text identity.placeholder) (option_map json_data o))) value.1)) in
      subst IsSome (sym is) refl

  set_named : (item : Record) (t : ℕ) (info : TableInfo) (key : Key) (values : List Val) → slice_get infos t ≡ Some info → IsKeyOf info key → length values ≡ width info → AllFit values → item.topic ≡ topic_of identity info
      → act identity.placeholder (as_line item) ≡ Ok (Set (key_text info key) (cells_of identity.placeholder (members_of (column_names info.columns) values))) → KeepsNames item
  set_named item t info key values captured is_key wide fits is_topic does topic text held was =
      let cells = cells_of identity.placeholder (members_of (column_names info.columns) values) in
      let left : row_after identity.placeholder topic text held (reading_of (as_line item)) ≡ cond (bytes_eq (topic_of identity info) topic) (cond (bytes_eq (key_text info key) text) (Some (row_of held cells)) held) held =
      ap (λ u. cond (bytes_eq u topic) (row_after_result (act identity.placeholder (as_line item)) text held) held) is_topic
      ∙ ap (λ r. cond (bytes_eq (topic_of identity info) topic) (row_after_result r text held) held) does in
      subst (IsNamedHere topic text) (sym left) (by (bytes_eq (topic_of identity info) topic) refl (bytes_eq (key_text info key) text) refl)
    where
      by : (b : Bool) → bytes_eq (topic_of identity info) topic ≡ b → (d : Bool) → bytes_eq (key_text info key) text ≡ d → IsNamedHere topic text (cond b (cond d (Some (row_of held (cells_of identity.placeholder (members_of (column_names info.columns) values)))) held) held)
      by true of_topic true of_text = λ found e.
          (let same : row_of held (cells_of identity.placeholder (members_of (column_names info.columns) values)) ≡ found = cc in
          subst (IsNamedRow identity infos topic text) same (record {
            table = t;
            key = key;
            names = record { info = info; captured = captured; is_key = is_key; topic_is = same_text (topic_of identity info) topic of_topic; text_is = same_text (key_text info key) text of_text };
            columns = λ column named. set_columns info values held column wide fits named;
          }))
      by true of_topic false of_text = was
      by false of_topic d of_text = was

  -- ---- a record that sets none

  abbrev SetsNone : Act → Type 0
  SetsNone Nothing = Unit {0}
  SetsNone (Set key cells) = ⊥
  SetsNone (Remove key) = Unit {0}
  SetsNone Wipe = Unit {0}

  act_named : (done : Act) (topic text : List ℕ) (held : Option HeldCells) → SetsNone done → IsNamedHere topic text held → IsNamedHere topic text (row_after_act done text held)
  act_named Nothing topic text held sets was = was
  act_named (Set key cells) topic text held sets was = elim sets [ ]
  act_named (Remove key) topic text held sets was = by (bytes_eq key text)
    where
      by : (b : Bool) → IsNamedHere topic text (cond b None held)
      by true = none_named topic text
      by false = was
  act_named Wipe topic text held sets was = none_named topic text

  less_named : (item : Record) (done : Act) → SetsNone done → act identity.placeholder (as_line item) ≡ Ok done → KeepsNames item
  less_named item done sets does topic text held was =
      subst (IsNamedHere topic text) (sym (ap (λ r. cond (bytes_eq item.topic topic) (row_after_result r text held) held) does)) (by (bytes_eq item.topic topic))
    where
      by : (b : Bool) → IsNamedHere topic text (cond b (row_after_act done text held) held)
      by true = act_named done topic text held sets was
      by false = was

  -- ---- the record of an event

  module _ (commit : Commit) (now : ℤ) (range : IsCommitInRange commit) (moment : IsMomentInRange now) where
    event_keeps : (t : ℕ) (info : TableInfo) (key : Option Key) (content : Content) (item : Record) → as_line item ≡ line_of_event identity commit now info key content → slice_get infos t ≡ Some info → IfSome key (IsKeyOf info) → IsWide info content
        → KeyFits key → ContentFits content → IsKeyed key content → KeepsNames item
    event_keeps t info (Some key) (Created row) item line captured is_key wide k c keyed =
        set_named item t info key row.cells captured is_key wide c (ap (λ (l : Line). l.topic) line) (ap (act identity.placeholder) line ∙ act_created identity commit now range moment info key row k c)
    event_keeps t info (Some key) (Updated old cells) item line captured is_key wide k c keyed =
        set_named item t info key (map (sent identity.placeholder) cells) captured is_key (length-map cells (sent identity.placeholder) ∙ wide) (sent_fit identity.placeholder cells c.1) (ap (λ (l : Line). l.topic) line)
        (ap (act identity.placeholder) line ∙ act_updated identity commit now range moment info key old cells k c.0 c.1)
    event_keeps t info (Some key) (Deleted old) item line captured is_key wide k c keyed = less_named item (Remove (key_text info key)) tt (ap (act identity.placeholder) line ∙ act_deleted identity commit now range moment info key old k c)
    event_keeps t info (Some key) Tombstone item line captured is_key wide k c keyed = less_named item Nothing tt (ap (act identity.placeholder) line ∙ act_tombstone identity commit now range moment info key k)
    event_keeps t info (Some key) Truncated item line captured is_key wide k c keyed = elim keyed [ ]
    event_keeps t info None (Created row) item line captured is_key wide k c keyed = elim keyed [ ]
    event_keeps t info None (Updated old cells) item line captured is_key wide k c keyed = elim keyed [ ]
    event_keeps t info None (Deleted old) item line captured is_key wide k c keyed = elim keyed [ ]
    event_keeps t info None Tombstone item line captured is_key wide k c keyed = elim keyed [ ]
    event_keeps t info None Truncated item line captured is_key wide k c keyed = less_named item Wipe tt (ap (act identity.placeholder) line ∙ act_truncated identity commit now range moment info)

  -- a record of a commit
  module _ (before : List Commit) (commit : Commit) (later : List Commit) (facts : AreFitCommits infos (before ++ commit ∷ later)) where
    -- its changes are fit for the rows before it
    changes_fit : AreFit infos (rows_from infos no_rows (all_changes before)) (changes_of commit)
    changes_fit =
        let whole : AreFit infos no_rows (all_changes before ++ (changes_of commit ++ all_changes later)) = subst (AreFit infos no_rows) (all_changes-append before (commit ∷ later)) facts.fit in
        fit_left infos (rows_from infos no_rows (all_changes before)) (changes_of commit) (all_changes later) (fit_right infos no_rows (all_changes before) (changes_of commit ++ all_changes later) whole)

    record_keeps_names : (item : Record) → IsRecordOf identity infos commit item → KeepsNames item
    record_keeps_names item is =
        let ns : List Notice = flat_map (notices infos) (changes_of commit) in
        let range : IsCommitInRange commit = commit_in_range identity infos before commit later facts in
        let stands : slice_get ns is.number ≡ Some is.event.notice = numbered_notice commit.lsn.0 0 ns is.number is.event is.stands in
        let fits : NoticeFits is.event.notice = some_value (slice_get ns is.number) NoticeFits is.event.notice (at_place NoticeFits ns is.number (commit_tells infos commit range).fit) stands in
        let keyed : IsKeyedNotice is.event.notice = some_value (slice_get ns is.number) IsKeyedNotice is.event.notice (at_place IsKeyedNotice ns is.number (all_keyed infos (changes_of commit))) stands in
        let tellable : IsTellable infos is.event.notice =
        some_value (slice_get ns is.number) (IsTellable infos) is.event.notice (at_place (IsTellable infos) ns is.number (all_tellable infos (rows_from infos no_rows (all_changes before)) (changes_of commit) changes_fit)) stands in
        event_keeps commit is.now range is.in_range is.event.notice.table is.event.notice.info is.event.notice.key is.event.notice.content item (ap as_line is.printed) tellable.captured tellable.keyed tellable.wide fits.key fits.content keyed

    records_keep_names : (more : List Record) → AllByRecursion (IsRecordOf identity infos commit) more → AllByRecursion KeepsNames more
    records_keep_names [] are = tt
    records_keep_names (item ∷ more) are = (record_keeps_names item are.0, records_keep_names more are.1)

  -- ---- the records of a snapshot

  module _ (mark : Commit) (now : ℤ) (range : IsCommitInRange mark) (moment : IsMomentInRange now) (t : ℕ) (info : TableInfo) (captured : slice_get infos t ≡ Some info) where
    read_keeps : (ordinal : ℕ) (entry : Key × Row) → IsKeyOf info entry.0 → AreCellsOf (column_types info) entry.1.cells → KeepsNames (read_record identity info mark now ordinal entry)
    read_keeps ordinal entry is_key cells =
        let in_range : IsReadInRange entry mark now =
        record { key_fits = through_in_range info (Some entry.0) is_key; row_fits = cells_in_range (column_types info) entry.1.cells cells; commit_fits = range; moment_fits = moment } in
        let wide : length entry.1.cells ≡ width info = cells_wide (column_types info) entry.1.cells cells ∙ length-map info.columns (λ column. column.ty) in
        set_named (read_record identity info mark now ordinal entry) t info entry.0 entry.1.cells captured is_key wide (all_fit_in_range entry.1.cells in_range.row_fits) refl (act_read_record identity info mark now ordinal entry in_range)

    progress_keeps : (ordinal : ℕ) (through : Option Key) (done : Bool) → KeepsNames (progress_record identity info mark ordinal through done)
    progress_keeps ordinal through done = less_named (progress_record identity info mark ordinal through done) Nothing tt (act_progress identity info mark ordinal through done)

    chunk_keeps_names : (ordinal last : ℕ) (rows : List (Key × Row)) (through : Option Key) (done : Bool) → AllByRecursion (λ e. AreCellsOf (column_types info) e.1.cells × (key_of info e.1.cells ≡ e.0)) rows → AllByRecursion (λ e. IsKeyOf info e.0) rows
        → AllByRecursion KeepsNames (read_records identity info mark now ordinal rows ++ progress_record identity info mark last through done ∷ [])
    chunk_keeps_names ordinal last [] through done fits keys = (progress_keeps last through done, tt)
    chunk_keeps_names ordinal last (entry ∷ rows) through done fits keys = (read_keeps ordinal entry keys.0 fits.0.0, chunk_keeps_names (ordinal + 1) last rows through done fits.1 keys.1)

-- ---- the laws

pub no_records_are_named : NoRecordsAreNamed
no_records_are_named identity infos = record { each = λ topic text cells is. no_row_of_none cells is }
  where
    no_row_of_none : {X : Type 0} (cells : HeldCells) → None ≡ Some cells → X
    no_row_of_none cells e = cc

pub events_keep_names : EventsKeepNames
events_keep_names identity infos commits before commit later records more next are named =
    let facts : AreFitCommits infos (before ++ commit ∷ later) = subst (AreFitCommits infos) next.spelled next.fit in
    named_more identity infos more records (records_keep_names identity infos before commit later facts more are) named

pub snapshots_keep_names : SnapshotsKeepNames
snapshots_keep_names identity infos closed mark now records snapshot n range moment whole named =
    let info : TableInfo = whole.info in
    let chunk : List Record = chunk_records identity info closed.rows closed.through closed.done mark now in
    let listed : snapshot ≡ chunk = whole.records_are ∙ ap (λ (o : Option TableInfo). unwrap_or (option_map (λ i. chunk_records identity i closed.rows closed.through closed.done mark now) o) []) whole.captured in
    subst (λ (l : List Record). HasNamedRows identity infos (records ++ take n l)) (sym listed)
    (named_more identity infos (take n chunk) records
    (all_take (KeepsNames identity infos) n chunk (chunk_keeps_names identity infos mark now range moment closed.table info whole.captured 0 (length closed.rows) closed.rows closed.through closed.done whole.fits.rows whole.keys)) named)

-- ---- records of commits and of windows, in any order

window_keeps_names : (identity : Identity) (infos : List TableInfo) (item : Record) → IsRecordOfWindow identity infos item → KeepsNames identity infos item
window_keeps_names identity infos item w =
    let info : TableInfo = w.listed.info in
    let chunk : List Record = chunk_records identity info w.closed.rows w.closed.through w.closed.done w.mark w.now in
    let listed : w.snapshot ≡ chunk = w.listed.records_are ∙ ap (λ (o : Option TableInfo). unwrap_or (option_map (λ i. chunk_records identity i w.closed.rows w.closed.through w.closed.done w.mark w.now) o) []) w.listed.captured in
    let all : AllByRecursion (KeepsNames identity infos) chunk =
    chunk_keeps_names identity infos w.mark w.now w.mark_in_range w.now_in_range w.closed.table info w.listed.captured 0 (length w.closed.rows) w.closed.rows w.closed.through w.closed.done w.listed.fits.rows w.listed.keys in
    All-contains (KeepsNames identity infos) chunk item (All-from_recursion (KeepsNames identity infos) chunk all) (subst (λ (l : List Record). Contains l item) listed w.stands)

all_keep_names : (identity : Identity) (infos : List TableInfo) (commits : List Commit) → AreFitCommits infos commits → (records : List Record) → AreRecordsOf identity infos commits records → AllByRecursion (KeepsNames identity infos) records
all_keep_names identity infos commits facts [] are = tt
all_keep_names identity infos commits facts (item ∷ records) are = (one are.0, all_keep_names identity infos commits facts records are.1)
  where
    one : IsRecordOfSome identity infos commits item ⊎ IsRecordOfWindow identity infos item → KeepsNames identity infos item
    one (inl e) = record_keeps_names identity infos e.before e.commit e.later (subst (AreFitCommits infos) e.spelled facts) item e.is
    one (inr w) = window_keeps_names identity infos item w

pub records_are_named : RecordsOfHistoriesAreNamed
records_are_named identity infos commits records facts are = named_more identity infos records [] (all_keep_names identity infos commits facts records are) (no_records_are_named identity infos)

pub records_agree : RecordsOfHistoriesAgree
records_agree identity infos commits start moment records topic text table key facts are aged low names known =
    aged_records_agree identity infos commits start moment records topic text table key facts aged (records_are_named identity infos commits records facts are) low names known
