-- A consumer holds rows at the topics and key texts of captured tables and keys alone.
use Rattle.std.proofs.Common.{◌≡◌, ◌∙◌, ℕ, ℤ, List, [], ◌∷◌, Bool, true, false, cond, Option, Some, None, Ok, fold, map, flat_map, refl, sym, ap, subst}
use Rattle.std.specs.Prelude.{option_map, unwrap_or, slice_get}
use Rattle.std.specs.List.{AllByRecursion}
use Rattle.std.specs.Str.{bytes_eq}
use Rattle.std.proofs.lemmas.List.{map-append}
use Rattle.dbl_value_types.specs.declared.value.Val.{Val}
use Rattle.dbl_record.specs.declared.acts.Act.{Act}
use Rattle.dbl_record.specs.declared.acts.Act.TheVariants.{Nothing, Set, Remove, Wipe}
use Rattle.dbl_record.specs.declared.acts.GivenCell.{GivenCell}
use Rattle.dbl_record.specs.declared.reading.Line.{Line}
use Rattle.dbl_record.specs.Acts.{act}
use Rattle.dbl_record.specs.Consumers.{HeldCells, row_of, row_after_act, row_after_result}
use Rattle.dbl_model_table.specs.declared.identity.Identity.{Identity}
use Rattle.dbl_model_table.specs.declared.row.Key.{Key}
use Rattle.dbl_model_table.specs.declared.row.Row.{Row}
use Rattle.dbl_model_table.specs.declared.table.Column.{Column}
use Rattle.dbl_model_table.specs.declared.table.TableInfo.{TableInfo}
use Rattle.dbl_model_table.specs.declared.change.Cell.{Cell}
use Rattle.dbl_model_table.specs.declared.change.Change.{Change}
use Rattle.dbl_model_table.specs.declared.change.Change.TheVariants.{Insert, Update, Delete, Clear}
use Rattle.dbl_model_table.specs.declared.change.Commit.{Commit}
use Rattle.dbl_model_table.specs.Infos.{columns_of, topic_of}
use Rattle.dbl_model_table.specs.Keys.{key_of, new_key_of, given_or_null, same_key}
use Rattle.dbl_model_table.specs.Rows.{Rows, no_rows, rows_after, rows_from, table_of, changes_of, all_changes}
use Rattle.dbl_model_history.specs.Typed.{typed}
use Rattle.dbl_model_history.specs.Ranges.{IsChangeInRange, IsCommitInRange, IsMomentInRange}
use Rattle.dbl_model_history.specs.Fit.{IsKeyOf, IsFitInsert, IsFitUpdate, IsFitDelete, IsFit, AreFit}
use Rattle.dbl_model_history.specs.Image.{key_text, row_json_texts, image_row, Names, IsImage}
use Rattle.dbl_model_event.specs.Events.{Created, Updated, Deleted, Tombstone, Truncated, Notice, move_notices, change_notices, notices}
use Rattle.dbl_model_table.proofs.Lists.{same_text}
use Rattle.dbl_model_history.proofs.RowKeys.{some_and, is_some_value}
use Rattle.dbl_model_history.proofs.RangeLemmas.{typed_in_range}
use Rattle.dbl_consume_laws.specs.Laws.{HoldsJsonTexts, last_rows, lines_of_commits, held_of, ConsumersHoldImages, ImagesStand, ConsumersHoldNoOtherRows}
use Rattle.dbl_consume_laws.proofs.Wholes.{AllFit, all_fit_in_range}
use Rattle.dbl_consume_laws.proofs.Notices.{key_fits, cells_in_range, given_fit, old_fits}
use Rattle.dbl_consume_laws.proofs.Acts.{line_of_event, act_created, act_updated, act_deleted, act_tombstone, act_truncated}
use Rattle.dbl_consume_laws.proofs.Steps.{held_after, line_of_notice}
use Rattle.dbl_consume_laws.proofs.Consumers.{by_lines, fold_append, first_lines, changes_in_range, fit_left, fit_right, named_holds}

module _ (identity : Identity) (infos : List TableInfo) (topic text : List ℕ) where
  abbrev pub Found : Type 0
  Found = (table : ℕ) × (key : Key) × Names identity infos topic text table key

  -- a row that is held here is named
  abbrev pub IsNamed : Option HeldCells → Type 0
  IsNamed held = (cells : HeldCells) → held ≡ Some cells → Found

  abbrev after : Option HeldCells → Line → Option HeldCells
  after held line = held_after identity.placeholder topic text held line

  none_named : IsNamed None
  none_named cells e = cc

  -- ---- one line

  pub after_set : (held : Option HeldCells) (line : Line) (t : ℕ) (info : TableInfo) (key : Key) (cells : List GivenCell) → slice_get infos t ≡ Some info → IsKeyOf info key → line.topic ≡ topic_of identity info
      → act identity.placeholder line ≡ Ok (Set (key_text info key) cells) → IsNamed held → IsNamed (after held line)
  after_set held line t info key cells captured is_key is_topic does was =
      let left : after held line ≡ cond (bytes_eq (topic_of identity info) topic) (cond (bytes_eq (key_text info key) text) (Some (row_of held cells)) held) held =
      ap (λ u. cond (bytes_eq u topic) (row_after_result (act identity.placeholder line) text held) held) is_topic ∙ ap (λ r. cond (bytes_eq (topic_of identity info) topic) (row_after_result r text held) held) does in
      subst IsNamed (sym left) (by (bytes_eq (topic_of identity info) topic) refl (bytes_eq (key_text info key) text) refl)
    where
      by : (b : Bool) → bytes_eq (topic_of identity info) topic ≡ b → (d : Bool) → bytes_eq (key_text info key) text ≡ d → IsNamed (cond b (cond d (Some (row_of held cells)) held) held)
      by true of_topic true of_text = λ found e. (t, key, record { info = info; captured = captured; is_key = is_key; topic_is = same_text (topic_of identity info) topic of_topic; text_is = same_text (key_text info key) text of_text })
      by true of_topic false of_text = was
      by false of_topic d of_text = was

  -- acts that set no row
  abbrev pub SetsNone : Act → Type 0
  SetsNone Nothing = Unit {0}
  SetsNone (Set key cells) = ⊥
  SetsNone (Remove key) = Unit {0}
  SetsNone Wipe = Unit {0}

  act_named : (done : Act) (held : Option HeldCells) → SetsNone done → IsNamed held → IsNamed (row_after_act done text held)
  act_named Nothing held sets was = was
  act_named (Set key cells) held sets was = elim sets [ ]
  act_named (Remove key) held sets was = by (bytes_eq key text)
    where
      by : (b : Bool) → IsNamed (cond b None held)
      by true = none_named
      by false = was
  act_named Wipe held sets was = none_named

  pub after_less : (held : Option HeldCells) (line : Line) (done : Act) → SetsNone done → act identity.placeholder line ≡ Ok done → IsNamed held → IsNamed (after held line)
  after_less held line done sets does was =
      subst IsNamed (sym (ap (λ r. cond (bytes_eq line.topic topic) (row_after_result r text held) held) does)) (by (bytes_eq line.topic topic))
    where
      by : (b : Bool) → IsNamed (cond b (row_after_act done text held) held)
      by true = act_named done held sets was
      by false = was

  -- ---- one change

  module _ (commit : Commit) (now : ℤ) (range : IsCommitInRange commit) (moment : IsMomentInRange now) where
    abbrev after_all : Option HeldCells → List Notice → Option HeldCells
    after_all held ns = fold after held (map (line_of_notice identity commit now) ns)

    as_told : (c : Change) (info : TableInfo) (held : Option HeldCells) → slice_get infos (table_of c) ≡ Some info → IsNamed (after_all held (change_notices (table_of c) info c)) → IsNamed (after_all held (notices infos c))
    as_told c info held at named = subst (λ o. IsNamed (after_all held (unwrap_or (option_map (λ i. change_notices (table_of c) i c) o) []))) (sym at) named

    update_named : (t : ℕ) (info : TableInfo) (from : Key) (old : Option Row) (cells : List Cell) (held : Option HeldCells) (stays : Bool) → slice_get infos t ≡ Some info → IsKeyOf info from → IsKeyOf info (new_key_of info cells)
        → IsChangeInRange (Update t from old cells) → IsNamed held
        → IsNamed (after_all held (cond stays (record { table = t; info = info; key = Some from; content = Updated old cells; newkey = None; oldkey = None } ∷ []) (move_notices t info from (new_key_of info cells) old (record { cells = map given_or_null cells }))))
    update_named t info from old cells held true at of_from of_to low was =
        after_set held (line_of_event identity commit now info (Some from) (Updated old cells)) t info from _ at of_from refl
        (act_updated identity commit now range moment info from old cells (all_fit_in_range from.cells low.key) (old_fits old low.old) (cells_in_range cells low.cells)) was
    update_named t info from old cells held false at of_from of_to low was =
        let to = new_key_of info cells in
        let new : Row = record { cells = map given_or_null cells } in
        let key_low = all_fit_in_range from.cells low.key in
        let new_low : AllFit new.cells = given_fit cells (cells_in_range cells low.cells) in
        let gone = line_of_event identity commit now info (Some from) (Deleted old) in
        let tombstone = line_of_event identity commit now info (Some from) Tombstone in
        after_set (after (after held gone) tombstone) (line_of_event identity commit now info (Some to) (Created new)) t info to _ at of_to refl
        (act_created identity commit now range moment info to new (key_fits info new.cells new_low) new_low)
        (after_less (after held gone) tombstone Nothing tt (act_tombstone identity commit now range moment info from key_low)
        (after_less held gone (Remove (key_text info from)) tt (act_deleted identity commit now range moment info from old key_low (old_fits old low.old)) was))

    change_named : (c : Change) (at : Rows) (held : Option HeldCells) → IsFit infos at c → IsChangeInRange c → IsNamed held → IsNamed (after_all held (notices infos c))
    change_named (Insert t new) at held fit low was =
        let f = some_and (slice_get infos t) (λ i. IsFitInsert i (at t) new) fit in
        let new_low = all_fit_in_range new.cells low in
        as_told (Insert t new) f.0 held f.1
        (after_set held (line_of_event identity commit now f.0 (Some (key_of f.0 new.cells)) (Created new)) t f.0 (key_of f.0 new.cells) _ f.1 f.2.key refl
        (act_created identity commit now range moment f.0 (key_of f.0 new.cells) new (key_fits f.0 new.cells new_low) new_low) was)
    change_named (Update t from old cells) at held fit low was =
        let f = some_and (slice_get infos t) (λ i. IsFitUpdate i (at t) from old cells) fit in
        as_told (Update t from old cells) f.0 held f.1 (update_named t f.0 from old cells held (same_key from (new_key_of f.0 cells)) f.1 f.2.old_key f.2.new_key low was)
    change_named (Delete t from old) at held fit low was =
        let f = some_and (slice_get infos t) (λ i. IsFitDelete i (at t) from old) fit in
        let key_low = all_fit_in_range from.cells low.0 in
        let gone = line_of_event identity commit now f.0 (Some from) (Deleted (Some old)) in
        as_told (Delete t from old) f.0 held f.1
        (after_less (after held gone) (line_of_event identity commit now f.0 (Some from) Tombstone) Nothing tt (act_tombstone identity commit now range moment f.0 from key_low)
        (after_less held gone (Remove (key_text f.0 from)) tt (act_deleted identity commit now range moment f.0 from (Some old) key_low (all_fit_in_range old.cells low.1)) was))
    change_named (Clear t) at held fit low was =
        let f = is_some_value (slice_get infos t) fit in
        as_told (Clear t) f.0 held f.1 (after_less held (line_of_event identity commit now f.0 None Truncated) Wipe tt (act_truncated identity commit now range moment f.0) was)

    changes_named : (cs : List Change) (at : Rows) (held : Option HeldCells) → AreFit infos at cs → AllByRecursion IsChangeInRange cs → IsNamed held → IsNamed (after_all held (flat_map (notices infos) cs))
    changes_named [] at held fit low was = was
    changes_named (c ∷ cs) at held fit low was =
        let line = line_of_notice identity commit now in
        subst IsNamed (sym (ap (fold after held) (map-append line (notices infos c) (flat_map (notices infos) cs)) ∙ fold_append after held (map line (notices infos c)) (map line (flat_map (notices infos) cs))))
        (changes_named cs (rows_after infos c at) (after_all held (notices infos c)) fit.1 low.1 (change_named c at held fit.0 low.0 was))

  -- ---- all commits

  commits_named : (now : Commit → ℤ) → ((commit : Commit) → IsMomentInRange (now commit)) → (commits : List Commit) (at : Rows) (held : Option HeldCells) → AllByRecursion IsCommitInRange commits → AreFit infos at (all_changes commits)
      → IsNamed held → IsNamed (fold after held (lines_of_commits identity infos now commits))
  commits_named now moments [] at held range fit was = was
  commits_named now moments (commit ∷ commits) at held range fit was =
      let cs = changes_of commit in
      let ds = all_changes commits in
      let ls = map (line_of_notice identity commit (now commit)) (flat_map (notices infos) cs) in
      subst IsNamed (sym (ap (fold after held) (first_lines identity infos now commit commits) ∙ fold_append after held ls (lines_of_commits identity infos now commits)))
      (commits_named now moments commits (rows_from infos at cs) (fold after held ls) range.1 (fit_right infos at cs ds fit)
      (changes_named commit (now commit) range.0 (moments commit) cs at held (fit_left infos at cs ds fit) (changes_in_range commit range.0) was))

pub no_other_rows : ConsumersHoldNoOtherRows
no_other_rows history infos identity now told topic text cells is =
    commits_named identity infos topic text now told.moments (typed infos history) no_rows None (typed_in_range infos history told.fit.ranges) (told.fit.fit infos told.captured) (none_named identity infos topic text) cells (sym (by_lines identity.placeholder topic text (lines_of_commits identity infos now (typed infos history))) ∙ is)

pub hold_images : ConsumersHoldImages
hold_images history infos identity now told topic text (Some texts) image =
    subst (HoldsJsonTexts (held_of identity infos now history topic text)) image.row (named_holds history infos identity now told topic text image.table image.key image.names)
hold_images history infos identity now told topic text None image = by (held_of identity infos now history topic text) refl
  where
    by : (held : Option HeldCells) → held_of identity infos now history topic text ≡ held → HoldsJsonTexts held None
    by None is = tt
    by (Some cells) is =
        let found = no_other_rows history infos identity now told topic text cells is in
        let row = image found.0 found.1 found.2 in
        subst (λ r. HoldsJsonTexts r None) is (subst (HoldsJsonTexts (held_of identity infos now history topic text)) (ap (option_map _) row) (named_holds history infos identity now told topic text found.0 found.1 found.2))

-- where nothing is held there is no row, and where a row is held there is one
gone : (columns : List Column) (row : Option (List Val)) → HoldsJsonTexts None (option_map (row_json_texts columns) row) → row ≡ None
gone columns None h = refl
gone columns (Some values) h = elim h [ ]

there : (columns : List Column) (cells : HeldCells) (row : Option (List Val)) → HoldsJsonTexts (Some cells) (option_map (row_json_texts columns) row) → (values : List Val) × (row ≡ Some values)
there columns cells None h = elim h [ ]
there columns cells (Some values) h = (values, refl)

pub images_stand : ImagesStand
images_stand history infos identity now told topic text = by (held_of identity infos now history topic text) refl
  where
    by : (held : Option HeldCells) → held_of identity infos now history topic text ≡ held
        → (image : Option (List ℕ → Option (List ℕ))) × IsImage identity infos (last_rows infos (typed infos history)) topic text image
    by None is = (None, λ table key names. gone (columns_of infos table) (last_rows infos (typed infos history) table key) (subst (λ h. HoldsJsonTexts h (image_row infos (last_rows infos (typed infos history)) table key)) is (named_holds history infos identity now told topic text table key names)))
    by (Some cells) is =
        let found = no_other_rows history infos identity now told topic text cells is in
        let row = there (columns_of infos found.0) cells (last_rows infos (typed infos history) found.0 found.1) (subst (λ h. HoldsJsonTexts h (image_row infos (last_rows infos (typed infos history)) found.0 found.1)) is (named_holds history infos identity now told topic text found.0 found.1 found.2)) in
        (Some (row_json_texts (columns_of infos found.0) row.0), record { table = found.0; key = found.1; names = found.2; row = ap (option_map (row_json_texts (columns_of infos found.0))) row.1 })
