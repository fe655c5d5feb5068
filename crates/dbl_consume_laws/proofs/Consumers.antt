-- What a consumer of all records of commits holds.
use Rattle.std.proofs.Common.{◌≡◌, ◌∙◌, ℕ, ℤ, List, [], ◌∷◌, ◌++◌, Option, Some, None, fold, length, take, map, flat_map, refl, sym, ap, subst}
use Rattle.std.specs.Prelude.{◌+◌, option_map, unwrap_or, slice_get}
use Rattle.std.specs.List.{AllByRecursion}
use Rattle.std.proofs.lemmas.List.{map-append}
use Rattle.dbl_value_types.specs.declared.value.Val.{Val}
use Rattle.dbl_record.specs.declared.reading.Line.{Line}
use Rattle.dbl_record.specs.Acts.{reading_of}
use Rattle.dbl_record.specs.Reading.{as_line}
use Rattle.dbl_record.specs.Consumers.{HeldCells, consumer, row_after as reading_after}
use Rattle.dbl_model_table.specs.declared.identity.Identity.{Identity}
use Rattle.dbl_model_table.specs.declared.row.Key.{Key}
use Rattle.dbl_model_table.specs.declared.table.TableInfo.{TableInfo}
use Rattle.dbl_model_table.specs.declared.change.Change.{Change}
use Rattle.dbl_model_table.specs.declared.change.Body.{Body}
use Rattle.dbl_model_table.specs.declared.change.Body.TheVariants.{Changes, Mark}
use Rattle.dbl_model_table.specs.declared.change.Commit.{Commit}
use Rattle.dbl_model_table.specs.Infos.{columns_of, topic_of}
use Rattle.dbl_model_table.specs.Rows.{Rows, no_rows, rows_after, rows_from, changes_of, all_changes}
use Rattle.dbl_model_history.specs.History.{History}
use Rattle.dbl_model_history.specs.Typed.{typed}
use Rattle.dbl_model_history.specs.Ranges.{IsChangeInRange, IsBodyInRange, IsCommitInRange, IsMomentInRange}
use Rattle.dbl_model_history.specs.Fit.{IsKeyOf, AreFit}
use Rattle.dbl_model_history.specs.Image.{key_text, row_json_texts, image_row, Names}
use Rattle.dbl_model_event.specs.Events.{Notice, notices, numbered}
use Rattle.dbl_model_event.specs.EventJson.{print, envelopes}
use Rattle.dbl_model_history.specs.Laws.{AreDistinctTables}
use Rattle.dbl_model_history.proofs.RowKeys.{AreKeyed, keyed_after, keyed_from, keyed-none}
use Rattle.dbl_model_history.proofs.RangeLemmas.{typed_in_range}
use Rattle.dbl_consume_laws.specs.Laws.{LacksPlaceholder, HoldsJsonTexts, lines_of_commits, held_of, last_rows, IsToldWhole}
use Rattle.dbl_consume_laws.proofs.Steps.{held_after, line_of_notice, step}

-- ---- lists that are put together

pub fold_append : {A B : Type 0} (f : B → A → B) (b : B) (xs ys : List A) → fold f b (xs ++ ys) ≡ fold f (fold f b xs) ys
fold_append f b [] ys = refl
fold_append f b (x ∷ xs) ys = fold_append f (f b x) xs ys

pub all_left : {X : Type 0} (P : X → Type 0) (xs ys : List X) → AllByRecursion P (xs ++ ys) → AllByRecursion P xs
all_left P [] ys h = tt
all_left P (x ∷ xs) ys h = (h.0, all_left P xs ys h.1)

pub all_right : {X : Type 0} (P : X → Type 0) (xs ys : List X) → AllByRecursion P (xs ++ ys) → AllByRecursion P ys
all_right P [] ys h = h
all_right P (x ∷ xs) ys h = all_right P xs ys h.1

pub fit_left : (infos : List TableInfo) (at : Rows) (cs ds : List Change) → AreFit infos at (cs ++ ds) → AreFit infos at cs
fit_left infos at [] ds fit = tt
fit_left infos at (c ∷ cs) ds fit = (fit.0, fit_left infos (rows_after infos c at) cs ds fit.1)

pub fit_right : (infos : List TableInfo) (at : Rows) (cs ds : List Change) → AreFit infos at (cs ++ ds) → AreFit infos (rows_from infos at cs) ds
fit_right infos at [] ds fit = fit
fit_right infos at (c ∷ cs) ds fit = fit_right infos (rows_after infos c at) cs ds fit.1

rows_from-append : (infos : List TableInfo) (at : Rows) (cs ds : List Change) → rows_from infos at (cs ++ ds) ≡ rows_from infos (rows_from infos at cs) ds
rows_from-append infos at [] ds = refl
rows_from-append infos at (c ∷ cs) ds = rows_from-append infos (rows_after infos c at) cs ds

-- ---- the lines of a commit

numbered_lines : (identity : Identity) (commit : Commit) (now : ℤ) (position ordinal : ℕ) (ns : List Notice) → map as_line (map (print identity commit now) (numbered position ordinal ns)) ≡ map (line_of_notice identity commit now) ns
numbered_lines identity commit now position ordinal [] = refl
numbered_lines identity commit now position ordinal (n ∷ ns) = ap (λ ls. line_of_notice identity commit now n ∷ ls) (numbered_lines identity commit now position (ordinal + 1) ns)

pub commit_lines : (identity : Identity) (infos : List TableInfo) (commit : Commit) (now : ℤ) → map as_line (envelopes identity infos commit now) ≡ map (line_of_notice identity commit now) (flat_map (notices infos) (changes_of commit))
commit_lines identity infos commit now = numbered_lines identity commit now commit.lsn.0 0 (flat_map (notices infos) (changes_of commit))

pub first_lines : (identity : Identity) (infos : List TableInfo) (now : Commit → ℤ) (commit : Commit) (commits : List Commit)
    → lines_of_commits identity infos now (commit ∷ commits) ≡ map (line_of_notice identity commit (now commit)) (flat_map (notices infos) (changes_of commit)) ++ lines_of_commits identity infos now commits
first_lines identity infos now commit commits =
    map-append as_line (envelopes identity infos commit (now commit)) (flat_map (λ c. envelopes identity infos c (now c)) commits)
    ∙ ap (λ ls. ls ++ lines_of_commits identity infos now commits) (commit_lines identity infos commit (now commit))

pub changes_in_range : (commit : Commit) → IsCommitInRange commit → AllByRecursion IsChangeInRange (changes_of commit)
changes_in_range commit h = step commit.body h.body
  where
    step : (body : Body) → IsBodyInRange body → AllByRecursion IsChangeInRange (elim body [ Changes changes ↦ changes | Mark value ↦ [] ])
    step (Changes changes) low = low.1
    step (Mark value) low = tt

-- ---- at one table and key

module _ (identity : Identity) (infos : List TableInfo) (now : Commit → ℤ) (moments : (commit : Commit) → IsMomentInRange (now commit))
    (table : ℕ) (info : TableInfo) (captured : slice_get infos table ≡ Some info) (apart : AreDistinctTables infos) (key : Key) (is_key : IsKeyOf info key) where
  abbrev after : Option HeldCells → Line → Option HeldCells
  after held line = held_after identity.placeholder (topic_of identity info) (key_text info key) held line

  abbrev texts : Option (List Val) → Option (List ℕ → Option (List ℕ))
  texts row = option_map (row_json_texts info.columns) row

  commit_holds : (commit : Commit) (cs : List Change) (at : Rows) (held : Option HeldCells) → IsCommitInRange commit → AreKeyed infos at → AreFit infos at cs → AllByRecursion IsChangeInRange cs → AllByRecursion (LacksPlaceholder identity.placeholder) cs
      → HoldsJsonTexts held (texts (at table key)) → HoldsJsonTexts (fold after held (map (line_of_notice identity commit (now commit)) (flat_map (notices infos) cs))) (texts (rows_from infos at cs table key))
  commit_holds commit [] at held range keyed fit low lacks was = was
  commit_holds commit (c ∷ cs) at held range keyed fit low lacks was =
      let line = line_of_notice identity commit (now commit) in
      let parts : fold after held (map line (notices infos c ++ flat_map (notices infos) cs)) ≡ fold after (fold after held (map line (notices infos c))) (map line (flat_map (notices infos) cs)) =
      ap (fold after held) (map-append line (notices infos c) (flat_map (notices infos) cs)) ∙ fold_append after held (map line (notices infos c)) (map line (flat_map (notices infos) cs)) in
      subst (λ h. HoldsJsonTexts h (texts (rows_from infos (rows_after infos c at) cs table key))) (sym parts)
      (commit_holds commit cs (rows_after infos c at) (fold after held (map line (notices infos c))) range (keyed_after infos at c keyed fit.0) fit.1 low.1 lacks.1
      (step identity infos commit (now commit) range (moments commit) table info captured apart key is_key c at held keyed fit.0 low.0 lacks.0 was))

  commits_hold : (commits : List Commit) (at : Rows) (held : Option HeldCells) → AllByRecursion IsCommitInRange commits → AreKeyed infos at → AreFit infos at (all_changes commits) → AllByRecursion (LacksPlaceholder identity.placeholder) (all_changes commits)
      → HoldsJsonTexts held (texts (at table key)) → HoldsJsonTexts (fold after held (lines_of_commits identity infos now commits)) (texts (rows_from infos at (all_changes commits) table key))
  commits_hold [] at held range keyed fit lacks was = was
  commits_hold (commit ∷ commits) at held range keyed fit lacks was =
      let cs = changes_of commit in
      let ds = all_changes commits in
      let ls = map (line_of_notice identity commit (now commit)) (flat_map (notices infos) cs) in
      let parts : fold after held (lines_of_commits identity infos now (commit ∷ commits)) ≡ fold after (fold after held ls) (lines_of_commits identity infos now commits) =
      ap (fold after held) (first_lines identity infos now commit commits) ∙ fold_append after held ls (lines_of_commits identity infos now commits) in
      subst (λ h. HoldsJsonTexts h (texts (rows_from infos at (cs ++ ds) table key))) (sym parts)
      (subst (λ (r : Rows). HoldsJsonTexts (fold after (fold after held ls) (lines_of_commits identity infos now commits)) (texts (r table key))) (sym (rows_from-append infos at cs ds))
      (commits_hold commits (rows_from infos at cs) (fold after held ls) range.1 (keyed_from infos at cs keyed (fit_left infos at cs ds fit)) (fit_right infos at cs ds fit) (all_right (LacksPlaceholder identity.placeholder) cs ds lacks)
      (commit_holds commit cs at held range.0 keyed (fit_left infos at cs ds fit) (changes_in_range commit range.0) (all_left (LacksPlaceholder identity.placeholder) cs ds lacks) was)))

-- ---- after a whole history

take_all : {X : Type 0} (xs : List X) → take (length xs) xs ≡ xs
take_all [] = refl
take_all (x ∷ xs) = ap (λ l. x ∷ l) (take_all xs)

columns_at : (infos : List TableInfo) (table : ℕ) (info : TableInfo) → slice_get infos table ≡ Some info → columns_of infos table ≡ info.columns
columns_at infos table info at = ap (λ (o : Option TableInfo). unwrap_or (option_map (λ (i : TableInfo). i.columns) o) []) at

fold_map : {A B C : Type 0} (f : C → B → C) (g : A → B) (c : C) (xs : List A) → fold f c (map g xs) ≡ fold (λ b x. f b (g x)) c xs
fold_map f g c [] = refl
fold_map f g c (x ∷ xs) = fold_map f g (f c (g x)) xs

-- a consumer goes from line to line
pub by_lines : (placeholder topic text : List ℕ) (lines : List Line) → consumer placeholder lines topic text ≡ fold (held_after placeholder topic text) None lines
by_lines placeholder topic text lines = fold_map (reading_after placeholder topic text) reading_of None lines

pub named_holds : (history : History) (infos : List TableInfo) (identity : Identity) (now : Commit → ℤ) → IsToldWhole history infos identity now → (topic text : List ℕ) (table : ℕ) (key : Key) → Names identity infos topic text table key
    → HoldsJsonTexts (held_of identity infos now history topic text) (image_row infos (last_rows infos (typed infos history)) table key)
named_holds history infos identity now told topic text table key names =
    let commits = typed infos history in
    let info = names.info in
    let lines = lines_of_commits identity infos now commits in
    let all = commits_hold identity infos now told.moments table info names.captured told.captured.distinct key names.is_key commits no_rows None
    (typed_in_range infos history told.fit.ranges) (keyed-none infos) (told.fit.fit infos told.captured) told.lacks tt in
    let rows_are : last_rows infos commits ≡ rows_from infos no_rows (all_changes commits) = ap (rows_from infos no_rows) (take_all (all_changes commits)) in
    subst (λ h. HoldsJsonTexts h (image_row infos (last_rows infos commits) table key)) (sym (by_lines identity.placeholder topic text lines))
    (subst (λ t. HoldsJsonTexts (fold (held_after identity.placeholder t text) None lines) (image_row infos (last_rows infos commits) table key)) names.topic_is
    (subst (λ t. HoldsJsonTexts (fold (held_after identity.placeholder (topic_of identity info) t) None lines) (image_row infos (last_rows infos commits) table key)) names.text_is
    (subst (λ (r : Rows). HoldsJsonTexts (fold (held_after identity.placeholder (topic_of identity info) (key_text info key)) None lines) (image_row infos r table key)) (sym rows_are)
    (subst (λ columns. HoldsJsonTexts (fold (held_after identity.placeholder (topic_of identity info) (key_text info key)) None lines) (option_map (row_json_texts columns) (rows_from infos no_rows (all_changes commits) table key))) (sym (columns_at infos table info names.captured)) all))))
