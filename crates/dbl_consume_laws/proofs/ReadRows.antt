-- What the records of a snapshot do to a consumer.
use Rattle.std.proofs.Common.{◌≡◌, ◌∙◌, inl, inr, ℕ, ℤ, List, Bool, true, false, cond, Option, Some, Ok, refl, sym, ap, subst}
use Rattle.std.specs.Str.{bytes_eq}
use Rattle.dbl_record.specs.Acts.{act_of, act, cells_of}
use Rattle.dbl_record.specs.Consumers.{HeldCells, row_of, row_after_result}
use Rattle.dbl_record.specs.Reading.{as_line}
use Rattle.dbl_record.specs.declared.acts.Act.TheVariants.{Nothing, Set}
use Rattle.dbl_model_table.specs.declared.identity.Identity.{Identity}
use Rattle.dbl_model_table.specs.declared.row.Key.{Key}
use Rattle.dbl_model_table.specs.declared.row.Row.{Row}
use Rattle.dbl_model_table.specs.declared.table.TableInfo.{TableInfo}
use Rattle.dbl_model_table.specs.declared.change.Commit.{Commit}
use Rattle.dbl_model_table.specs.Tables.{column_names}
use Rattle.dbl_model_table.specs.Infos.{topic_of}
use Rattle.dbl_model_history.specs.Image.{key_text, row_json_texts, members_of}
use Rattle.dbl_model_event.specs.Snapshots.{read_record, progress_record, progress_topic}
use Rattle.dbl_model_table.proofs.Lists.{same_text, text_itself}
use Rattle.dbl_consume_laws.specs.Laws.{HoldsJsonTexts}
use Rattle.dbl_consume_laws.specs.Snapshots.{IsReadInRange, ReadRowsAreHeld, ReadRowsLeaveOthers, ReadRowsChangeCells, ProgressChangesNothing, ProgressChangesNoCell}
use Rattle.dbl_consume_laws.specs.Cells.{Stay, result_op}
use Rattle.dbl_consume_laws.proofs.Wholes.{all_fit_in_range, row_of_values}
use Rattle.dbl_consume_laws.proofs.Topics.{is_progress_topic}
use Rattle.dbl_consume_laws.proofs.Acts.{act_read}
use Rattle.dbl_consume_laws.proofs.Held.{whole_set}
use Rattle.dbl_consume_laws.proofs.CellEvents.{created_op, named_lacks}

module _ (identity : Identity) (info : TableInfo) (commit : Commit) (now : ℤ) (ordinal : ℕ) (entry : Key × Row) where
  -- the row of a snapshot is set under its key
  pub act_read_record : IsReadInRange entry commit now
      → act identity.placeholder (as_line (read_record identity info commit now ordinal entry))
      ≡ Ok (Set (key_text info entry.0) (cells_of identity.placeholder (members_of (column_names info.columns) entry.1.cells)))
  act_read_record range = act_read identity commit now range.commit_fits range.moment_fits info entry.0 entry.1 (all_fit_in_range entry.0.cells range.key_fits) (all_fit_in_range entry.1.cells range.row_fits)

  -- what is held at a topic and a text after it
  pub after_read : (topic text : List ℕ) (held : Option HeldCells) → IsReadInRange entry commit now
      → cond (bytes_eq (topic_of identity info) topic) (row_after_result (act identity.placeholder (as_line (read_record identity info commit now ordinal entry))) text held) held
      ≡ cond (bytes_eq (topic_of identity info) topic) (cond (bytes_eq (key_text info entry.0) text) (Some (row_of held (cells_of identity.placeholder (members_of (column_names info.columns) entry.1.cells)))) held) held
  after_read topic text held range = ap (λ r. cond (bytes_eq (topic_of identity info) topic) (row_after_result r text held) held) (act_read_record range)

pub read_rows_are_held : ReadRowsAreHeld
read_rows_are_held identity info commit now ordinal entry held range lacks =
    let row : Option HeldCells = Some (row_of held (cells_of identity.placeholder (members_of (column_names info.columns) entry.1.cells))) in
    let here = after_read identity info commit now ordinal entry (topic_of identity info) (key_text info entry.0) held range
    ∙ ap (λ b. cond b (cond (bytes_eq (key_text info entry.0) (key_text info entry.0)) row held) held) (text_itself (topic_of identity info))
    ∙ ap (λ b. cond b row held) (text_itself (key_text info entry.0)) in
    subst (λ h. HoldsJsonTexts h (Some (row_json_texts info.columns entry.1.cells))) (sym here)
    (whole_set identity.placeholder held info.columns entry.1.cells lacks (row_of_values (column_names info.columns) entry.1.cells (all_fit_in_range entry.1.cells range.row_fits)).whole)

neither : {X : Type 0} (a b : Bool) (x held : X) → (a ≡ true → b ≡ true → ⊥) → cond a (cond b x held) held ≡ held
neither true true x held not_both = absurd (not_both refl refl)
neither true false x held not_both = refl
neither false b x held not_both = refl

pub read_rows_leave_others : ReadRowsLeaveOthers
read_rows_leave_others identity info commit now ordinal entry topic text held range other =
    after_read identity info commit now ordinal entry topic text held range
    ∙ neither (bytes_eq (topic_of identity info) topic) (bytes_eq (key_text info entry.0) text) (Some (row_of held (cells_of identity.placeholder (members_of (column_names info.columns) entry.1.cells)))) held
    (λ of_topic of_text. elim other [
      | inl topics ↦ topics (same_text (topic_of identity info) topic of_topic)
      | inr texts ↦ texts (same_text (key_text info entry.0) text of_text)
    ])

-- a progress record is passed over, for any contents
pub act_progress : (identity : Identity) (info : TableInfo) (commit : Commit) (ordinal : ℕ) (through : Option Key) (done : Bool) → act identity.placeholder (as_line (progress_record identity info commit ordinal through done)) ≡ Ok Nothing
unfolding act_of
act_progress identity info commit ordinal through done = rw (is_progress_topic identity) refl

still : {X : Type 0} (b : Bool) (held : X) → cond b held held ≡ held
still true held = refl
still false held = refl

pub progress_changes_nothing : ProgressChangesNothing
progress_changes_nothing identity info commit ordinal through done topic text held =
    ap (λ r. cond (bytes_eq (progress_topic identity) topic) (row_after_result r text held) held) (act_progress identity info commit ordinal through done)
    ∙ still (bytes_eq (progress_topic identity) topic) held

-- ---- one cell

pub read_rows_change_cells : ReadRowsChangeCells
read_rows_change_cells identity table info commit now ordinal entry topic text column range lacks =
    ap (λ r. cond (bytes_eq (topic_of identity info) topic) (result_op r text column) Stay) (act_read_record identity info commit now ordinal entry range)
    ∙ ap (λ op. cond (bytes_eq (topic_of identity info) topic) (cond (bytes_eq (key_text info entry.0) text) op Stay) Stay)
    (created_op identity.placeholder info entry.1 column (all_fit_in_range entry.1.cells range.row_fits) (named_lacks identity.placeholder info entry.1.cells column lacks))

pub progress_changes_no_cell : ProgressChangesNoCell
progress_changes_no_cell identity info commit ordinal through done topic text column =
    ap (λ r. cond (bytes_eq (progress_topic identity) topic) (result_op r text column) Stay) (act_progress identity info commit ordinal through done)
    ∙ still (bytes_eq (progress_topic identity) topic) Stay
