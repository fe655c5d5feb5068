-- What `apply --lines` makes of the lines of a whole log.
use Rattle.std.proofs.Common.{◌≡◌, ◌∙◌, ◌+◌, ℕ, ℤ, List, [], ◌∷◌, None, map, flat_map, refl, sym, ap, ap₂, subst}
use Rattle.std.specs.List.{AllByRecursion}
use Rattle.dbl_base.specs.Lines.{lines_of, lines_text}
use Rattle.dbl_record.specs.declared.record.Record.{Record}
use Rattle.dbl_record.specs.Line.{line_of}
use Rattle.dbl_record.specs.Acts.{Reading, reading_of}
use Rattle.dbl_record.specs.Reading.{as_line}
use Rattle.dbl_record.specs.Consumers.{consumer_of}
use Rattle.dbl_consume.proofs.StandLemmas.{rows_stand}
use Rattle.dbl_model_table.specs.declared.change.Commit.{Commit}
use Rattle.dbl_model_table.specs.Rows.{no_rows, all_changes}
use Rattle.dbl_model_history.specs.History.{History}
use Rattle.dbl_model_history.specs.Typed.{typed}
use Rattle.dbl_model_history.proofs.RangeLemmas.{typed_in_range, infos_in_range}
use Rattle.dbl_model_event.specs.EventJson.{envelopes}
use Rattle.dbl_model_commit.specs.Blocks.{onto}
use Rattle.dbl_consume_laws.specs.Laws.{IsToldWhole, HoldsJsonTexts, held_of}
use Rattle.dbl_consume_laws.proofs.Clashes.{fit_changes_are_wide, histories_lack_placeholders}
use Rattle.dbl_consume_laws.proofs.Named.{hold_images, images_stand}
use Rattle.dblog_run.specs.Replay.declared.options.LogOptions.{LogOptions}
use Rattle.dblog_run.specs.Replay.Log.{lines_in}
use Rattle.dblog_run.specs.Replay.Apply.{readings_of_lines, first_fault_from, or_later_line, first_line_fault}
use Rattle.dblog_laws.specs.Pipe.{IsWholeLog, LastRowsAreApplied}
use Rattle.dblog_laws.proofs.LineTexts.{AreLineTexts, lines_back}
use Rattle.dblog_laws.proofs.Records.{IsPiped, no_fault, commits_piped}
use Rattle.dblog_laws.proofs.Printed.{source_rows}
use Rattle.dbl_pgmsg.specs.Grammar.{FitsFields}
use Rattle.dbl_model_table.specs.declared.table.TableInfo.{TableInfo}
use Rattle.dbl_model_commit.specs.Stated.{commits_of}
use Rattle.dblog_replay.proofs.CommitLaws.{kept_state}
use Rattle.dblog_run.specs.Replay.Pieces.{AllFitFields}
use Rattle.dblog_run.proofs.ReplayCaptureLemmas.{infos_one}
use Rattle.dblog_run.proofs.ReplayMaskedLemmas.{masked_pieces_fit}
use Rattle.dblog_run.proofs.ReplayPieceLemmas.{fit_front, carried_fields}
use Rattle.dblog_run.proofs.ReplayStreamLemmas.{reads_fit}
use Rattle.dblog_laws.proofs.Clear.{IsClear, clear}

-- ---- lines of records that are taken

line_texts : (placeholder : List ℕ) (items : List Record) → AllByRecursion (IsPiped placeholder) items → AreLineTexts (map line_of items)
line_texts placeholder [] h = tt
line_texts placeholder (item ∷ items) h = (h.0.text, line_texts placeholder items h.1)

lines_read : (placeholder : List ℕ) (items : List Record) → AllByRecursion (IsPiped placeholder) items → readings_of_lines (map line_of items) ≡ map reading_of (map as_line items)
lines_read placeholder [] h = refl
lines_read placeholder (item ∷ items) h = rw (h.0.read, lines_read placeholder items h.1) refl

lines_clean : (number : ℕ) (placeholder : List ℕ) (items : List Record) → AllByRecursion (IsPiped placeholder) items → first_fault_from number placeholder (map line_of items) ≡ None
lines_clean number placeholder [] h = refl
lines_clean number placeholder (item ∷ items) h = ap₂ (or_later_line number) (no_fault placeholder item h.0) (lines_clean (number + 1) placeholder items h.1)

-- ---- of a whole log

whole_fields : (options : LogOptions) (now : ℤ) (log lines : List (List ℕ)) (history : History) → (whole : IsWholeLog options now log lines history)
    → AllByRecursion FitsFields (onto [] whole.replayed.messages)
whole_fields options now log lines history whole =
    let fit = fit_front whole.replayed.front whole.replayed.rest
    (subst AllFitFields whole.replayed.parts (masked_pieces_fit options.mask [] whole.pieces (reads_fit whole.stream log whole.pieces whole.read))) in
    carried_fields whole.replayed.front [] whole.replayed.messages whole.replayed.carried fit tt

-- the lines are those of the commits that the log states with all its tables captured
whole_lines : (options : LogOptions) (now : ℤ) (log lines : List (List ℕ)) (history : History) → (whole : IsWholeLog options now log lines history)
    → lines ≡ lines_in options.identity whole.infos (commits_of whole.infos (onto [] whole.replayed.messages)) now
whole_lines options now log lines history whole =
    let ms = onto [] whole.replayed.messages in
    let state = kept_state options now ms lines (whole_fields options now log lines history whole) whole.kept (whole.replayed.clean, whole.replayed.commits) in
    state.commits
    ∙ ap (λ (infos : List TableInfo). lines_in options.identity infos (commits_of infos ms) now) (infos_one state.infos whole.infos (state.captured ∙ sym whole.tables))

told_whole : (options : LogOptions) (now : ℤ) (log lines : List (List ℕ)) (history : History) → (whole : IsWholeLog options now log lines history)
    → IsToldWhole history whole.infos options.identity (λ commit. now)
told_whole options now log lines history whole =
    let infos = whole.infos in
    let none = clear options (onto [] whole.replayed.messages) infos whole.kept whole.replayed.clean whole.tables (whole_fields options now log lines history whole) in
    record {
      fit = whole.fit;
      captured = whole.captured;
      moments = λ commit. whole.moment;
      lacks = histories_lack_placeholders options.identity infos (typed infos history) (fit_changes_are_wide infos no_rows (all_changes (typed infos history)) (whole.fit.fit infos whole.captured))
          (subst (λ (cs : List Commit). AllByRecursion (IsClear options.identity infos) cs) whole.stated none);
    }

pub last_rows_applied : LastRowsAreApplied
last_rows_applied options now log lines history whole =
    let infos = whole.infos in
    let placeholder = options.identity.placeholder in
    let commits = typed infos history in
    let items : List Record = flat_map (λ commit. envelopes options.identity infos commit now) commits in
    let piped : AllByRecursion (IsPiped placeholder) items =
    commits_piped options.identity infos now commits whole.names whole.moment (infos_in_range infos history whole.fit.ranges whole.captured) (typed_in_range infos history whole.fit.ranges) in
    let lines_are : lines ≡ map line_of items = whole_lines options now log lines history whole ∙ ap (λ (cs : List Commit). lines_in options.identity infos cs now) whole.stated in
    let back : lines_of (lines_text lines) ≡ map line_of items = ap (λ (ls : List (List ℕ)). lines_of (lines_text ls)) lines_are ∙ lines_back (map line_of items) (line_texts placeholder items piped) in
    let read : readings_of_lines (lines_of (lines_text lines)) ≡ map reading_of (map as_line items) = ap readings_of_lines back ∙ lines_read placeholder items piped in
    let told = told_whole options now log lines history whole in
    let held : (topic text : List ℕ) → consumer_of placeholder (readings_of_lines (lines_of (lines_text lines))) topic text ≡ held_of options.identity infos (λ commit. now) history topic text =
    λ topic text. ap (λ (rs : List Reading). consumer_of placeholder rs topic text) read in
    let rows = rows_stand placeholder (readings_of_lines (lines_of (lines_text lines))) in
    record {
      applied = (rows.0, (ap (λ (ls : List (List ℕ)). first_line_fault placeholder ls) back ∙ lines_clean 1 placeholder items piped, rows.1));
      held = λ topic text image is. subst (λ h. HoldsJsonTexts h image) (sym (held topic text)) (hold_images history infos options.identity (λ commit. now) told topic text image is);
      printed = λ rows is. source_rows history infos options.identity (λ commit. now) told rows (record { ordered = is.1.ordered; exact = λ topic key. is.1.exact topic key ∙ held topic key });
      stands = λ topic text. images_stand history infos options.identity (λ commit. now) told topic text;
    }
