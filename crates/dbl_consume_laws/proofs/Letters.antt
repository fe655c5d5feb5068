-- The letters of records.
use Rattle.std.proofs.Common.{◌≡◌, ◌+◌, ℕ, ℤ, List, [], ◌∷◌, Option, Some, map, flat_map, refl, ap, arith, codes}
use Rattle.std.specs.Prelude.{option_map, option_and_then}
use Rattle.std.specs.List.{AllByRecursion}
use Rattle.serde_json.specs.Data.{Data, null}
use Rattle.serde_json.specs.Find.{get, as_str}
use Rattle.serde_json.specs.Written.{compact_text}
use Rattle.dbl_record.specs.Acts.{json_in}
use Rattle.dbl_record.proofs.Back.{read-compact_text}
use Rattle.dbl_model_table.specs.declared.identity.Identity.{Identity}
use Rattle.dbl_model_table.specs.declared.table.TableInfo.{TableInfo}
use Rattle.dbl_model_table.specs.declared.change.Commit.{Commit}
use Rattle.dbl_model_table.specs.Rows.{changes_of}
use Rattle.dbl_model_history.specs.Ranges.{IsCommitInRange, IsMomentInRange}
use Rattle.dbl_model_event.specs.Events.{Content, Created, Updated, Deleted, Tombstone, Truncated, Notice, notices, numbered}
use Rattle.dbl_model_event.specs.EventJson.{row_data, old_data, sent, source_data, event_data, content_data, print}
use Rattle.dbl_consume_laws.specs.Letters.{letter_of, content_letter, EventsHaveLetters, ReadRowsHaveTheirLetter}
use Rattle.dbl_consume_laws.proofs.Wholes.{event_whole, event_shallow, all_fit_in_range}
use Rattle.dbl_consume_laws.proofs.Notices.{ContentFits, NoticeFits, commit_tells}
use Rattle.dbl_consume_laws.proofs.Lines.{sent_fit, IsPart, row_part, old_part, null_part}

-- the letter in a value
abbrev pub letter_in : List ℕ → Option (List ℕ)
letter_in value = option_and_then (λ d. option_and_then as_str (get (codes "op") d)) (json_in value)

module _ (identity : Identity) (commit : Commit) (now : ℤ) (range : IsCommitInRange commit) (moment : IsMomentInRange now) where
  pub event_letter : (snapshot : List ℕ) (info : TableInfo) (before after : Data) (op : List ℕ) → IsPart before → IsPart after → letter_in (compact_text (event_data (source_data identity info.name commit snapshot) now before op after)) ≡ Some op
  unfolding json_in event_data
  event_letter snapshot info before after op b a =
      let value = event_data (source_data identity info.name commit snapshot) now before op after in
      ap (option_and_then (λ d. option_and_then as_str (get (codes "op") d)))
      (read-compact_text value (event_whole snapshot identity info.name commit now before after op range moment b.whole a.whole) (omega (arith, event_shallow snapshot identity info.name commit now before after op b.shallow a.shallow)))

  -- of a value that an event has, or of none
  content_letter_is : (info : TableInfo) (content : Content) → ContentFits content → option_and_then letter_in (option_map compact_text (content_data identity info (event_data (source_data identity info.name commit (codes "false")) now) content)) ≡ content_letter content
  content_letter_is info (Created row) fits = event_letter (codes "false") info null (row_data info row.cells) (codes "c") null_part (row_part info row.cells fits)
  content_letter_is info (Updated old cells) fits = event_letter (codes "false") info (old_data info old) (row_data info (map (sent identity.placeholder) cells)) (codes "u") (old_part info old fits.0) (row_part info (map (sent identity.placeholder) cells) (sent_fit identity.placeholder cells fits.1))
  content_letter_is info (Deleted old) fits = event_letter (codes "false") info (old_data info old) null (codes "d") (old_part info old fits) null_part
  content_letter_is info Tombstone fits = refl
  content_letter_is info Truncated fits = event_letter (codes "false") info null null (codes "t") null_part null_part

  numbered_letters : (position ordinal : ℕ) (ns : List Notice) → AllByRecursion NoticeFits ns → AllByRecursion (λ e. letter_of (print identity commit now e) ≡ content_letter e.notice.content) (numbered position ordinal ns)
  unfolding letter_of
  numbered_letters position ordinal [] fits = tt
  numbered_letters position ordinal (n ∷ ns) fits = (content_letter_is n.info n.content fits.0.content, numbered_letters position (ordinal + 1) ns fits.1)

pub events_have_letters : EventsHaveLetters
events_have_letters identity infos commit now range moment = numbered_letters identity commit now range moment commit.lsn.0 0 (flat_map (notices infos) (changes_of commit)) (commit_tells infos commit range).fit

pub read_rows_have_their_letter : ReadRowsHaveTheirLetter
unfolding letter_of
read_rows_have_their_letter identity info commit now ordinal entry range =
    event_letter identity commit now range.commit_fits range.moment_fits (codes "incremental") info null (row_data info entry.1.cells) (codes "r") null_part (row_part info entry.1.cells (all_fit_in_range entry.1.cells range.row_fits))
