-- Each window that is closed tells its progress once.
use Rattle.std.proofs.Common.{◌≡◌, ◌∙◌, ◌+◌, ℕ, ℤ, Bool, true, false, cond, Option, Some, None, List, [], ◌∷◌, ◌++◌, length, map, filter, refl, ap, arith, append_assoc, length-append}
use Rattle.std.specs.Prelude.{option_map, unwrap_or}
use Rattle.std.specs.List.{AllByRecursion}
use Rattle.std.proofs.lemmas.List.Elements.{filter-append}
use Rattle.dbl_record.specs.declared.record.Record.{Record}
use Rattle.dbl_record.specs.Acts.{is_progress}
use Rattle.dbl_record.specs.Cuts.{cut, joined}
use Rattle.dbl_model_table.specs.declared.identity.Identity.{Identity}
use Rattle.dbl_model_table.specs.declared.row.Key.{Key}
use Rattle.dbl_model_table.specs.declared.row.Row.{Row}
use Rattle.dbl_model_table.specs.declared.table.TableInfo.{TableInfo}
use Rattle.dbl_model_table.specs.declared.change.Commit.{Commit}
use Rattle.dbl_faithful.specs.ModelEvent.Events.{Event, events_of}
use Rattle.dbl_faithful.specs.ModelEvent.EventJson.{print, envelopes}
use Rattle.dbl_faithful.specs.ModelEvent.Snapshots.{read_records, progress_record, chunk_records}
use Rattle.dbl_faithful.specs.ModelEvent.SnapshotLists.{IsSnapshot}
use Rattle.dbl_faithful.proofs.ConsumeLawsTopics.{not_progress, is_progress_topic}
use Rattle.dbl_faithful.proofs.Items.{filter_none}
use Rattle.dbl_follow.specs.Window.Plans.{Chunk}
use Rattle.dbl_follow.specs.Followed.{Following}
use Rattle.dbl_follow.specs.Steps.{mark_of, closed_of, closing, records_of, records_by}
use Rattle.dbl_capture_model.specs.Reports.{chunks_in, ReportsWindowsOnce}
use Rattle.dbl_capture_model.proofs.Events.{joined_cut}

-- how many windows a commit closes: one or none
abbrev pub windows_in : Option Chunk → ℕ
windows_in None = 0
windows_in (Some chunk) = 1

chunks_append : (xs ys : List Record) → chunks_in (xs ++ ys) ≡ chunks_in xs + chunks_in ys
chunks_append xs ys =
    ap length (filter-append (λ (item : Record). is_progress item.topic) xs ys)
    ∙ length-append (filter (λ (item : Record). is_progress item.topic) xs) (filter (λ (item : Record). is_progress item.topic) ys)

no_chunks : (records : List Record) → AllByRecursion (λ item. is_progress item.topic ≡ false) records → chunks_in records ≡ 0
no_chunks records all = ap length (filter_none (λ (item : Record). is_progress item.topic) records all)

one_chunk : (item : Record) → is_progress item.topic ≡ true → chunks_in (item ∷ []) ≡ 1
one_chunk item is = ap (λ (b : Bool). length (cond b (item ∷ []) [])) is

module _ (identity : Identity) (commit : Commit) (now : ℤ) where
  -- no event is progress
  events_tell_none : (es : List Event) → AllByRecursion (λ item. is_progress item.topic ≡ false) (map (print identity commit now) es)
  events_tell_none [] = tt
  events_tell_none (e ∷ es) = (not_progress identity e.notice.info, events_tell_none es)

  -- nor a row that was read
  rows_tell_none : (info : TableInfo) (ordinal : ℕ) (rows : List (Key × Row)) → AllByRecursion (λ item. is_progress item.topic ≡ false) (read_records identity info commit now ordinal rows)
  rows_tell_none info ordinal [] = tt
  rows_tell_none info ordinal (row ∷ rows) = (not_progress identity info, rows_tell_none info (ordinal + 1) rows)

  sum_one : (a b : ℕ) → a ≡ 0 → b ≡ 1 → a + b ≡ 1
  sum_one a b none one = omega (arith, none, one)

  window_tells_one : (info : TableInfo) (rows : List (Key × Row)) (through : Option Key) (done : Bool) → chunks_in (chunk_records identity info rows through done commit now) ≡ 1
  window_tells_one info rows through done =
      chunks_append (read_records identity info commit now 0 rows) (progress_record identity info commit (length rows) through done ∷ [])
      ∙ sum_one (chunks_in (read_records identity info commit now 0 rows)) (chunks_in (progress_record identity info commit (length rows) through done ∷ []))
      (no_chunks (read_records identity info commit now 0 rows) (rows_tell_none info 0 rows))
      (one_chunk (progress_record identity info commit (length rows) through done) (is_progress_topic identity))

-- the records of a commit tell as many windows as it closes
pub told_by : (f : Following) (commit : Commit) (now : ℤ)
    → ((chunk : Chunk) → closing f.window (mark_of commit) ≡ Some chunk → IsSnapshot f.identity f.infos (closed_of chunk) commit now (records_by f commit now))
    → chunks_in (records_by f commit now) ≡ windows_in (closing f.window (mark_of commit))
told_by f commit now listed = by (closing f.window (mark_of commit)) refl
  where
    by : (o : Option Chunk) → closing f.window (mark_of commit) ≡ o → chunks_in (records_of f o commit now) ≡ windows_in o
    by None is = no_chunks (envelopes f.identity f.infos commit now) (events_tell_none f.identity commit now (events_of f.infos commit))
    by (Some chunk) is =
        let list = listed chunk is in
        ap (λ (o : Option TableInfo). chunks_in (unwrap_or (option_map (λ i. chunk_records f.identity i chunk.rows chunk.through chunk.done commit now) o) [])) list.captured
        ∙ window_tells_one f.identity commit now list.info chunk.rows chunk.through chunk.done

sums : (next closed w a b c : ℕ) → next ≡ closed + w → closed ≡ a → b ≡ w → c ≡ a + b → next ≡ c
sums next closed w a b c one two three four = omega (arith, one, two, three, four)

-- so the windows that are closed are told on
pub told_on : (old groups : List (List Record)) (closed next : ℕ) (records : List Record) (o : Option Chunk) → chunks_in records ≡ windows_in o → next ≡ closed + windows_in o
    → ReportsWindowsOnce closed old groups → ReportsWindowsOnce next old (groups ++ cut records)
told_on old groups closed next records o many more told = record {
  more = told.more ++ cut records;
  gained = ap (λ (l : List (List Record)). l ++ cut records) told.gained ∙ append_assoc old told.more (cut records);
  each = sums next closed (windows_in o) (chunks_in (joined told.more)) (chunks_in records) (chunks_in (joined (told.more ++ cut records))) more told.each many
      (ap chunks_in (joined_cut told.more records) ∙ chunks_append (joined told.more) records);
}
