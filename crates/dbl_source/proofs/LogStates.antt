-- The state of a source that is read from a log, as the log grows.
use Rattle.std.proofs.Common.{◌≡◌, ◌∙◌, ◌+◌, ◌<◌, ◌≤◌, ℕ, Option, Some, None, List, [], ◌∷◌, ◌++◌, length, take, drop, reverse, refl, sym, ap, subst, arith, append_assoc, length-append, length-drop}
use Rattle.std.specs.Prelude.{false, nat_lt, option_map, slice_get}
use Rattle.std.specs.List.{AllByRecursion}
use Rattle.std.proofs.lemmas.List.{append-nil, take_all, get_or_at, reverse-append, length-reverse}
use Rattle.std.proofs.lemmas.List.Elements.{filter-append}
use Rattle.std.proofs.lemmas.Option.{slice_get_past, slice_get-get_or}
use Rattle.dbl_base.specs.declared.lsn.Lsn.{Lsn}
use Rattle.dbl_pgmsg.specs.declared.messages.Message.{Message}
use Rattle.dbl_model_table.specs.declared.table.RawTable.{RawTable}
use Rattle.dbl_model_table.specs.declared.table.TableName.{TableName}
use Rattle.dbl_source_model.specs.ModelHistory.History.{RawCommit, History, entry_of}
use Rattle.dbl_source_model.specs.ModelHistory.InForce.{entry_at}
use Rattle.dbl_source_model.specs.Standings.{Reading, SourceState}
use Rattle.dbl_source_model.specs.Growth.{Grows}
use Rattle.dbl_source_model.specs.Answered.{IsEntryBetween}
use Rattle.dbl_source_model.specs.Calls.{Moved, IsMarked, head_after, head_of, IsHead, IsBegun, IsGone, HasReadAll}
use Rattle.dbl_source_model.proofs.GrowthLemmas.{grown_length}
use Rattle.dbl_source_model.proofs.ShapedLemmas.{shaped_counts}
use Rattle.dbl_source_log.specs.declared.logged.LogTable.{LogTable}
use Rattle.dbl_source_log.specs.declared.logged.Logged.{Logged}
use Rattle.dbl_source_log.specs.declared.logged.Logged.TheVariants.{Mark}
use Rattle.dbl_source_log.specs.declared.reader_position.ReaderPosition.{ReaderPosition}
use Rattle.dbl_source_log.specs.Numbers.{lsn_of, commits_upto}
use Rattle.dbl_source_log.specs.TextRows.{TextRows, no_text_rows}
use Rattle.dbl_source_model.specs.ModelCommit.Shaped.{shaped_commits}
use Rattle.dbl_source_model.specs.Stated.{commits_after}
use Rattle.dbl_source_log.specs.Fair.{IsFairLog}
use Rattle.dbl_source_log.specs.Sent.{told_from, sent_after, index_of, told_at, IsPlaceIn}
use Rattle.dbl_source_log.specs.Alterations.{IsOthers, tables_after, tables_through}
use Rattle.dbl_source_log.specs.Histories.{text_rows_at, commits_from, history_of}
use Rattle.dbl_source_log.proofs.LogLemmas.{entry_of_tables, is_rising, length-history, log_marks, others_grow}
use Rattle.dbl_source_log.proofs.SentLemmas.{told_at-grown, none_left, reads_what_is_sent}
use Rattle.dbl_source_log.proofs.ReaderLemmas.{reads_all}
use Rattle.dbl_source_log.proofs.PlaceLemmas.{told_waiting}
use Rattle.dbl_source.specs.LogStates.{reading_at, log_state}

-- the reader, where there is one, is at a place of the log
abbrev pub IsAtPlace : List Logged → Option ReaderPosition → Type 0
IsAtPlace log place = (p : ReaderPosition) → place ≡ Some p → IsPlaceIn log p

-- the last commit of a log has the LSN of its number
head_from : (tables : List LogTable) (rows : TextRows) (k : ℕ) (entries : List Logged) → head_after (lsn_of k) (commits_from tables rows (k + 1) entries) ≡ lsn_of (k + length entries)
head_from tables rows k [] = let same : k ≡ k + length {A = Logged} [] = omega arith in ap lsn_of same
head_from tables rows k (entry ∷ entries) =
    let same : (k + 1) + length entries ≡ k + length (entry ∷ entries) = omega arith in
    head_from (tables_after entry tables) (text_rows_at tables rows entry) (k + 1) entries ∙ ap lsn_of same

module _ (tables : List LogTable) (log : List Logged) (confirmed : Lsn) where
  pub reading_stays : (more : List Logged) (place : Option ReaderPosition) → IsAtPlace log place → option_map (reading_at tables (log ++ more)) place ≡ option_map (reading_at tables log) place
  reading_stays more None at = refl
  reading_stays more (Some p) at = ap (λ (ms : List Message). let r : Reading = record { after = p.after; messages = ms } in Some r) (told_at-grown tables log more p (at p refl))

  -- other clients committed
  pub moved : (more : List Logged) (place : Option ReaderPosition) → AllByRecursion IsOthers more → IsAtPlace log place → Moved (log_state tables log confirmed place) (log_state tables (log ++ more) confirmed place)
  moved more place others at = record { grows = others_grow tables log more others; confirmed = refl; reading = reading_stays more place at }

  -- a watermark was written
  pub marked_at : (value : List ℕ) (place : Option ReaderPosition) → IsAtPlace log place → IsMarked value (log_state tables log confirmed place) (log_state tables (log ++ Mark value ∷ []) confirmed place)
  marked_at value place at = record { marks = log_marks tables value log; confirmed = refl; reading = reading_stays (Mark value ∷ []) place at }

  -- nothing was committed
  pub grows_not : Grows (history_of tables log) (history_of tables log)
  grows_not = record { tables = refl; others = []; commits = sym (append-nil (history_of tables log).commits); are_others = tt; rising = is_rising tables log }

  pub begun_after : (after : Lsn) (place : Option ReaderPosition) → IsBegun after (log_state tables log confirmed place) (log_state tables log confirmed (Some (record { after = after; commits = 0; begun = false; change = 0; table = 0 })))
  begun_after after place =
      let p : ReaderPosition = record { after = after; commits = 0; begun = false; change = 0; table = 0 } in
      record { grows = grows_not; confirmed = refl; reading = ap (λ (ms : List Message). let r : Reading = record { after = after; messages = ms } in Some r) (told_waiting tables log p refl) }

  pub gone_after : (after : Lsn) (place : Option ReaderPosition) → after.0 < confirmed.0 → IsGone after confirmed (log_state tables log confirmed place) (log_state tables log confirmed None)
  gone_after after place lt = record { grows = grows_not; confirmed = refl; reading = refl; later = lt; dropped = omega arith }

  -- ---- all was read

  fewer : (after : Lsn) (old : History) → Grows old (history_of tables log) → length (commits_after after old.commits) ≤ length (commits_after after (history_of tables log).commits)
  fewer after old g =
      omega (
        arith,
        ap (λ (cs : List RawCommit). length (commits_after after cs)) g.commits,
        ap length (filter-append (λ (c : RawCommit). nat_lt after.0 c.lsn.0) old.commits g.others),
        length-append (commits_after after old.commits) (commits_after after g.others),
      )

  -- a reader at the end of a fair log has read all that stood when the log was shorter
  pub read_all : (s : SourceState) (place : ReaderPosition) → Grows s.history (history_of tables log) → IsFairLog tables log → IsPlaceIn log place → length log ≤ index_of place → HasReadAll s (log_state tables log confirmed (Some place))
  read_all s place grows fair placed ends = record {
    each = λ reading is infos were readable. (
        let same : reading_at tables log place ≡ reading = cc in
        subst (λ (r : Reading). length (commits_after r.after s.history.commits) ≤ length (shaped_commits infos r.messages)) same
        (omega (arith, fewer place.after s.history grows, reads_all tables log place infos fair placed ends, shaped_counts infos (told_at tables log place))));
  }

  -- what is read next is the next message of all that is sent
  pub next_sent : (place next : ReaderPosition) (m : Message) → next.after ≡ place.after → told_at tables log next ≡ m ∷ told_at tables log place → slice_get (sent_after tables place.after log) (length (told_at tables log place)) ≡ Some m
  next_sent place next m same told =
      let past : List Message = told_at tables log place in
      let sent = reads_what_is_sent tables log next in
      let all_is : sent_after tables place.after log ≡ reverse (m ∷ past) ++ sent.0 =
      ap (λ (a : Lsn). sent_after tables a log) (sym same) ∙ sent.1 ∙ ap (λ (ms : List Message). reverse ms ++ sent.0) told in
      ap (λ (ms : List Message). slice_get ms (length past)) all_is ∙ there past m sent.0
    where
      there : (past : List Message) (m : Message) (rest : List Message) → slice_get (reverse (m ∷ past) ++ rest) (length past) ≡ Some m
      there past m rest =
          let parts : reverse (m ∷ past) ++ rest ≡ reverse past ++ (m ∷ rest) = ap (λ (l : List Message). l ++ rest) (reverse-append (m ∷ []) past) ∙ append_assoc (reverse past) (m ∷ []) rest in
          ap (λ (l : List Message). slice_get l (length past)) parts
          ∙ slice_get-get_or (reverse past ++ (m ∷ rest)) (length past) m (omega (arith, length-append (reverse past) (m ∷ rest), length-reverse past))
          ∙ ap Some (get_or_at (reverse past) m rest m (length past) (length-reverse past))

  -- at the end of the log there is none
  pub none_next : (place : ReaderPosition) → length log ≤ index_of place → slice_get (sent_after tables place.after log) (length (told_at tables log place)) ≡ None
  none_next place ends =
      let first : ℕ = commits_upto place.after in
      let subsequent : List Logged = drop first log in
      let long : length subsequent ≤ place.commits = omega (arith, length-drop first log, ends) in
      let then : List LogTable = tables_through (take first log) tables in
      let told : told_at tables log place ≡ told_from then (first + 1) subsequent [] =
      none_left (tables_through (take (index_of place) log) tables) place log (told_from then (first + 1) (take place.commits subsequent) []) long
      ∙ ap (λ (l : List Logged). told_from then (first + 1) l []) (take_all place.commits subsequent long) in
      let same : length (sent_after tables place.after log) ≡ length (told_at tables log place) = length-reverse (told_from then (first + 1) subsequent []) ∙ sym (ap length told) in
      slice_get_past (sent_after tables place.after log) (length (told_at tables log place)) (omega (arith, same))

  -- ---- the catalogue

  entry_now : (name : TableName) → entry_at (history_of tables log) (length (history_of tables log).commits) name ≡ entry_of (history_of (tables_through log tables) []) name
  entry_now name =
      entry_of_tables tables log (length (history_of tables log).commits) name
      ∙ ap (λ (l : List Logged). entry_of (history_of (tables_through l tables) []) name) (take_all (length (history_of tables log).commits) log (omega (arith, length-history tables log)))

  -- the entry after the whole log, by the tables as they are then
  pub is_entry : (s : SourceState) (name : TableName) (entry : Option RawTable) → Grows s.history (history_of tables log) → entry ≡ entry_of (history_of (tables_through log tables) []) name
      → IsEntryBetween name entry s.history (history_of tables log)
  is_entry s name entry grows is = record {
    place = length (history_of tables log).commits;
    not_before = grown_length s.history (history_of tables log) grows;
    not_after = omega arith;
    is = is ∙ sym (entry_now name);
  }

  -- ---- the head

  pub head_is : head_of (history_of tables log).commits ≡ lsn_of (length log)
  head_is = let same : 0 + length log ≡ length log = omega arith in head_from tables no_text_rows 0 log ∙ ap lsn_of same

  pub is_head : (s : SourceState) (place : Option ReaderPosition) → Grows s.history (history_of tables log) → length s.history.commits ≤ length log → IsHead (lsn_of (length log)) s (log_state tables log confirmed place)
  is_head s place grows le = record {
    place = length (history_of tables log).commits;
    not_before = omega (arith, le, length-history tables log);
    not_after = omega arith;
    is = sym (ap head_of (take_all (length (history_of tables log).commits) (history_of tables log).commits (omega arith)) ∙ head_is);
  }

-- a place of a log is one of a longer log
pub placed_on : (log more : List Logged) (p : ReaderPosition) → IsPlaceIn log p → IsPlaceIn (log ++ more) p
placed_on log more p placed = record {
  few = omega (arith, placed.few, length-append log more);
  there = λ begun. omega (arith, placed.there begun, length-append log more);
}
