-- The calls of a played source, by its states before and after.
use Rattle.std.proofs.Common.{◌≡◌, ◌∙◌, ◌+◌, ◌<◌, ◌≤◌, ℕ, Bool, true, false, Option, Some, None, List, [], ◌∷◌, ◌++◌, length, map, max, refl, sym, ap, subst, arith, length-append}
use Rattle.std.specs.Prelude.{IsTrue, Result, Ok, Err, OnErr, unwrap_or, nat_lt, if◌then◌else◌, option_map}
use Rattle.std.proofs.lemmas.List.{length-map}
use Rattle.std.proofs.lemmas.Bool.Decides.{nat_tests}
use Rattle.dbl_base.specs.declared.lsn.Lsn.{Lsn}
use Rattle.dbl_pgmsg.specs.declared.messages.Message.{Message}
use Rattle.dbl_model_table.specs.declared.row.Key.{Key}
use Rattle.dbl_model_table.specs.declared.table.TableName.{TableName}
use Rattle.dbl_model_table.specs.declared.table.RawTable.{RawTable}
use Rattle.dbl_source_model.specs.ModelHistory.History.{History, entry_of}
use Rattle.dbl_source_model.specs.declared.started.Started.{Started}
use Rattle.dbl_source_model.specs.declared.started.Started.TheVariants.{Ready, Gone}
use Rattle.dbl_source_model.specs.Standings.{Reading, SourceState, CrashState, HasState}
use Rattle.dbl_source_model.specs.Selected.{Selects}
use Rattle.dbl_source_model.specs.Answered.{IsDescribed, IsSelectAnswer}
use Rattle.dbl_source_model.specs.Calls.{Moved, IsMarked, IsHead, Starts, HasReadOneMore, HasReadAll, IsConfirmed}
use Rattle.dbl_source_model.specs.Leaves.{MayFollow, MayFollowMark, MayFollowConfirm}
use Rattle.dbl_source_model.proofs.GrowthLemmas.{grown_length}
use Rattle.dbl_source_model.proofs.CallLemmas.{moved_follows, marked_follows, moved_on, marked_on, confirmed_follows}
use Rattle.dbl_source_log.specs.declared.logged.LogTable.{LogTable}
use Rattle.dbl_source_log.specs.declared.logged.Logged.{Logged}
use Rattle.dbl_source_log.specs.declared.logged.Logged.TheVariants.{Changes}
use Rattle.dbl_source_log.specs.declared.reader_position.ReaderPosition.{ReaderPosition}
use Rattle.dbl_source_log.specs.Numbers.{lsn_of}
use Rattle.dbl_source_log.specs.Sent.{index_of, told_at, IsPlaceIn}
use Rattle.dbl_source_log.specs.Histories.{history_of}
use Rattle.dbl_pgmsg.specs.Grammar.{spelling}
use Rattle.dbl_source_log.proofs.LogLemmas.{length-history}
use Rattle.dbl_source_log.proofs.SentLemmas.{told_at-grown}
use Rattle.dbl_source_scripted.specs.declared.asked.Asked.{Asked}
use Rattle.dbl_source_scripted.specs.declared.asked.Last.{Last}
use Rattle.dbl_source_scripted.specs.declared.asked.Last.TheVariants as answers
use Rattle.dbl_source_scripted.specs.Played.{Played, tables_now, played_messages, standing_of, with_answer, with_mark, with_confirmed, started_at, place_of, with_start, with_head, next_selected, question_of, with_select}
use Rattle.dbl_source.specs.LogStates.{reading_at, log_state}
use Rattle.dbl_source_scripted.specs.Steps.{KeepsPlayed, HasPlayedState, MayLeavePlayed, WasFair}
use Rattle.dbl_source.proofs.LogStates.{placed_on}
use Rattle.dbl_source_scripted.proofs.PlayLemmas.{selects_right, fair_same}
use Rattle.dbl_source_scripted.proofs.AlterLemmas.{AreOtherEntries, changes_are_others}
use Rattle.dbl_source.proofs.LogStates.{IsAtPlace, moved, marked_at, gone_after, begun_after, read_all, is_entry, is_head}

-- other clients committed, and what a reader, a confirm and a select have made of the source is as it was
pub record WentOn (old new : Played) : Type 0 where
  pub more : List Logged
  pub others : AreOtherEntries more
  pub log : new.log ≡ old.log ++ more
  pub tables : new.tables ≡ old.tables
  pub rows : new.rows ≡ old.rows
  pub asked : new.asked ≡ old.asked
  pub confirmed : new.confirmed ≡ old.confirmed
  pub place : new.place ≡ old.place
  pub last : new.last ≡ old.last
  pub ended : new.ended ≡ old.ended

-- so it represents its old parts over the longer log
pub standing_went : (old new : Played) (w : WentOn old new) → standing_of new ≡ log_state old.tables (old.log ++ w.more) old.confirmed old.place
standing_went old new w =
    ap (λ (ts : List LogTable). log_state ts new.log new.confirmed new.place) w.tables
    ∙ ap (λ (l : List Logged). log_state old.tables l new.confirmed new.place) w.log
    ∙ ap (λ (c : Lsn). log_state old.tables (old.log ++ w.more) c new.place) w.confirmed
    ∙ ap (log_state old.tables (old.log ++ w.more) old.confirmed) w.place

pub went_moved : (old new : Played) (s : SourceState) → WentOn old new → KeepsPlayed old → HasPlayedState old s → Moved s (standing_of new)
went_moved old new s w kept stands =
    subst (λ (u : SourceState). Moved u (standing_of new)) (sym stands.1)
    (subst (Moved (standing_of old)) (sym (standing_went old new w)) (moved old.tables old.log old.confirmed w.more old.place w.others kept.placed))

-- for every answer, a crash leaves what other clients committed
pub went_follows : (old new : Played) (s : SourceState) (l : CrashState) → WentOn old new → KeepsPlayed old → HasPlayedState old s → MayLeavePlayed new l → MayFollow s l
went_follows old new s l w kept stands may = moved_follows s (standing_of new) l may (went_moved old new s w kept stands)

pub went_fair : (old new : Played) → WentOn old new → KeepsPlayed old → WasFair new → WasFair old
went_fair old new w kept fair = fair_same old.tables new.tables old.log w.more new.log old.asked new.asked old.rows new.rows w.tables w.log w.asked w.rows kept.before fair

-- what was read is what it was
pub messages_stay : (tables : List LogTable) (log more : List Logged) (place : Option ReaderPosition) → ((p : ReaderPosition) → place ≡ Some p → IsPlaceIn log p) → unwrap_or (option_map (told_at tables (log ++ more)) place) [] ≡ unwrap_or (option_map (told_at tables log) place) []
messages_stay tables log more None placed = refl
messages_stay tables log more (Some p) placed = told_at-grown tables log more p (placed p refl)

pub went_read : (old new : Played) → WentOn old new → KeepsPlayed old → map spelling (played_messages new) ≡ map spelling (played_messages old)
went_read old new w kept =
    ap (map spelling)
    (ap (λ (ts : List LogTable). unwrap_or (option_map (told_at ts new.log) new.place) []) w.tables
    ∙ ap (λ (l : List Logged). unwrap_or (option_map (told_at old.tables l) new.place) []) w.log
    ∙ ap (λ (p : Option ReaderPosition). unwrap_or (option_map (told_at old.tables (old.log ++ w.more)) p) []) w.place
    ∙ messages_stay old.tables old.log w.more old.place kept.placed)

-- what holds at any rate holds after an error
pub on_err : {T E P : Type 0} (r : Result T E) → P → OnErr r P
on_err (Ok x) holds = tt
on_err (Err e) holds = holds

-- ---- what each call leads to

-- a source that can be used represents what its parts say
pub stood : (new : Played) (P : SourceState → Type 0) → IsTrue new.live → P (standing_of new) → HasState HasPlayedState new P
stood new P live holds = record { standing = standing_of new; is = (live, refl); holds = holds }

pub went_placed : (old mid : Played) → WentOn old mid → KeepsPlayed old → IsAtPlace mid.log mid.place
went_placed old mid w kept p is =
    subst (λ (l : List Logged). IsPlaceIn l p) (sym w.log) (placed_on old.log w.more p (kept.placed p (sym w.place ∙ is)))

-- the history that the source represented is no longer than the log after the call
went_length : (mid : Played) (s : SourceState) → Moved s (standing_of mid) → length s.history.commits ≤ length mid.log
went_length mid s m = omega (arith, grown_length s.history (history_of mid.tables mid.log) m.grows, length-history mid.tables mid.log)

module _ (old mid : Played) (s : SourceState) (w : WentOn old mid) (kept : KeepsPlayed old) (stands : HasPlayedState old s) where
  abbrev before : Moved s (standing_of mid)
  before = went_moved old mid s w kept stands

  pub head_leads : HasState HasPlayedState (with_head mid) (λ t. Moved s t × IsHead (lsn_of (length mid.log)) s t)
  head_leads = stood (with_head mid) (λ t. Moved s t × IsHead (lsn_of (length mid.log)) s t) refl (before, is_head mid.tables mid.log mid.confirmed s mid.place before.grows (went_length mid s before))

  -- the catalogue is that at the log's end
  pub describe_leads : (what : Last) (name : TableName) (entry : Option RawTable) → entry ≡ entry_of (history_of (tables_now mid) []) name → HasState HasPlayedState (with_answer what mid) (IsDescribed name entry s)
  describe_leads what name entry is =
      stood (with_answer what mid) (IsDescribed name entry s) refl (before, is_entry mid.tables mid.log mid.confirmed s name entry before.grows is)

  pub confirm_leads : (upto : Lsn) → HasState HasPlayedState (with_confirmed upto mid) (IsConfirmed upto s)
  confirm_leads upto = stood (with_confirmed upto mid) (IsConfirmed upto s) refl (record {
    grows = before.grows;
    confirmed = ap (λ (c : Lsn). max c.0 upto.0) before.confirmed;
    reading = before.reading;
  })

  pub confirm_follows : (upto : Lsn) (l : CrashState) → MayLeavePlayed (with_confirmed upto mid) l → MayFollowConfirm upto s l
  confirm_follows upto l may = confirmed_follows s (standing_of (with_confirmed upto mid)) l may upto (record {
    grows = before.grows;
    confirmed = ap (λ (c : Lsn). max c.0 upto.0) before.confirmed;
    reading = before.reading;
  })

  pub mark_leads : (value : List ℕ) → HasState HasPlayedState (with_mark value mid) (IsMarked value s)
  mark_leads value = stood (with_mark value mid) (IsMarked value s) refl
      (marked_on value s (standing_of mid) (standing_of (with_mark value mid)) before (marked_at mid.tables mid.log mid.confirmed value mid.place (went_placed old mid w kept)))

  pub mark_follows : (value : List ℕ) (l : CrashState) → MayLeavePlayed (with_mark value mid) l → MayFollowMark value s l
  mark_follows value l may =
      marked_follows s (standing_of (with_mark value mid)) l may value
      (marked_on value s (standing_of mid) (standing_of (with_mark value mid)) before (marked_at mid.tables mid.log mid.confirmed value mid.place (went_placed old mid w kept)))

  pub start_leads : (after : Lsn) → HasState HasPlayedState (with_start after mid) (Starts after (started_at after mid) s)
  start_leads after = by (nat_lt after.0 mid.confirmed.0) refl
    where
      at : Bool → Started
      at b = if b then Gone mid.confirmed else Ready

      by : (b : Bool) → nat_lt after.0 mid.confirmed.0 ≡ b → HasState HasPlayedState (with_answer (answers.Began (at b)) (record mid { place = place_of after (at b); ended = false })) (Starts after (at b) s)
      by true low =
          let lt : after.0 < mid.confirmed.0 = grind (arith, nat_tests) in
          let gone = gone_after mid.tables mid.log mid.confirmed after mid.place lt in
          record {
            standing = log_state mid.tables mid.log mid.confirmed None;
            is = (refl, refl);
            holds = record { grows = before.grows; confirmed = before.confirmed; reading = refl; later = lt; dropped = omega (arith, ap (λ (c : Lsn). c.0) before.confirmed) };
          }
      by false high =
          let begun = begun_after mid.tables mid.log mid.confirmed after mid.place in
          record {
            standing = log_state mid.tables mid.log mid.confirmed (place_of after Ready);
            is = (refl, refl);
            holds = record { grows = before.grows; confirmed = before.confirmed; reading = begun.reading };
          }

  -- one message more, where the reader came from `place` to `next`
  pub read_leads : (what : Last) (place next : ReaderPosition) (message : Message) → mid.place ≡ Some place → next.after ≡ place.after → told_at mid.tables mid.log next ≡ message ∷ told_at mid.tables mid.log place
      → HasState HasPlayedState (with_answer what (record mid { place = Some next })) (HasReadOneMore message s)
  read_leads what place next message at same told =
      record {
        standing = log_state mid.tables mid.log mid.confirmed (Some next);
        is = (refl, refl);
        holds = record {
          grows = before.grows;
          confirmed = before.confirmed;
          before = reading_at mid.tables mid.log place;
          was = sym before.reading ∙ ap (option_map (reading_at mid.tables mid.log)) at;
          is =
              ap (λ (a : Lsn). let r : Reading = record { after = a; messages = told_at mid.tables mid.log next } in Some r) same
              ∙ ap (λ (ms : List Message). let r : Reading = record { after = place.after; messages = ms } in Some r) told;
        };
      }

  -- none, at the end of the log
  pub none_leads : (what : Last) (place : ReaderPosition) → mid.place ≡ Some place → length mid.log ≤ index_of place → HasState HasPlayedState (with_answer what mid) (λ t. Moved s t × (WasFair mid → HasReadAll s t))
  none_leads what place at ends =
      let end : SourceState = log_state mid.tables mid.log mid.confirmed (Some place) in
      let same : end ≡ standing_of mid = ap (log_state mid.tables mid.log mid.confirmed) (sym at) in
      stood (with_answer what mid) (λ t. Moved s t × (WasFair mid → HasReadAll s t)) refl
      (before, λ fair. subst (HasReadAll s) same (read_all mid.tables mid.log mid.confirmed s place before.grows fair.changes (went_placed old mid w kept place at) ends))

  -- rows, and commits inside
  pub select_leads : (table : TableName) (above : Option Key) (limit : ℕ) (inside : List (List Message)) → HasState HasPlayedState (with_select table above limit (length old.log) inside mid)
      (IsSelectAnswer (WasFair (with_select table above limit (length old.log) inside mid)) table above limit (next_selected mid) s)
  select_leads table above limit inside =
      let new : Played = with_select table above limit (length old.log) inside mid in
      let more = moved mid.tables mid.log mid.confirmed (map Changes inside) mid.place (changes_are_others inside) (went_placed old mid w kept) in
      let question : Asked = question_of table above limit (length old.log) (length mid.log + length inside) in
      let log_is : length (mid.log ++ map Changes inside) ≡ length mid.log + length inside = omega (arith, length-append mid.log (map Changes inside), length-map inside Changes) in
      stood new (IsSelectAnswer (WasFair new) table above limit (next_selected mid) s) refl (
        moved_on s (standing_of mid) (standing_of new) before more,
        λ fair. (
            let rows = selects_right mid.tables old.log (mid.log ++ map Changes inside) mid.asked question mid.rows refl (sym log_is) fair in
            let was : history_of mid.tables old.log ≡ s.history = ap (λ (ts : List LogTable). history_of ts old.log) w.tables ∙ sym (ap (λ (t : SourceState). t.history) stands.1) in
            subst (λ (h : History). Selects table above limit h (history_of mid.tables (mid.log ++ map Changes inside)) (next_selected mid)) was rows),
      )

  pub select_follows : (table : TableName) (above : Option Key) (limit : ℕ) (inside : List (List Message)) (l : CrashState) → MayLeavePlayed (with_select table above limit (length old.log) inside mid) l → MayFollow s l
  select_follows table above limit inside l may =
      let new : Played = with_select table above limit (length old.log) inside mid in
      moved_follows s (standing_of new) l may (moved_on s (standing_of mid) (standing_of new) before (moved mid.tables mid.log mid.confirmed (map Changes inside) mid.place (changes_are_others inside) (went_placed old mid w kept)))

-- ---- where the source after the call is told by an equation

pub stood_to : (new after : Played) (P : SourceState → Type 0) → new ≡ after → HasState HasPlayedState after P → HasState HasPlayedState new P
stood_to new after P is stood = subst (λ (n : Played). HasState HasPlayedState n P) (sym is) stood
