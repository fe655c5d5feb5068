-- What a session leaves before it reads.
use Rattle.std.proofs.Common.{◌≡◌, ◌∙◌, inl, ◌≤◌, ℕ, max, Option, Some, None, List, [], refl, sym, ap, subst, arith, append-nil, le_refl}
use Rattle.std.specs.List.{AllByRecursion}
use Rattle.dbl_base.specs.declared.lsn.Lsn.{Lsn}
use Rattle.dbl_record.specs.declared.record.Record.{Record}
use Rattle.dbl_record.specs.Cuts.{joined}
use Rattle.dbl_model_table.specs.declared.table.TableInfo.{TableInfo}
use Rattle.dbl_faithful.specs.ModelHistory.declared.cursor.Cursor.{Cursor}
use Rattle.dbl_faithful.specs.ModelHistory.History.{RawBody, RawCommit, History, IsRising}
use Rattle.dbl_faithful.specs.ModelHistory.History.RawBody.{Changes, Mark, Alter}
use Rattle.dbl_faithful.specs.ModelHistory.Fit.{AreInfosOf, IsFitHistory}
use Rattle.dbl_follow.specs.SourceModel.Growth.{HasChanges, AreOthers, Grows}
use Rattle.dbl_follow.specs.SourceModel.Standings.{CrashState}
use Rattle.dbl_follow.proofs.SourceModelGrowthLemmas.{grows_on}
use Rattle.dbl_faithful.specs.Offset.declared.offset.Offset.{Offset}
use Rattle.dbl_faithful.proofs.Items.{all_weaker, zip_length}
use Rattle.dbl_faithful.specs.Stores.{IsPositionOf, lag}
use Rattle.dbl_faithful.specs.Faithful.{IsFaithful, IsFaithfulTo}
use Rattle.dbl_faithful.specs.Lag.{IsUnread}
use Rattle.dbl_faithful.specs.Kept.{HasGrown, IsNewBody}
use Rattle.dbl_faithful.specs.Onward.{OffsetGoesOn}
use Rattle.dbl_faithful.proofs.Faithful.{faithful_records_stand, first_offsets_are_faithful}
use Rattle.dbl_faithful.proofs.Longer.{longer_histories_stay_faithful}
use Rattle.dbl_capture_model.proofs.LaterCursors.{cursors_stay, progress_on}
use Rattle.dbl_faithful.proofs.Onward.{infos_stay, versions_stay}
use Rattle.dbl_faithful.proofs.Offsets.{later_sessions_stay_faithful}
use Rattle.dbl_faithful.proofs.StorePositions.{empty_logs_have_no_lag}
use Rattle.dbl_capture_model.specs.Entries.{SessionStart}
use Rattle.dbl_capture_model.specs.Stages.{IsOfSession}
use Rattle.dbl_capture_model.specs.Going.{IsUnstarted, IsFirstOf}
use Rattle.dbl_capture_model.proofs.Growing.{unstarted_longer}
use Rattle.dbl_capture_model.specs.Exits.{UnreadSessionsFollow, FirstOffsetsFollow}
use Rattle.dbl_faithful.proofs.Lists.{longer, is_longer, after_top, still_position}
use Rattle.dbl_capture_model.proofs.Ending.{offset_goes, lag_far}

-- others' commits are new to each offset
others_new : (offset : Option Offset) (commits : List RawCommit) → AreOthers commits → AllByRecursion (λ commit. IsNewBody offset commit.body) commits
others_new offset commits others = all_weaker (λ (c : RawCommit). HasChanges c.body) (λ (c : RawCommit). IsNewBody offset c.body) commits (λ c has. by offset c.body has) others
  where
    by : (offset : Option Offset) (body : RawBody) → HasChanges body → IsNewBody offset body
    by None (Changes changes) has = tt
    by (Some o) (Changes changes) has = tt
    by None (Mark value) has = absurd has
    by (Some o) (Mark value) has = absurd has
    by None (Alter name columns rows) has = tt
    by (Some o) (Alter name columns rows) has = tt

zero_le : (n : ℕ) → 0 ≤ n
zero_le n = omega arith

none_le : (a b : ℕ) → a ≡ 0 → a ≤ b
none_le a b is = omega (arith, is)

same_le : (a b : ℕ) → a ≡ b → b ≤ a
same_le a b is = omega (arith, is)

module _ (entry : SessionStart) (left : CrashState) (fit : IsFitHistory entry.history) (fit_left : IsFitHistory left.history) (grows : Grows entry.history left.history) where
  abbrev grown : HasGrown entry.history left.history grows.others
  grown = record { tables = grows.tables; commits = grows.commits }

  -- the stores as they were, beside the history that is left
  still : (offset : Option Offset) → left.confirmed ≡ entry.confirmed → IsFaithful entry.history entry.confirmed (joined entry.groups) offset → IsFaithful left.history left.confirmed (joined entry.groups) offset
  still offset same is =
      subst (λ (c : Lsn). IsFaithful left.history c (joined entry.groups) offset) (sym same)
      (longer_histories_stay_faithful entry.history left.history grows.others entry.confirmed (joined entry.groups) offset fit fit_left grown (others_new offset grows.others grows.are_others) is)

  -- an offset that isn't before the one that was stored lags no more
  lag_still : (old offset : Offset) → old.lsn.0 ≤ offset.lsn.0 → IsFaithfulTo entry.history entry.confirmed (joined entry.groups) old
      → lag left.history (joined entry.groups) (Some offset) ≤ max entry.config.every (lag entry.history (joined entry.groups) (Some old))
  lag_still old offset le is =
      lag_far entry.history left.history grows.others (joined entry.groups) (joined entry.groups) old offset entry.config.every fit.rising grows.commits
      (after_top entry.history grows.others (subst IsRising (is_longer entry.history left.history grows.others grown) fit_left.rising) (joined entry.groups)
      (λ place item at. faithful_records_stand entry.history entry.confirmed (joined entry.groups) old place item is at)) refl le

  stays : (offset : Option Offset) → OffsetGoesOn entry.config entry.history left.history offset offset
  stays None = tt
  stays (Some offset) =
      record {
        identity = refl;
        infos = infos_stay offset.infos;
        versions = versions_stay offset.versions;
        start = refl;
        lsn = le_refl offset.lsn.0;
        cursors = progress_on offset.versions offset.cursors offset.cursors (cursors_stay offset.cursors);
        incarnation = inl refl;
      }

  lag_at : (offset : Option Offset) → IsFaithful entry.history entry.confirmed (joined entry.groups) offset → lag left.history (joined entry.groups) offset ≤ max entry.config.every (lag entry.history (joined entry.groups) offset)
  lag_at None is = zero_le (max entry.config.every 0)
  lag_at (Some offset) is = lag_still offset offset (le_refl offset.lsn.0) is

  lag_first : (first : Offset) (old : Option Offset) (history : History) → IsFirstOf entry history first old → IsFaithful entry.history entry.confirmed (joined entry.groups) old
      → lag left.history (joined entry.groups) (Some first) ≤ max entry.config.every (lag entry.history (joined entry.groups) old)
  lag_first first None history began is =
      none_le (lag left.history (joined entry.groups) (Some first)) (max entry.config.every 0)
      (ap (λ (l : List Record). lag left.history l (Some first)) is.empty ∙ empty_logs_have_no_lag left.history (Some first))
  lag_first first (Some old) history began is = lag_still old first (same_le first.lsn.0 old.lsn.0 (ap (λ (l : Lsn). l.0) began.0.lsn)) is

  -- the first offset, beside that history
  pub begun : (history : History) (first : Offset) (old : Option Offset) → Grows history left.history → AreInfosOf history first.infos → IsFirstOf entry history first old → left.confirmed ≡ entry.confirmed
      → IsFaithful entry.history entry.confirmed (joined entry.groups) old → IsFaithfulTo left.history left.confirmed (joined entry.groups) first
  begun history first None on infos began same is =
      let longer_is : left.history ≡ longer history on.others = is_longer history left.history on.others (record { tables = on.tables; commits = on.commits }) in
      let still_unread : IsUnstarted left.history first = subst (λ (h : History). IsUnstarted h first) (sym longer_is) (unstarted_longer history on.others first began.1) in
      first_offsets_are_faithful left.history left.confirmed (joined entry.groups) first fit_left (still None same is)
      still_unread.distinct still_unread.infos (sym (zip_length (λ (info : TableInfo) (cursor : Cursor). IsUnread cursor) first.infos first.cursors still_unread.unread))
      (subst (λ (h : History). IsPositionOf h first.start.0) (sym longer_is) (still_position history on.others first.start.0 began.0.start))
      (ap (λ (l : Lsn). l.0) still_unread.at_start) still_unread.unread
  begun history first (Some old) on infos began same is = (later_sessions_stay_faithful left.history left.confirmed (joined entry.groups) old first began.0).1 (still (Some old) same is)

pub unread_sessions_follow : UnreadSessionsFollow
unread_sessions_follow entry left faithful fit fit_left grows same = record {
  faithful = still entry left fit fit_left grows entry.offset same faithful;
  onward = record {
    tables = grows.tables;
    commits = record { more = grows.others; is = grows.commits };
    records = record { more = []; is = sym (append-nil (joined entry.groups)) };
    offset = stays entry left fit fit_left grows entry.offset;
  };
  no_fall = same_le left.confirmed.0 entry.confirmed.0 (ap (λ (l : Lsn). l.0) same);
  adds = record { more = []; is = sym (append-nil (joined entry.groups)); above = tt; rise = tt };
  grouped = sym (append-nil entry.groups);
  lag_is = lag_at entry left fit fit_left grows entry.offset faithful;
}

pub first_offsets_follow : FirstOffsetsFollow
first_offsets_follow entry history left first faithful fit fit_left grows on infos began same =
    let all : Grows entry.history left.history = grows_on entry.history history left.history grows on in
    let own : IsOfSession first first = record { identity = refl; infos = refl; versions = refl; start = refl; incarnation = refl } in
    record {
      faithful = begun entry left fit fit_left all history first entry.offset on infos began same faithful;
      onward = record {
        tables = all.tables;
        commits = record { more = all.others; is = all.commits };
        records = record { more = []; is = sym (append-nil (joined entry.groups)) };
        offset = offset_goes entry history left.history on.others first first entry.offset (is_longer history left.history on.others (record { tables = on.tables; commits = on.commits })) began own (le_refl first.lsn.0) (cursors_stay first.cursors);
      };
      no_fall = same_le left.confirmed.0 entry.confirmed.0 (ap (λ (l : Lsn). l.0) same);
      adds = record { more = []; is = sym (append-nil (joined entry.groups)); above = tt; rise = tt };
      grouped = sym (append-nil entry.groups);
      lag_is = lag_first entry left fit fit_left all first entry.offset history began faithful;
    }
