-- What a session leaves where it ends.
use Rattle.std.proofs.Common.{◌≡◌, ◌∙◌, ◌⊎◌, inl, inr, ◌≤◌, ◌<◌, ℕ, max, Option, Some, None, List, [], ◌∷◌, ◌++◌, length, map, refl, sym, ap, subst, arith, append_assoc, le_refl}
use Rattle.std.specs.Prelude.{IfSome, zip}
use Rattle.std.specs.List.{AllByRecursion, AllZip}
use Rattle.dbl_base.specs.declared.lsn.Lsn.{Lsn}
use Rattle.dbl_record.specs.declared.record.Record.{Record}
use Rattle.dbl_record.specs.Cuts.{joined}
use Rattle.dbl_model_table.specs.declared.identity.Identity.{Identity}
use Rattle.dbl_model_table.specs.declared.table.TableInfo.{TableInfo}
use Rattle.dbl_model_table.specs.declared.change.Commit.{Commit}
use Rattle.dbl_faithful.specs.ModelHistory.declared.cursor.Cursor.{Cursor}
use Rattle.dbl_faithful.specs.ModelHistory.History.{AreRising, RawCommit, History, IsRising}
use Rattle.dbl_faithful.specs.ModelHistory.Fit.{IsFitHistory}
use Rattle.dbl_faithful.specs.ModelHistory.InForce.{IsAlike}
use Rattle.dbl_faithful.proofs.ConsumeLawsNotices.{all_append}
use Rattle.dbl_follow.specs.SourceModel.Standings.{CrashState}
use Rattle.dbl_faithful.specs.Offset.declared.offset.Offset.{Offset}
use Rattle.dbl_faithful.proofs.Items.{all_weaker}
use Rattle.dbl_faithful.specs.Stores.{IsCommitAt, IsPositionOf, StandTogether, top_position, repeated, lag}
use Rattle.dbl_faithful.specs.Lag.{IsOffsetOf}
use Rattle.dbl_faithful.specs.Faithful.{IsFaithful}
use Rattle.dbl_faithful.specs.Onward.{IsLaterCursor, IsLaterProgress, OffsetGoesOn, GoesOnward, Adds}
use Rattle.dbl_faithful.proofs.Onward.{infos_stay, versions_stay}
use Rattle.dbl_faithful.proofs.Faithful.{faithful_records_stand}
use Rattle.dbl_faithful.proofs.StorePositions.{lags_are_bounded, repeated_commits_stand_together}
use Rattle.dbl_follow.proofs.WindowHonestLemmas.{captured_stays}
use Rattle.dbl_capture_model.specs.Entries.{SessionStart, StoodInLog, WasFaithful, stores_at, stores_left, appends_after}
use Rattle.dbl_capture_model.specs.Stages.{Stage, records_of_stage, next_offset, read_at, IsOfSession, far_at}
use Rattle.dbl_capture_model.specs.Delivered.{IsDelivered}
use Rattle.dbl_capture_model.specs.Going.{IsFirstOf, IsPlacedInHistory, KeepsStage, IsGoing}
use Rattle.dbl_capture_model.specs.Exits.{MayBeLeft, SourcesMayEnd, StoresMayEnd}
use Rattle.dbl_capture_model.specs.Outcomes.{FollowsSession}
use Rattle.dbl_faithful.proofs.Lists.{longer, is_longer, after_position, after_top, still_position}
use Rattle.dbl_capture_model.proofs.LaterCursors.{progress_on}
use Rattle.dbl_capture_model.proofs.Delivered.{delivered_faithful}
use Rattle.dbl_capture_model.proofs.Growing.{confirmed_so, offset_longer, up_longer, new}

-- ---- what was known when it began

stands_so : (history : History) (confirmed : Lsn) (records : List Record) (offset : Option Offset) → IsFaithful history confirmed records offset → IfSome offset (λ o. IsPositionOf history o.lsn.0)
stands_so history confirmed records None is = tt
stands_so history confirmed records (Some offset) is = by is.lags.offset_is.lsn
  where
    by : (offset.lsn.0 ≡ offset.start.0) ⊎ IsCommitAt history offset.lsn.0 → IsPositionOf history offset.lsn.0
    by (inl same) = subst (IsPositionOf history) (sym same) is.lags.offset_is.start
    by (inr at) = inr at

pub stood_of : (entry : SessionStart) → WasFaithful entry → StoodInLog entry
stood_of entry faithful = stands_so entry.history entry.confirmed (joined entry.groups) entry.offset faithful

pub rising_front : (low : ℕ) (xs ys : List RawCommit) → AreRising low (map (λ (c : RawCommit). c.lsn.0) (xs ++ ys)) → AreRising low (map (λ (c : RawCommit). c.lsn.0) xs)
rising_front low [] ys rise = tt
rising_front low (x ∷ xs) ys rise = (rise.0, rising_front x.lsn.0 xs ys rise.1)

-- ---- an offset of the session

pub up_of : (first offset : Offset) (history : History) (low high far : ℕ) (before later : List Commit) (sent : ℕ) (records : List Record) → IsOfSession first offset
    → IsDelivered first.identity first.infos history first.start.0 low high far before later sent records
    → IsDelivered offset.identity offset.infos history offset.start.0 low high far before later sent records
up_of first offset history low high far before later sent records is up =
    subst (λ (i : Identity). IsDelivered i offset.infos history offset.start.0 low high far before later sent records) (sym is.identity)
    (subst (λ (infos : List TableInfo). IsDelivered first.identity infos history offset.start.0 low high far before later sent records) (sym is.infos)
    (subst (λ (start : Lsn). IsDelivered first.identity first.infos history start.0 low high far before later sent records) (sym is.start) up))

le_on : (a b c : ℕ) → a ≤ b → b ≤ c → a ≤ c
le_on a b c one two = omega (arith, one, two)

lt_on : (a b c : ℕ) → a ≤ b → b < c → a < c
lt_on a b c one two = omega (arith, one, two)

same_le : (a b : ℕ) → a ≡ b → b ≤ a
same_le a b is = omega (arith, is)

-- it goes on from the offset that the session found
pub offset_goes : (entry : SessionStart) (history new : History) (more : List RawCommit) (first offset : Offset) (old : Option Offset) → new ≡ longer history more → IsFirstOf entry history first old → IsOfSession first offset → first.lsn.0 ≤ offset.lsn.0
    → AllZip IsLaterCursor first.cursors offset.cursors → OffsetGoesOn entry.config entry.history new old (Some offset)
offset_goes entry history new more first offset None same began is le later = record {
  identity = is.identity ∙ began.0.identity;
  tables = ap (map (λ (info : TableInfo). info.name)) is.infos ∙ began.0.tables;
  start = subst (λ (h : History). IsPositionOf h offset.start.0) (sym same) (still_position history more offset.start.0 (subst (λ (s : Lsn). IsPositionOf history s.0) (sym is.start) began.0.start));
  not_before = subst (λ (s : Lsn). AllByRecursion (λ (c : RawCommit). c.lsn.0 ≤ s.0) entry.history.commits) (sym is.start) began.0.not_before;
  incarnation = is.incarnation ∙ began.0.incarnation;
}
offset_goes entry history new more first offset (Some old) same began is le later = record {
  identity = is.identity ∙ began.0.identity;
  infos = subst (AllZip IsAlike old.infos) (sym (is.infos ∙ began.0.infos)) (infos_stay old.infos);
  versions = subst (AllZip (λ (before after : ℕ). before ≤ after) old.versions) (sym (is.versions ∙ began.0.versions)) (versions_stay old.versions);
  start = is.start ∙ began.0.start;
  lsn = le_on old.lsn.0 first.lsn.0 offset.lsn.0 (same_le first.lsn.0 old.lsn.0 (ap (λ (l : Lsn). l.0) began.0.lsn)) le;
  cursors = subst (λ (l : List ℕ). AllZip IsLaterProgress (zip old.versions old.cursors) (zip l offset.cursors)) (sym (is.versions ∙ began.0.versions))
      (progress_on old.versions old.cursors offset.cursors (subst (λ (l : List Cursor). AllZip IsLaterCursor l offset.cursors) began.0.cursors later));
  incarnation = inr (is.incarnation ∙ began.1);
}

-- the position after which it appends
pub appends_so : (entry : SessionStart) (history : History) (first offset : Offset) (old : Option Offset) → IsFirstOf entry history first old → IsOfSession first offset → appends_after old (Some offset) ≡ first.lsn.0
appends_so entry history first offset None began is = ap (λ (l : Lsn). l.0) is.start ∙ sym (ap (λ (l : Lsn). l.0) began.1.at_start)
appends_so entry history first offset (Some old) began is = sym (ap (λ (l : Lsn). l.0) began.0.lsn)

-- ---- how far it lags

le_max_left : (a b c : ℕ) → a ≤ b → a ≤ max b c
le_max_left a b c le = omega (arith, le)

le_max_right : (a b c : ℕ) → a ≤ c → a ≤ max b c
le_max_right a b c le = omega (arith, le)

-- No record is after the last commit that may have records in the log: so many commits may be repeated.
pub lag_near : (history : History) (records : List Record) (offset : Offset) (before since later : List RawCommit) (far every entry_lag : ℕ)
    → history.commits ≡ before ++ (since ++ later) → AllByRecursion (λ commit. commit.lsn.0 ≤ offset.lsn.0) before → AllByRecursion (λ commit. far < commit.lsn.0) later → top_position records ≤ far → length since ≤ every
    → lag history records (Some offset) ≤ max every entry_lag
lag_near history records offset before since later far every entry_lag is low high top few =
    le_max_left (lag history records (Some offset)) every entry_lag
    (le_on (lag history records (Some offset)) (length since) every
    (lags_are_bounded history records offset before since later is low (all_weaker (λ (c : RawCommit). far < c.lsn.0) (λ (c : RawCommit). top_position records < c.lsn.0) later (λ c lt. lt_on (top_position records) far c.lsn.0 top lt) high)) few)

-- The log reaches as far as it did: what is repeated was repeated then.
pub lag_far : (entry_history history : History) (more : List RawCommit) (entry_records records : List Record) (old offset : Offset) (every : ℕ)
    → IsRising entry_history → history.commits ≡ entry_history.commits ++ more → AllByRecursion (λ commit. top_position entry_records < commit.lsn.0) more → top_position records ≡ top_position entry_records → old.lsn.0 ≤ offset.lsn.0
    → lag history records (Some offset) ≤ max every (lag entry_history entry_records (Some old))
lag_far entry_history history more entry_records records old offset every rise grown high same le =
    let together : StandTogether entry_history entry_records old = repeated_commits_stand_together entry_history entry_records old rise in
    let spelled : history.commits ≡ together.before ++ (repeated entry_history entry_records old ++ (together.later ++ more)) =
    grown ∙ (ap (λ (l : List RawCommit). l ++ more) together.spelled
    ∙ (append_assoc together.before (repeated entry_history entry_records old ++ together.later) more
    ∙ ap (λ (l : List RawCommit). together.before ++ l) (append_assoc (repeated entry_history entry_records old) together.later more))) in
    let low : AllByRecursion (λ (c : RawCommit). c.lsn.0 ≤ offset.lsn.0) together.before = all_weaker (λ (c : RawCommit). c.lsn.0 ≤ old.lsn.0) (λ (c : RawCommit). c.lsn.0 ≤ offset.lsn.0) together.before (λ c is. le_on c.lsn.0 old.lsn.0 offset.lsn.0 is le) together.unread in
    let over : AllByRecursion (λ (c : RawCommit). top_position entry_records < c.lsn.0) (together.later ++ more) =
    all_append (λ (c : RawCommit). top_position entry_records < c.lsn.0) together.later more
    (all_weaker (λ (c : RawCommit). (old.lsn.0 < c.lsn.0) × (top_position entry_records < c.lsn.0)) (λ (c : RawCommit). top_position entry_records < c.lsn.0) together.later (λ c is. is.1) together.undelivered) high in
    le_max_right (lag history records (Some offset)) every (lag entry_history entry_records (Some old))
    (lags_are_bounded history records offset together.before (repeated entry_history entry_records old) (together.later ++ more) spelled low
    (subst (λ (n : ℕ). AllByRecursion (λ (c : RawCommit). n < c.lsn.0) (together.later ++ more)) (sym same) over))

-- ---- every exit at which no record is put

module _ (entry : SessionStart) (stage : Stage) (left : CrashState) (faithful : WasFaithful entry) (may : MayBeLeft stage left) (going : IsGoing entry stage) where
  stood : StoodInLog entry
  stood = stood_of entry faithful

  abbrev placed : IsPlacedInHistory stage
  placed = going.placed (stood_of entry faithful)

  abbrev kept : KeepsStage entry stage (going.placed (stood_of entry faithful)).parts
  kept = going.kept (stood_of entry faithful) faithful

  pub same : left.history ≡ longer stage.history may.more
  same = is_longer stage.history left.history may.more may.grown

  pub fit_longer : IsFitHistory (longer stage.history may.more)
  fit_longer = subst IsFitHistory same may.fit

  -- the log is delivered up to the commits before the history that is left
  pub up_left : IsDelivered stage.first.identity stage.first.infos left.history stage.first.start.0 stage.first.lsn.0 stage.lsn.0 (far_at entry stage) (placed.parts.old ++ read_at stage) (placed.parts.later ++ new entry stage may.more fit_longer) 0 (records_of_stage stage)
  up_left =
      subst (λ (h : History). IsDelivered stage.first.identity stage.first.infos h stage.first.start.0 stage.first.lsn.0 stage.lsn.0 (far_at entry stage) (placed.parts.old ++ read_at stage) (placed.parts.later ++ new entry stage may.more fit_longer) 0 (records_of_stage stage)) (sym same)
      (up_longer entry stage may.more fit_longer placed.parts may.marks placed.position going.reading.fit going.reading.infos (captured_stays stage.history (longer stage.history may.more) stage.first.infos refl going.reading.infos) kept.stand kept.up)

  pub offset_left : (offset : Offset) → offset.incarnation ≡ stage.first.incarnation → left.confirmed.0 ≤ offset.lsn.0 → IsOffsetOf stage.history stage.confirmed (records_of_stage stage) offset → IsOffsetOf left.history left.confirmed (records_of_stage stage) offset
  offset_left offset is le of =
      confirmed_so left.history stage.confirmed left.confirmed (records_of_stage stage) offset le
      (subst (λ (h : History). IsOffsetOf h stage.confirmed (records_of_stage stage) offset) (sym same) (offset_longer entry stage may.more fit_longer placed.parts may.marks placed.position offset is of))

  -- what is appended, after where the session began
  abbrev adds_at : (offset : Offset) → IsOfSession stage.first offset → Adds (appends_after entry.offset (Some offset)) (joined entry.groups) (records_of_stage stage)
  adds_at offset is = record {
    more = kept.adds.more;
    is = kept.adds.is;
    above = subst (λ (p : ℕ). AllByRecursion (λ (item : Record). p < item.position) kept.adds.more) (sym (appends_so entry stage.history stage.first offset entry.offset going.reading.began is)) kept.adds.above;
    rise = kept.adds.rise;
  }

  onward_at : (offset : Offset) → IsOfSession stage.first offset → stage.first.lsn.0 ≤ offset.lsn.0 → AllZip IsLaterCursor stage.first.cursors offset.cursors
      → GoesOnward entry.config (stores_at entry) (stores_left left stage.groups (Some offset))
  onward_at offset is le later = record {
    tables = may.grown.tables ∙ going.reading.grown.tables;
    commits = record {
      more = going.reading.more ++ may.more;
      is = may.grown.commits ∙ (ap (λ (l : List RawCommit). l ++ may.more) going.reading.grown.commits ∙ append_assoc entry.history.commits going.reading.more may.more);
    };
    records = record { more = kept.adds.more; is = kept.adds.is };
    offset = offset_goes entry stage.history left.history may.more stage.first offset entry.offset same going.reading.began is le later;
  }

  near_left : (offset : Offset) → stage.stored.lsn.0 ≤ offset.lsn.0 → top_position (records_of_stage stage) ≤ stage.lsn.0 → lag left.history (records_of_stage stage) (Some offset) ≤ max entry.config.every (lag entry.history (joined entry.groups) entry.offset)
  near_left offset le top =
      lag_near left.history (records_of_stage stage) offset kept.near.before kept.near.since (kept.near.later ++ may.more) stage.lsn.0 entry.config.every (lag entry.history (joined entry.groups) entry.offset)
      (may.grown.commits ∙ (ap (λ (l : List RawCommit). l ++ may.more) kept.near.spelled ∙ (append_assoc kept.near.before (kept.near.since ++ kept.near.later) may.more ∙ ap (λ (l : List RawCommit). kept.near.before ++ l) (append_assoc kept.near.since kept.near.later may.more))))
      (all_weaker (λ (c : RawCommit). c.lsn.0 ≤ stage.stored.lsn.0) (λ (c : RawCommit). c.lsn.0 ≤ offset.lsn.0) kept.near.before (λ c low. le_on c.lsn.0 stage.stored.lsn.0 offset.lsn.0 low le) kept.near.settled)
      (all_append (λ (c : RawCommit). stage.lsn.0 < c.lsn.0) kept.near.later may.more kept.near.over (after_position stage.history may.more fit_longer.rising stage.lsn.0 placed.position))
      top (subst (λ (n : ℕ). n ≤ entry.config.every) (sym kept.near.many) kept.near.few)

  -- ---- where the log reaches further than the session has come

  pub grown_all : left.history.commits ≡ entry.history.commits ++ (going.reading.more ++ may.more)
  grown_all = may.grown.commits ∙ (ap (λ (l : List RawCommit). l ++ may.more) going.reading.grown.commits ∙ append_assoc entry.history.commits going.reading.more may.more)

  same_all : left.history ≡ longer entry.history (going.reading.more ++ may.more)
  same_all = is_longer entry.history left.history (going.reading.more ++ may.more) (record { tables = may.grown.tables ∙ going.reading.grown.tables; commits = grown_all })

  pub rise_all : IsRising (longer entry.history (going.reading.more ++ may.more))
  rise_all = subst IsRising same_all may.fit.rising

  zero_le : (a b c : ℕ) → a ≡ b → b ≡ 0 → a ≤ c
  zero_le a b c one two = omega (arith, one, two)

  far_left : (offset : Offset) (old : Option Offset) → IsFaithful entry.history entry.confirmed (joined entry.groups) old → IsFirstOf entry stage.history stage.first old → stage.stored.lsn.0 ≤ offset.lsn.0
      → top_position (records_of_stage stage) ≡ top_position (joined entry.groups) → (top_position (records_of_stage stage) ≤ stage.lsn.0 → lag left.history (records_of_stage stage) (Some offset) ≤ max entry.config.every (lag entry.history (joined entry.groups) old))
      → lag left.history (records_of_stage stage) (Some offset) ≤ max entry.config.every (lag entry.history (joined entry.groups) old)
  far_left offset None is began le top near = near (zero_le (top_position (records_of_stage stage)) (top_position (joined entry.groups)) stage.lsn.0 top (ap top_position is.empty))
  far_left offset (Some old) is began le top near =
      lag_far entry.history left.history (going.reading.more ++ may.more) (joined entry.groups) (records_of_stage stage) old offset entry.config.every
      (rising_front 0 entry.history.commits (going.reading.more ++ may.more) rise_all) grown_all
      (after_top entry.history (going.reading.more ++ may.more) rise_all (joined entry.groups) (λ place item at. faithful_records_stand entry.history entry.confirmed (joined entry.groups) old place item is at)) top
      (le_on old.lsn.0 stage.stored.lsn.0 offset.lsn.0 (le_on old.lsn.0 stage.first.lsn.0 stage.stored.lsn.0 (same_le stage.first.lsn.0 old.lsn.0 (ap (λ (l : Lsn). l.0) began.0.lsn)) kept.from) le)

  lag_left : (offset : Offset) → stage.stored.lsn.0 ≤ offset.lsn.0 → lag left.history (records_of_stage stage) (Some offset) ≤ max entry.config.every (lag entry.history (joined entry.groups) entry.offset)
  lag_left offset le = by kept.near.top
    where
      by : (top_position (records_of_stage stage) ≤ stage.lsn.0) ⊎ (top_position (records_of_stage stage) ≡ top_position (joined entry.groups)) → lag left.history (records_of_stage stage) (Some offset) ≤ max entry.config.every (lag entry.history (joined entry.groups) entry.offset)
      by (inl low) = near_left offset le low
      by (inr far) = far_left offset entry.offset faithful going.reading.began le far (near_left offset le)

  -- ---- all of it

  pub follows_at : (offset : Offset) → IsOfSession stage.first offset → stage.stored.lsn.0 ≤ offset.lsn.0 → offset.lsn.0 ≤ stage.lsn.0 → IsOffsetOf stage.history stage.confirmed (records_of_stage stage) offset
      → AllZip IsLaterCursor stage.first.cursors offset.cursors → FollowsSession entry left stage.groups (Some offset)
  follows_at offset is from to of later =
      let low : left.confirmed.0 ≤ offset.lsn.0 = le_on left.confirmed.0 stage.stored.lsn.0 offset.lsn.0 may.confirmed from in
      let lower : stage.first.lsn.0 ≤ offset.lsn.0 = le_on stage.first.lsn.0 stage.stored.lsn.0 offset.lsn.0 kept.from from in
      record {
        faithful = delivered_faithful left.history left.confirmed (records_of_stage stage) offset stage.first.lsn.0 stage.lsn.0 (far_at entry stage) (placed.parts.old ++ read_at stage) (placed.parts.later ++ new entry stage may.more fit_longer) 0 lower to
            (offset_left offset is.incarnation low of)
            (up_of stage.first offset left.history stage.first.lsn.0 stage.lsn.0 (far_at entry stage) (placed.parts.old ++ read_at stage) (placed.parts.later ++ new entry stage may.more fit_longer) 0 (records_of_stage stage) is up_left);
        onward = onward_at offset is lower later;
        no_fall = le_on entry.confirmed.0 stage.confirmed.0 left.confirmed.0 going.reading.no_fall may.no_fall;
        adds = adds_at offset is;
        grouped = kept.grouped;
        lag_is = lag_left offset from;
      }

pub sources_may_end : SourcesMayEnd
sources_may_end entry stage left faithful may going =
    let k = going.kept (stood_of entry faithful) faithful in
    follows_at entry stage left faithful may going stage.stored going.reading.of_session (le_refl stage.stored.lsn.0) k.to k.stored_is going.reading.stored_later

pub stores_may_end : StoresMayEnd
stores_may_end entry stage left faithful may going =
    let k = going.kept (stood_of entry faithful) faithful in
    follows_at entry stage left faithful may going (next_offset stage) (record { identity = refl; infos = refl; versions = refl; start = refl; incarnation = refl }) k.to (le_refl stage.lsn.0) k.next_is going.reading.counted.come.later
