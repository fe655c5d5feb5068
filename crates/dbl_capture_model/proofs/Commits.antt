-- A session that has followed a commit keeps what it keeps.
use Rattle.std.proofs.Common.{◌≡◌, ◌∙◌, ◌⊎◌, inl, inr, ◌+◌, ◌≤◌, ◌<◌, ℕ, max, Some, List, [], ◌∷◌, ◌++◌, length, take, refl, sym, ap, subst, arith, append_assoc, le_refl, length-append}
use Rattle.std.specs.Prelude.{slice_get}
use Rattle.std.specs.List.{AllByRecursion}
use Rattle.dbl_pgmsg.specs.declared.messages.Message.{Message}
use Rattle.dbl_record.specs.declared.record.Record.{Record}
use Rattle.dbl_record.specs.Cuts.{cut, joined}
use Rattle.dbl_model_table.specs.declared.table.TableInfo.{TableInfo}
use Rattle.dbl_model_table.specs.declared.change.Commit.{Commit}
use Rattle.dbl_faithful.specs.ModelHistory.History.{AreRising, RawCommit}
use Rattle.dbl_faithful.specs.ModelHistory.InForce.{versioned}
use Rattle.dbl_faithful.specs.ModelHistory.Ranges.{IsMomentInRange}
use Rattle.dbl_faithful.specs.ModelHistory.Typed.{typed_commit}
use Rattle.dbl_faithful.proofs.ModelHistoryMomentLemmas.{lsns}
use Rattle.dbl_faithful.proofs.ConsumeLawsCommits.{fit_commits}
use Rattle.dbl_faithful.proofs.ConsumeLawsLists.{slice_get-seam}
use Rattle.dbl_faithful.proofs.ConsumeLawsNotices.{all_append}
use Rattle.dbl_faithful.proofs.Items.{mapped, all_weaker}
use Rattle.dbl_capture_model.proofs.Rising.{all_above, rising_after, commit_at}
use Rattle.dbl_faithful.specs.Stores.{IsCommitAt, IsPositionOf, top_position}
use Rattle.dbl_faithful.specs.Lag.{IsOffsetOf}
use Rattle.dbl_faithful.specs.Onward.{PlacesRise}
use Rattle.dbl_consume_courses.specs.VersionStores.{version_to}
use Rattle.dbl_faithful.proofs.Plainly.{plain_version, versions_in_force}
use Rattle.dbl_follow.specs.Followed.{Following}
use Rattle.dbl_follow.specs.Steps.{Becomes, mark_of, closing, records_by}
use Rattle.dbl_capture_model.specs.Entries.{SessionStart, StoodInLog, WasFaithful}
use Rattle.dbl_capture_model.specs.Stages.{Stage, records_of_stage, next_offset, commits_at, read_at, PartsHistory}
use Rattle.dbl_capture_model.specs.Delivered.{IsDelivered}
use Rattle.dbl_capture_model.specs.Marked.{IsAwaited, IsWindowAt, IsOwnWindow}
use Rattle.dbl_capture_model.specs.Going.{IsNear, KeepsStage, IsGoing, begun_after}
use Rattle.dbl_capture_model.specs.Steps.{CommitsKeepGoing, WasFollowed, followed_at}
use Rattle.dbl_faithful.proofs.Splits.{RawNext}
use Rattle.dbl_capture_model.proofs.Events.{joined_cut, take_whole}
use Rattle.dbl_capture_model.proofs.Telling.{told_by, told_on}
use Rattle.dbl_capture_model.proofs.Stepping.{read_le}
use Rattle.dbl_capture_model.proofs.Windowing.{awaited_step, window_step, own_step}
use Rattle.dbl_capture_model.proofs.Counts.{counted_step}
use Rattle.dbl_capture_model.proofs.Cursors.{cursors_step, AreRightCursors, many_step, told_step}
use Rattle.dbl_capture_model.proofs.Sending.{IsNextOf, next_is, read_more, AreSent, at_commit, adds_more, grouped_more, within_more}
use Rattle.dbl_capture_model.proofs.Following.{lt, next, raw, sent, sent_all, top_more, stored_more}

-- ---- where it stands

-- after the commit, of which nothing was read before
module _ (entry : SessionStart) (stage : Stage) (m : Message) (commit : Commit) (new : Following) (followed : WasFollowed stage entry.now m commit new) (going : IsGoing entry stage) (parts : PartsHistory stage) where
  abbrev followed_stage : Stage
  followed_stage = followed_at stage entry.now m commit new

  abbrev comes : IsNextOf parts.later commit
  comes = next_is entry stage entry.now m commit new parts going.reading followed

  pub over_comes : AllByRecursion (λ c. stage.lsn.0 < c.lsn.0) (commit ∷ comes.rest)
  over_comes = subst (AllByRecursion (λ (c : Commit). stage.lsn.0 < c.lsn.0)) comes.is parts.over

  pub read_is : read_at followed_stage ≡ read_at stage ++ commit ∷ []
  read_is = read_more stage m commit followed.ends

  -- the commits read before, and it
  pub read_all : parts.old ++ read_at followed_stage ≡ (parts.old ++ read_at stage) ++ commit ∷ []
  read_all = ap (λ (l : List Commit). parts.old ++ l) read_is ∙ sym (append_assoc parts.old (read_at stage) (commit ∷ []))

  pub spelled_at : commits_at stage ≡ (parts.old ++ read_at stage) ++ commit ∷ comes.rest
  spelled_at = parts.spelled ∙ ap (λ (l : List Commit). (parts.old ++ read_at stage) ++ l) comes.is

  pub under_le : (a b c : ℕ) → a ≤ b → b < c → a ≤ c
  under_le a b c le less = omega (arith, le, less)

  abbrev parts_followed : (over : AllByRecursion (λ c. commit.lsn.0 < c.lsn.0) comes.rest) → PartsHistory followed_stage
  parts_followed over = record {
    old = parts.old;
    later = comes.rest;
    spelled = spelled_at ∙ (sym (append_assoc (parts.old ++ read_at stage) (commit ∷ []) comes.rest) ∙ ap (λ (l : List Commit). l ++ comes.rest) (sym read_all));
    stated = parts.stated ∙ (ap (λ (l : List Commit). read_at stage ++ l) comes.is ∙ (sym (append_assoc (read_at stage) (commit ∷ []) comes.rest) ∙ ap (λ (l : List Commit). l ++ comes.rest) (sym read_is)));
    last = inr (record { front = read_at stage; last = commit; spelled = read_is; lsn_is = refl });
    under = subst (AllByRecursion (λ (c : Commit). c.lsn.0 ≤ commit.lsn.0)) (sym read_all)
        (all_append (λ (c : Commit). c.lsn.0 ≤ commit.lsn.0) (parts.old ++ read_at stage) (commit ∷ [])
        (all_weaker (λ (c : Commit). c.lsn.0 ≤ stage.lsn.0) (λ (c : Commit). c.lsn.0 ≤ commit.lsn.0) (parts.old ++ read_at stage) (λ c le. under_le c.lsn.0 stage.lsn.0 commit.lsn.0 le over_comes.0) parts.under) (le_refl commit.lsn.0, tt));
    over = over;
    order = under_le stage.first.lsn.0 stage.lsn.0 commit.lsn.0 parts.order over_comes.0;
  }

  -- ---- the history's commit at this place

  raw_at : (c : RawCommit) × (slice_get stage.history.commits (length (parts.old ++ read_at stage)) ≡ Some c) × (commit ≡ typed_commit stage.first.infos c)
  raw_at = mapped (typed_commit stage.first.infos) stage.history.commits (length (parts.old ++ read_at stage)) commit
      (ap (λ (l : List Commit). slice_get l (length (parts.old ++ read_at stage))) spelled_at ∙ slice_get-seam (parts.old ++ read_at stage) commit comes.rest)

  becomes : Becomes stage.first.infos stage.following.window commit.body new.window
  becomes = subst (λ (infos : List TableInfo). Becomes infos stage.following.window commit.body new.window) going.reading.follows_infos followed.steps.window

  one_longer : length ((parts.old ++ read_at stage) ++ commit ∷ []) ≡ length (parts.old ++ read_at stage) + 1
  one_longer = length-append (parts.old ++ read_at stage) (commit ∷ [])

  -- so many commits were read as before, and one
  read_count : length (parts.old ++ read_at followed_stage) ≡ length (parts.old ++ read_at stage) + 1
  read_count = ap length read_all ∙ one_longer

  awaited_followed : IsAwaited stage.history (length (parts.old ++ read_at stage)) stage.following.window → IsAwaited stage.history (length (parts.old ++ read_at followed_stage)) new.window
  awaited_followed is =
      subst (λ (n : ℕ). IsAwaited stage.history n new.window) (sym read_count)
      (awaited_step stage.first.infos stage.history (length (parts.old ++ read_at stage)) raw_at.0 commit raw_at.1 raw_at.2 stage.following.window new.window commit.body refl becomes is)

  position_followed : IsPositionOf stage.history commit.lsn.0
  position_followed = inr (commit_at stage.first.infos stage.history (length (parts.old ++ read_at stage)) commit (ap (λ (l : List Commit). slice_get l (length (parts.old ++ read_at stage))) spelled_at ∙ slice_get-seam (parts.old ++ read_at stage) commit comes.rest))

-- ---- what it keeps

up_one : (a b c : ℕ) → a ≡ b → b < c → a + 1 ≤ c
up_one a b c is less = omega (arith, is, less)

le_on : (a b c : ℕ) → a ≤ b → b ≤ c → a ≤ c
le_on a b c one two = omega (arith, one, two)

le_lt : (a b c : ℕ) → a ≤ b → b < c → a ≤ c
le_lt a b c le less = omega (arith, le, less)

-- the commits after it rise
over_rest : (entry : SessionStart) (stage : Stage) (m : Message) (commit : Commit) (new : Following) (followed : WasFollowed stage entry.now m commit new) (going : IsGoing entry stage) (parts : PartsHistory stage)
    → AllByRecursion (λ c. commit.lsn.0 < c.lsn.0) (comes entry stage m commit new followed going parts).rest
over_rest entry stage m commit new followed going parts =
    all_above commit.lsn.0 (comes entry stage m commit new followed going parts).rest
    (rising_after 0 (parts.old ++ read_at stage) commit (comes entry stage m commit new followed going parts).rest
    (subst (λ (l : List Commit). AreRising 0 (lsns l)) (spelled_at entry stage m commit new followed going parts) (fit_commits stage.history stage.first.infos going.reading.fit going.reading.infos).rise))

module _ (entry : SessionStart) (stage : Stage) (m : Message) (commit : Commit) (new : Following) (in_range : IsMomentInRange entry.now) (since : stage.since < entry.config.every) (followed : WasFollowed stage entry.now m commit new)
    (going : IsGoing entry stage) (faithful : WasFaithful entry) (stood : StoodInLog entry) where
  abbrev parts : PartsHistory stage
  parts = (going.placed stood).parts

  abbrev k : KeepsStage entry stage (going.placed stood).parts
  k = going.kept stood faithful

  abbrev rs : List Record
  rs = records_by stage.following commit entry.now

  abbrev after : Stage
  after = followed_at stage entry.now m commit new

  subsequent : stage.lsn.0 < commit.lsn.0
  subsequent = lt entry stage m commit new in_range followed faithful stood going

  are_sent : AreSent commit rs
  are_sent = sent entry stage m commit new in_range followed faithful stood going

  -- all records of the commit, in words of some first ones
  whole : take (length rs) rs ≡ rs
  whole = take_whole rs

  joined_is : records_of_stage after ≡ records_of_stage stage ++ rs
  joined_is = joined_cut stage.groups rs

  next_raw : RawNext k.near.later commit.lsn.0
  next_raw = raw entry stage m commit new in_range followed faithful stood going

  near_followed : IsNear entry after
  near_followed = record {
    before = k.near.before;
    since = k.near.since ++ next_raw.raw ∷ [];
    later = next_raw.rest;
    spelled = k.near.spelled ∙ ap (λ (l : List RawCommit). k.near.before ++ l) (ap (λ (l : List RawCommit). k.near.since ++ l) next_raw.is ∙ sym (append_assoc k.near.since (next_raw.raw ∷ []) next_raw.rest));
    settled = k.near.settled;
    followed = all_append (λ (c : RawCommit). c.lsn.0 ≤ commit.lsn.0) k.near.since (next_raw.raw ∷ [])
        (all_weaker (λ (c : RawCommit). c.lsn.0 ≤ stage.lsn.0) (λ (c : RawCommit). c.lsn.0 ≤ commit.lsn.0) k.near.since (λ c le. le_lt c.lsn.0 stage.lsn.0 commit.lsn.0 le subsequent) k.near.followed) (same_le next_raw.raw.lsn.0 commit.lsn.0 next_raw.lsn_is, tt);
    many = length-append k.near.since (next_raw.raw ∷ []) ∙ ap (λ (n : ℕ). n + 1) k.near.many;
    over = next_raw.over;
    few = up_one stage.since stage.since entry.config.every refl since;
    top = subst (λ (l : List Record). (top_position l ≤ commit.lsn.0) ⊎ (top_position l ≡ top_position (joined entry.groups))) (ap (λ (l : List Record). records_of_stage stage ++ l) whole ∙ sym joined_is)
        (top_more entry stage m commit new in_range followed faithful stood going (length rs));
  }
    where
      same_le : (a b : ℕ) → a ≡ b → a ≤ b
      same_le a b is = omega (arith, is)

  -- the log has all records of it
  up_followed : IsDelivered stage.first.identity stage.first.infos stage.history stage.first.start.0 stage.first.lsn.0 commit.lsn.0 (max (top_position (joined entry.groups)) commit.lsn.0) (parts.old ++ read_at after) (next entry stage m commit new in_range followed faithful stood going).rest 0 (records_of_stage after)
  up_followed =
      let all = sent_all entry stage m commit new in_range followed faithful stood going (length rs) in
      subst (λ (l : List Record). IsDelivered stage.first.identity stage.first.infos stage.history stage.first.start.0 stage.first.lsn.0 commit.lsn.0 (max (top_position (joined entry.groups)) commit.lsn.0) (parts.old ++ read_at after) (next entry stage m commit new in_range followed faithful stood going).rest 0 l)
      (ap (λ (l : List Record). records_of_stage stage ++ l) whole ∙ sym joined_is)
      (subst (λ (l : List Commit). IsDelivered stage.first.identity stage.first.infos stage.history stage.first.start.0 stage.first.lsn.0 commit.lsn.0 (max (top_position (joined entry.groups)) commit.lsn.0) l (next entry stage m commit new in_range followed faithful stood going).rest 0 (records_of_stage stage ++ take (length rs) rs))
      (sym (read_all entry stage m commit new followed going parts)) (all.whole refl))

  stored_followed : IsOffsetOf stage.history stage.confirmed (records_of_stage after) stage.stored
  stored_followed =
      subst (λ (l : List Record). IsOffsetOf stage.history stage.confirmed l stage.stored) (ap (λ (l : List Record). records_of_stage stage ++ l) whole ∙ sym joined_is)
      (stored_more entry stage m commit new in_range followed faithful stood going (length rs))

  -- the stored versions are those in force everywhere
  in_force : (table version : ℕ) → slice_get stage.first.versions table ≡ Some version → version ≡ version_to (versioned stage.first.infos stage.history) table commit.lsn.0
  in_force table version at =
      versions_in_force stage.history stage.confirmed (records_of_stage stage) (next_offset stage) going.reading.fit k.next_is table version at
      ∙ (plain_version stage.history stage.first.infos table stage.lsn.0 going.reading.fit going.reading.infos ∙ sym (plain_version stage.history stage.first.infos table commit.lsn.0 going.reading.fit going.reading.infos))

  at_it : AllByRecursion (λ item. item.position ≡ commit.lsn.0) rs
  at_it = subst (AllByRecursion (λ (item : Record). item.position ≡ commit.lsn.0)) whole (at_commit entry stage parts k commit rs subsequent are_sent (length rs))

  -- the offset that would be stored now
  next_followed : IsOffsetOf stage.history stage.confirmed (records_of_stage after) (next_offset after)
  next_followed = record {
    start = k.next_is.start;
    lsn = inr (commit_place (position_followed entry stage m commit new followed going parts) subsequent);
    order = le_lt stage.first.start.0 stage.lsn.0 commit.lsn.0 k.next_is.order subsequent;
    many = (
      k.next_is.many.0,
      many_step stage.first.identity stage.first.infos stage.first.versions (versioned stage.first.infos stage.history) stage.following new commit entry.now stage.lsn (records_of_stage stage) rs going.reading.follows_identity going.reading.follows_infos followed.steps followed.listed subsequent at_it in_force k.next_is.many.1,
    );
    cursors = subst (λ (l : List Record). AreRightCursors stage.first.identity stage.first.infos stage.first.versions (versioned stage.first.infos stage.history) l commit.lsn.0 new.cursors) (sym joined_is)
        (told_step stage.first.identity stage.first.infos stage.first.versions (versioned stage.first.infos stage.history) stage.following new commit entry.now stage.lsn (records_of_stage stage) rs going.reading.follows_identity going.reading.follows_infos followed.steps followed.listed subsequent at_it in_force k.next_is.cursors);
    confirmed_to = le_lt stage.confirmed.0 stage.lsn.0 commit.lsn.0 k.next_is.confirmed_to subsequent;
    marks = k.next_is.marks;
    distinct = k.next_is.distinct;
    infos = k.next_is.infos;
  }
    where
      never : (a b : ℕ) → a ≡ 0 → b < a → ⊥
      never a b is less = omega (arith, is, less)

      commit_place : IsPositionOf stage.history commit.lsn.0 → stage.lsn.0 < commit.lsn.0 → IsCommitAt stage.history commit.lsn.0
      commit_place (inl none) less = absurd (never commit.lsn.0 stage.lsn.0 none less)
      commit_place (inr at) less = at

  window_followed : IsWindowAt stage.first.infos stage.history (length (parts.old ++ read_at after)) new.window
  window_followed =
      subst (λ (n : ℕ). IsWindowAt stage.first.infos stage.history n new.window) (sym (read_count entry stage m commit new followed going parts))
      (window_step stage.first.infos stage.history (length (parts.old ++ read_at stage)) (raw_at entry stage m commit new followed going parts).0 commit (raw_at entry stage m commit new followed going parts).1 (raw_at entry stage m commit new followed going parts).2
      stage.first.incarnation stage.number (begun_after entry stage.first) k.own_marks k.small (read_le stage parts) stage.following.window new.window commit.body refl k.own_window (becomes entry stage m commit new followed going parts) k.window)

  own_followed : IsOwnWindow stage.first.incarnation stage.number new.window
  own_followed =
      own_step stage.first.infos stage.history (length (parts.old ++ read_at stage)) (raw_at entry stage m commit new followed going parts).0 commit (raw_at entry stage m commit new followed going parts).1 (raw_at entry stage m commit new followed going parts).2
      stage.first.incarnation stage.number (begun_after entry stage.first) k.own_marks k.small (read_le stage parts) stage.following.window new.window commit.body (becomes entry stage m commit new followed going parts) k.own_window

  pub kept_followed : (over : AllByRecursion (λ c. commit.lsn.0 < c.lsn.0) (comes entry stage m commit new followed going parts).rest) → KeepsStage entry after (parts_followed entry stage m commit new followed going parts over)
  kept_followed over = record {
    order = k.order;
    small = k.small;
    own_marks = k.own_marks;
    own_window = own_followed;
    window = window_followed;
    from = k.from;
    to = le_lt stage.stored.lsn.0 stage.lsn.0 commit.lsn.0 k.to subsequent;
    stored_is = stored_followed;
    next_is = next_followed;
    up = up_followed;
    adds = record {
      more = k.adds.more ++ rs;
      is = joined_is ∙ (ap (λ (l : List Record). l ++ rs) k.adds.is ∙ append_assoc (joined entry.groups) k.adds.more rs);
      above = subst (λ (l : List Record). AllByRecursion (λ (item : Record). stage.first.lsn.0 < item.position) (k.adds.more ++ l)) whole (adds_more entry stage parts k commit rs subsequent are_sent (length rs)).above;
      rise = subst (λ (l : List Record). PlacesRise (k.adds.more ++ l)) whole (adds_more entry stage parts k commit rs subsequent are_sent (length rs)).rise;
    };
    within = subst (λ (l : List Record). AllByRecursion (λ (item : Record). item.position ≤ commit.lsn.0) (k.adds.more ++ l)) whole (within_more entry stage parts k commit rs subsequent are_sent (length rs));
    grouped = subst (λ (l : List Record). stage.groups ++ cut l ≡ entry.groups ++ cut (k.adds.more ++ l)) whole (grouped_more entry stage parts k commit rs subsequent are_sent (length rs));
    near = near_followed;
    stand = k.stand;
  }

pub commits_keep_going : CommitsKeepGoing
commits_keep_going entry stage m commit new in_range since followed going =
    let counts = counted_step stage.first.infos entry.config.chunk stage.number going.reading.closed entry.history stage.history stage.first.cursors stage.following new commit followed.steps going.reading.counted in
    record {
      reading = record {
        began = going.reading.began;
        first_small = going.reading.first_small;
        of_session = going.reading.of_session;
        stored_later = going.reading.stored_later;
        no_fall = going.reading.no_fall;
        more = going.reading.more;
        grown = going.reading.grown;
        fit = going.reading.fit;
        infos = going.reading.infos;
        fields = (followed.fields, going.reading.fields);
        accepted = (followed.clean, going.reading.accepted);
        right = followed.right;
        follows_identity = followed.steps.identity ∙ going.reading.follows_identity;
        follows_infos = followed.steps.infos ∙ going.reading.follows_infos;
        cursors = cursors_step stage.first.infos stage.following new commit entry.now (records_by stage.following commit entry.now) going.reading.follows_infos followed.steps followed.listed going.reading.cursors;
        closed = counts.closed;
        counted = counts.is;
        told = told_on entry.groups stage.groups going.reading.closed counts.closed (records_by stage.following commit entry.now) (closing stage.following.window (mark_of commit)) (told_by stage.following commit entry.now followed.listed) counts.more going.reading.told;
      };
      placed = λ stood. record {
        position = position_followed entry stage m commit new followed going (going.placed stood).parts;
        parts = parts_followed entry stage m commit new followed going (going.placed stood).parts (over_rest entry stage m commit new followed going (going.placed stood).parts);
        awaited = awaited_followed entry stage m commit new followed going (going.placed stood).parts (going.placed stood).awaited;
      };
      kept = λ stood faithful. kept_followed entry stage m commit new in_range since followed going faithful stood (over_rest entry stage m commit new followed going (going.placed stood).parts);
    }
