-- A session that follows a commit: what its sink may have of it, and what it keeps after it.
use Rattle.std.proofs.Common.{◌≡◌, ◌∙◌, ◌⊎◌, ◌≤◌, ◌<◌, ℕ, max, Option, Some, None, List, [], ◌∷◌, ◌++◌, length, map, take, refl, sym, ap, subst, arith, append_assoc, le_refl}
use Rattle.std.specs.List.{AllByRecursion}
use Rattle.std.proofs.lemmas.List.{length-map}
use Rattle.dbl_pgmsg.specs.declared.messages.Message.{Message}
use Rattle.dbl_record.specs.declared.record.Record.{Record}
use Rattle.dbl_record.specs.Cuts.{joined}
use Rattle.dbl_model_table.specs.declared.identity.Identity.{Identity}
use Rattle.dbl_model_table.specs.declared.table.TableInfo.{TableInfo}
use Rattle.dbl_model_table.specs.declared.change.Commit.{Commit}
use Rattle.dbl_faithful.specs.ModelHistory.History.{AreRising, RawCommit}
use Rattle.dbl_faithful.specs.ModelHistory.Ranges.{IsMomentInRange}
use Rattle.dbl_faithful.specs.ModelHistory.Typed.{typed_commit}
use Rattle.dbl_faithful.proofs.ModelHistoryMomentLemmas.{lsns}
use Rattle.dbl_faithful.specs.ModelEvent.Events.{events_of}
use Rattle.dbl_faithful.specs.ModelEvent.EventJson.{print, envelopes}
use Rattle.dbl_faithful.specs.ModelEvent.Clashes.{clash_of}
use Rattle.dbl_faithful.proofs.ConsumeLawsNotices.{all_append}
use Rattle.dbl_faithful.specs.ToldEvents.{tell}
use Rattle.dbl_faithful.proofs.Items.{all_weaker}
use Rattle.dbl_capture_model.proofs.Rising.{all_above, rising_after, raw_next}
use Rattle.dbl_faithful.specs.Stores.{top_position}
use Rattle.dbl_faithful.specs.Faithful.{IsFaithful}
use Rattle.dbl_faithful.specs.Lag.{IsOffsetOf}
use Rattle.dbl_faithful.proofs.ConsumeLawsCommits.{fit_commits}
use Rattle.dbl_faithful.proofs.Offsets.{more_records_keep_offsets}
use Rattle.dbl_follow.specs.Window.Plans.{Chunk}
use Rattle.dbl_follow.specs.Followed.{Following}
use Rattle.dbl_follow.specs.Steps.{mark_of, clash_in, closing, records_of, records_by}
use Rattle.dbl_capture_model.specs.Entries.{SessionStart, StoodInLog, WasFaithful}
use Rattle.dbl_capture_model.specs.Stages.{Stage, records_of_stage, commits_at, read_at, far_at}
use Rattle.dbl_capture_model.specs.Delivered.{IsDelivered}
use Rattle.dbl_capture_model.specs.Going.{IsPlacedInHistory, KeepsStage, IsGoing}
use Rattle.dbl_capture_model.specs.Steps.{WasFollowed}
use Rattle.dbl_faithful.proofs.Splits.{RawNext, top_sent}
use Rattle.dbl_capture_model.proofs.Events.{take_whole}
use Rattle.dbl_capture_model.proofs.Sending.{IsNextOf, next_is, AreSent, records_are, at_commit, sent_up}
use Rattle.dbl_capture_model.proofs.Delivered.{far_on, commit_on, delivered_faithful}
use Rattle.dbl_capture_model.proofs.Ending.{up_of}
use Rattle.dbl_capture_model.proofs.Closing.{closing_up}

trans_le : (a b c : ℕ) → a ≤ b → b ≤ c → a ≤ c
trans_le a b c one two = omega (arith, one, two)

trans_lt : (a b c : ℕ) → a ≤ b → b < c → a < c
trans_lt a b c le lt = omega (arith, le, lt)

-- the greatest of an older position, an earlier one and a later one
far_lt : (a b c : ℕ) → b < c → max (max a b) c ≤ max a c
far_lt a b c lt = omega (arith, lt)

lt_le : (a b : ℕ) → a < b → a ≤ b
lt_le a b lt = omega (arith, lt)

right_max : (a b : ℕ) → b ≤ max a b
right_max a b = omega arith

module _ (entry : SessionStart) (stage : Stage) (m : Message) (commit : Commit) (new : Following) (in_range : IsMomentInRange entry.now) (followed : WasFollowed stage entry.now m commit new)
    (faithful : WasFaithful entry) (stood : StoodInLog entry) (going : IsGoing entry stage) where
  abbrev pub placed : IsPlacedInHistory stage
  placed = going.placed stood

  abbrev pub kept : KeepsStage entry stage (going.placed stood).parts
  kept = going.kept stood faithful

  abbrev pub before : List Commit
  before = (going.placed stood).parts.old ++ read_at stage

  abbrev pub rs : List Record
  rs = records_by stage.following commit entry.now

  abbrev pub next : IsNextOf (going.placed stood).parts.later commit
  next = next_is entry stage entry.now m commit new placed.parts going.reading followed

  pub over_all : AllByRecursion (λ c. stage.lsn.0 < c.lsn.0) (commit ∷ next.rest)
  over_all = subst (AllByRecursion (λ (c : Commit). stage.lsn.0 < c.lsn.0)) next.is placed.parts.over

  pub lt : stage.lsn.0 < commit.lsn.0
  lt = over_all.0

  pub spelled : commits_at stage ≡ before ++ commit ∷ next.rest
  spelled = placed.parts.spelled ∙ ap (λ (l : List Commit). before ++ l) next.is

  pub up : IsDelivered stage.first.identity stage.first.infos stage.history stage.first.start.0 stage.first.lsn.0 stage.lsn.0 (far_at entry stage) before (commit ∷ next.rest) 0 (records_of_stage stage)
  up = subst (λ (l : List Commit). IsDelivered stage.first.identity stage.first.infos stage.history stage.first.start.0 stage.first.lsn.0 stage.lsn.0 (far_at entry stage) before l 0 (records_of_stage stage)) next.is kept.up

  pub over_rest : AllByRecursion (λ c. commit.lsn.0 < c.lsn.0) next.rest
  over_rest = all_above commit.lsn.0 next.rest (rising_after 0 before commit next.rest (subst (λ (l : List Commit). AreRising 0 (lsns l)) spelled (fit_commits stage.history stage.first.infos going.reading.fit going.reading.infos).rise))

  -- the history has it after the commits that were followed
  pub raw : RawNext kept.near.later commit.lsn.0
  raw =
      raw_next stage.first.infos stage.lsn.0 (kept.near.before ++ kept.near.since) kept.near.later before commit next.rest
      (ap (map (typed_commit stage.first.infos)) (append_assoc kept.near.before kept.near.since kept.near.later ∙ sym kept.near.spelled) ∙ spelled)
      (all_append (λ (c : RawCommit). c.lsn.0 ≤ stage.lsn.0) kept.near.before kept.near.since
      (all_weaker (λ (c : RawCommit). c.lsn.0 ≤ stage.stored.lsn.0) (λ (c : RawCommit). c.lsn.0 ≤ stage.lsn.0) kept.near.before (λ c le. trans_le c.lsn.0 stage.stored.lsn.0 stage.lsn.0 le kept.to) kept.near.settled) kept.near.followed)
      kept.near.over placed.parts.under over_all over_rest

  pub sent : AreSent commit rs
  sent = records_are stage entry.now m commit new followed

  -- ---- a log with some first records of it

  pub record SentUp (n : ℕ) : Type 0 where
    pub high : ℕ
    pub front : List Commit
    pub back : List Commit
    pub count : ℕ
    pub upper : stage.lsn.0 ≤ high
    pub is : IsDelivered stage.first.identity stage.first.infos stage.history stage.first.start.0 stage.first.lsn.0 high (max (top_position (joined entry.groups)) commit.lsn.0) front back count (records_of_stage stage ++ take n rs)
    -- all of them
    pub whole : n ≡ length rs → IsDelivered stage.first.identity stage.first.infos stage.history stage.first.start.0 stage.first.lsn.0 commit.lsn.0 (max (top_position (joined entry.groups)) commit.lsn.0) (before ++ commit ∷ []) next.rest 0 (records_of_stage stage ++ take n rs)

  told_long : (infos : List TableInfo) (identity : Identity) → length (envelopes identity infos commit entry.now) ≡ length (map (tell commit) (events_of infos commit))
  told_long infos identity = length-map (events_of infos commit) (print identity commit entry.now) ∙ sym (length-map (events_of infos commit) (tell commit))

  pub sent_all : (n : ℕ) → SentUp n
  sent_all n = by (closing stage.following.window (mark_of commit)) refl
    where
      clear : (o : Option Chunk) → closing stage.following.window (mark_of commit) ≡ o → clash_in stage.following o commit ≡ None
      clear o is = ap (λ (x : Option Chunk). clash_in stage.following x commit) (sym is) ∙ followed.no_clash

      own : rs ≡ envelopes stage.following.identity stage.following.infos commit entry.now → rs ≡ envelopes stage.first.identity stage.first.infos commit entry.now
      own is = is ∙ (ap (λ (i : Identity). envelopes i stage.following.infos commit entry.now) going.reading.follows_identity ∙ ap (λ (infos : List TableInfo). envelopes stage.first.identity infos commit entry.now) going.reading.follows_infos)

      by : (o : Option Chunk) → closing stage.following.window (mark_of commit) ≡ o → SentUp n
      by None is =
          let same : rs ≡ envelopes stage.first.identity stage.first.infos commit entry.now = own (ap (λ (o : Option Chunk). records_of stage.following o commit entry.now) is) in
          let clean : clash_of stage.first.identity stage.first.infos commit ≡ None =
          ap (λ (i : Identity). clash_of i stage.first.infos commit) (sym going.reading.follows_identity) ∙ (ap (λ (infos : List TableInfo). clash_of stage.following.identity infos commit) (sym going.reading.follows_infos) ∙ clear None is) in
          let E : List Record = envelopes stage.first.identity stage.first.infos commit entry.now in
          let some : IsDelivered stage.first.identity stage.first.infos stage.history stage.first.start.0 stage.first.lsn.0 stage.lsn.0 (max (top_position (joined entry.groups)) commit.lsn.0) before (commit ∷ next.rest) (length (take n E)) (records_of_stage stage ++ take n rs) =
          far_on stage.first.identity stage.first.infos stage.history going.reading.fit going.reading.infos stage.first.start.0 stage.first.lsn.0 stage.lsn.0 (max (far_at entry stage) commit.lsn.0) (max (top_position (joined entry.groups)) commit.lsn.0) before (commit ∷ next.rest) (length (take n E)) (records_of_stage stage ++ take n rs)
          (far_lt (top_position (joined entry.groups)) stage.lsn.0 commit.lsn.0 lt)
          (subst (λ (l : List Record). IsDelivered stage.first.identity stage.first.infos stage.history stage.first.start.0 stage.first.lsn.0 stage.lsn.0 (max (far_at entry stage) commit.lsn.0) before (commit ∷ next.rest) (length (take n E)) (records_of_stage stage ++ take n l)) (sym same)
          (sent_up stage going.reading.fit going.reading.infos stage.first.lsn.0 stage.lsn.0 (far_at entry stage) before commit next.rest (records_of_stage stage) entry.now n in_range clean up)) in
          record {
            high = stage.lsn.0;
            front = before;
            back = commit ∷ next.rest;
            count = length (take n E);
            upper = le_refl stage.lsn.0;
            is = some;
            whole = λ all. (
                let long : length rs ≡ length E = ap length same in
                commit_on stage.first.identity stage.first.infos stage.history going.reading.fit going.reading.infos stage.first.start.0 stage.first.lsn.0 stage.lsn.0 (max (top_position (joined entry.groups)) commit.lsn.0) before commit next.rest (length (take n E)) (records_of_stage stage ++ take n rs) some
                (ap (λ (k : ℕ). length (take k E)) (all ∙ long) ∙ (ap length (take_whole E) ∙ told_long stage.first.infos stage.first.identity)));
          }
      by (Some chunk) is =
          let closed : IsDelivered stage.first.identity stage.first.infos stage.history stage.first.start.0 stage.first.lsn.0 commit.lsn.0 (max (top_position (joined entry.groups)) commit.lsn.0) (before ++ commit ∷ []) next.rest 0 (records_of_stage stage ++ take n rs) =
          far_on stage.first.identity stage.first.infos stage.history going.reading.fit going.reading.infos stage.first.start.0 stage.first.lsn.0 commit.lsn.0 commit.lsn.0 (max (top_position (joined entry.groups)) commit.lsn.0) (before ++ commit ∷ []) next.rest 0 (records_of_stage stage ++ take n rs)
          (right_max (top_position (joined entry.groups)) commit.lsn.0)
          (closing_up entry stage m commit new in_range followed faithful stood going chunk is next.rest spelled over_all up n) in
          record { high = commit.lsn.0; front = before ++ commit ∷ []; back = next.rest; count = 0; upper = lt_le stage.lsn.0 commit.lsn.0 lt; is = closed; whole = λ all. closed }

  -- how far its records reach
  pub top_more : (n : ℕ) → (top_position (records_of_stage stage ++ take n rs) ≤ commit.lsn.0) ⊎ (top_position (records_of_stage stage ++ take n rs) ≡ top_position (joined entry.groups))
  top_more n =
      top_sent (records_of_stage stage) (take n rs) (top_position (joined entry.groups)) stage.lsn.0 commit.lsn.0 lt
      (all_weaker (λ (item : Record). item.position ≡ commit.lsn.0) (λ (item : Record). item.position ≤ commit.lsn.0) (take n rs) (λ item is. same_le item.position commit.lsn.0 is) (at_commit entry stage placed.parts kept commit rs lt sent n)) kept.near.top
    where
      same_le : (a b : ℕ) → a ≡ b → a ≤ b
      same_le a b is = omega (arith, is)

  -- the stored offset beside them
  pub stored_more : (n : ℕ) → IsOffsetOf stage.history stage.confirmed (records_of_stage stage ++ take n rs) stage.stored
  stored_more n =
      (more_records_keep_offsets stage.history stage.confirmed (records_of_stage stage) (take n rs) stage.stored
      (all_weaker (λ (item : Record). item.position ≡ commit.lsn.0) (λ (item : Record). stage.stored.lsn.0 ≤ item.position) (take n rs) (λ item is. at_le stage.stored.lsn.0 stage.lsn.0 commit.lsn.0 item.position kept.to lt is) (at_commit entry stage placed.parts kept commit rs lt sent n))).0 kept.stored_is
    where
      at_le : (a b c d : ℕ) → a ≤ b → b < c → d ≡ c → a ≤ d
      at_le a b c d one two is = omega (arith, one, two, is)

  pub faithful_more : (n : ℕ) → IsFaithful stage.history stage.confirmed (records_of_stage stage ++ take n rs) (Some stage.stored)
  faithful_more n =
      let all = sent_all n in
      delivered_faithful stage.history stage.confirmed (records_of_stage stage ++ take n rs) stage.stored stage.first.lsn.0 all.high (max (top_position (joined entry.groups)) commit.lsn.0) all.front all.back all.count
      kept.from (trans_le stage.stored.lsn.0 stage.lsn.0 all.high kept.to all.upper) (stored_more n)
      (up_of stage.first stage.stored stage.history stage.first.lsn.0 all.high (max (top_position (joined entry.groups)) commit.lsn.0) all.front all.back all.count (records_of_stage stage ++ take n rs) going.reading.of_session all.is)
