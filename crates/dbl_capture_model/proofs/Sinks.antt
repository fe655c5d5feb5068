-- A sink that ends a session: it has some first records of the commit that was to be followed.
use Rattle.std.proofs.Common.{◌≡◌, ◌∙◌, ◌⊎◌, inl, inr, ◌+◌, ◌≤◌, ◌<◌, ℕ, max, Option, Some, None, List, [], ◌∷◌, ◌++◌, length, refl, sym, ap, subst, arith, append_assoc, append-nil, length-append, take}
use Rattle.std.specs.List.{AllByRecursion}
use Rattle.dbl_base.specs.declared.lsn.Lsn.{Lsn}
use Rattle.dbl_pgmsg.specs.declared.messages.Message.{Message}
use Rattle.dbl_record.specs.declared.record.Record.{Record}
use Rattle.dbl_record.specs.Cuts.{cut, joined}
use Rattle.dbl_model_table.specs.declared.change.Commit.{Commit}
use Rattle.dbl_faithful.specs.ModelHistory.History.{RawCommit, History, IsRising}
use Rattle.dbl_faithful.specs.ModelHistory.Ranges.{IsMomentInRange}
use Rattle.dbl_faithful.specs.Offset.declared.offset.Offset.{Offset}
use Rattle.dbl_faithful.specs.Stores.{top_position, lag}
use Rattle.dbl_faithful.specs.Faithful.{IsFaithful}
use Rattle.dbl_faithful.proofs.Faithful.{faithful_records_stand}
use Rattle.dbl_follow.specs.Followed.{Following}
use Rattle.dbl_follow.specs.Steps.{records_by}
use Rattle.dbl_capture_model.specs.Entries.{SessionStart, WasFaithful}
use Rattle.dbl_capture_model.specs.Stages.{Stage, records_of_stage}
use Rattle.dbl_capture_model.specs.Going.{IsFirstOf, IsPlacedInHistory, KeepsStage, IsGoing}
use Rattle.dbl_capture_model.specs.Steps.{WasFollowed}
use Rattle.dbl_capture_model.specs.Exits.{SinksMayEnd}
use Rattle.dbl_capture_model.specs.Outcomes.{FollowsSession}
use Rattle.dbl_faithful.proofs.Lists.{longer, is_longer, after_top}
use Rattle.dbl_faithful.proofs.Splits.{RawNext}
use Rattle.dbl_capture_model.proofs.Sending.{AreSent, adds_more, grouped_more, joined_more}
use Rattle.dbl_capture_model.proofs.Ending.{stood_of, rising_front, offset_goes, appends_so, lag_near, lag_far}
use Rattle.dbl_capture_model.proofs.Following.{lt, raw, sent, top_more, faithful_more}

zero_le : (a b c : ℕ) → a ≡ b → b ≡ 0 → a ≤ c
zero_le a b c one two = omega (arith, one, two)

le_on : (a b c : ℕ) → a ≤ b → b ≤ c → a ≤ c
le_on a b c one two = omega (arith, one, two)

same_le : (a b : ℕ) → a ≡ b → b ≤ a
same_le a b is = omega (arith, is)

one_more : (a b c d : ℕ) → a ≡ b + 1 → b ≡ c → c < d → a ≤ d
one_more a b c d is same lt = omega (arith, is, same, lt)

-- nothing grew
pub itself : (history : History) → history ≡ longer history []
itself history = is_longer history history [] (record { tables = refl; commits = sym (append-nil history.commits) })

-- Of the log with these records no more is repeated than before, where it reaches as far as it did.
pub far_still : (entry : SessionStart) (stage : Stage) (going : IsGoing entry stage) (records : List Record) (offset : Offset) (old : Option Offset) → IsFaithful entry.history entry.confirmed (joined entry.groups) old → IsFirstOf entry stage.history stage.first old
    → stage.first.lsn.0 ≤ offset.lsn.0 → top_position records ≡ top_position (joined entry.groups)
    → (top_position records ≤ 0 → lag stage.history records (Some offset) ≤ max entry.config.every (lag entry.history (joined entry.groups) old))
    → lag stage.history records (Some offset) ≤ max entry.config.every (lag entry.history (joined entry.groups) old)
far_still entry stage going records offset None is began le top near = near (zero_le (top_position records) (top_position (joined entry.groups)) 0 top (ap top_position is.empty))
far_still entry stage going records offset (Some old) is began le top near =
    let grown : stage.history ≡ longer entry.history going.reading.more = is_longer entry.history stage.history going.reading.more going.reading.grown in
    let rise : IsRising (longer entry.history going.reading.more) = subst IsRising grown going.reading.fit.rising in
    lag_far entry.history stage.history going.reading.more (joined entry.groups) records old offset entry.config.every (rising_front 0 entry.history.commits going.reading.more rise) going.reading.grown.commits
    (after_top entry.history going.reading.more rise (joined entry.groups) (λ place item at. faithful_records_stand entry.history entry.confirmed (joined entry.groups) old place item is at)) top
    (le_on old.lsn.0 stage.first.lsn.0 offset.lsn.0 (same_le stage.first.lsn.0 old.lsn.0 (ap (λ (l : Lsn). l.0) began.0.lsn)) le)

module _ (entry : SessionStart) (stage : Stage) (m : Message) (commit : Commit) (new : Following) (in_range : IsMomentInRange entry.now) (followed : WasFollowed stage entry.now m commit new)
    (faithful : WasFaithful entry) (going : IsGoing entry stage) (since : stage.since < entry.config.every) (n : ℕ) where
  abbrev p : IsPlacedInHistory stage
  p = going.placed (stood_of entry faithful)

  abbrev k : KeepsStage entry stage (going.placed (stood_of entry faithful)).parts
  k = going.kept (stood_of entry faithful) faithful

  abbrev some : List Record
  some = take n (records_by stage.following commit entry.now)

  subsequent : stage.lsn.0 < commit.lsn.0
  subsequent = lt entry stage m commit new in_range followed faithful (stood_of entry faithful) going

  are_sent : AreSent commit (records_by stage.following commit entry.now)
  are_sent = sent entry stage m commit new in_range followed faithful (stood_of entry faithful) going

  joined_is : joined (stage.groups ++ cut some) ≡ records_of_stage stage ++ some
  joined_is = joined_more entry stage p.parts k commit (records_by stage.following commit entry.now) subsequent are_sent n

  all_is : records_of_stage stage ++ some ≡ joined entry.groups ++ (k.adds.more ++ some)
  all_is = (adds_more entry stage p.parts k commit (records_by stage.following commit entry.now) subsequent are_sent n).is

  next_raw : RawNext k.near.later commit.lsn.0
  next_raw = raw entry stage m commit new in_range followed faithful (stood_of entry faithful) going

  -- the commit is one of those that may be repeated
  near_more : top_position (records_of_stage stage ++ some) ≤ commit.lsn.0 → lag stage.history (records_of_stage stage ++ some) (Some stage.stored) ≤ max entry.config.every (lag entry.history (joined entry.groups) entry.offset)
  near_more top =
      lag_near stage.history (records_of_stage stage ++ some) stage.stored k.near.before (k.near.since ++ next_raw.raw ∷ []) next_raw.rest commit.lsn.0 entry.config.every (lag entry.history (joined entry.groups) entry.offset)
      (k.near.spelled ∙ ap (λ (l : List RawCommit). k.near.before ++ l) (ap (λ (l : List RawCommit). k.near.since ++ l) next_raw.is ∙ sym (append_assoc k.near.since (next_raw.raw ∷ []) next_raw.rest)))
      k.near.settled next_raw.over top
      (one_more (length (k.near.since ++ next_raw.raw ∷ [])) (length k.near.since) stage.since entry.config.every (length-append k.near.since (next_raw.raw ∷ [])) k.near.many since)

  lag_more : lag stage.history (records_of_stage stage ++ some) (Some stage.stored) ≤ max entry.config.every (lag entry.history (joined entry.groups) entry.offset)
  lag_more = by (top_more entry stage m commit new in_range followed faithful (stood_of entry faithful) going n)
    where
      none : (a b : ℕ) → a ≤ 0 → a ≤ b
      none a b le = omega (arith, le)

      by : (top_position (records_of_stage stage ++ some) ≤ commit.lsn.0) ⊎ (top_position (records_of_stage stage ++ some) ≡ top_position (joined entry.groups))
          → lag stage.history (records_of_stage stage ++ some) (Some stage.stored) ≤ max entry.config.every (lag entry.history (joined entry.groups) entry.offset)
      by (inl low) = near_more low
      by (inr far) = far_still entry stage going (records_of_stage stage ++ some) stage.stored entry.offset faithful going.reading.began k.from far (λ least. near_more (none (top_position (records_of_stage stage ++ some)) commit.lsn.0 least))

  pub sink_ends : FollowsSession entry (record { history = stage.history; confirmed = stage.confirmed }) (stage.groups ++ cut some) (Some stage.stored)
  sink_ends = record {
    faithful = subst (λ (l : List Record). IsFaithful stage.history stage.confirmed l (Some stage.stored)) (sym joined_is) (faithful_more entry stage m commit new in_range followed faithful (stood_of entry faithful) going n);
    onward = record {
      tables = going.reading.grown.tables;
      commits = record { more = going.reading.more; is = going.reading.grown.commits };
      records = record { more = k.adds.more ++ some; is = joined_is ∙ all_is };
      offset = offset_goes entry stage.history stage.history [] stage.first stage.stored entry.offset (itself stage.history) going.reading.began going.reading.of_session k.from going.reading.stored_later;
    };
    no_fall = going.reading.no_fall;
    adds = record {
      more = k.adds.more ++ some;
      is = joined_is ∙ all_is;
      above = subst (λ (position : ℕ). AllByRecursion (λ (item : Record). position < item.position) (k.adds.more ++ some)) (sym (appends_so entry stage.history stage.first stage.stored entry.offset going.reading.began going.reading.of_session))
          (adds_more entry stage p.parts k commit (records_by stage.following commit entry.now) subsequent are_sent n).above;
      rise = (adds_more entry stage p.parts k commit (records_by stage.following commit entry.now) subsequent are_sent n).rise;
    };
    grouped = grouped_more entry stage p.parts k commit (records_by stage.following commit entry.now) subsequent are_sent n;
    lag_is = subst (λ (l : List Record). lag stage.history l (Some stage.stored) ≤ max entry.config.every (lag entry.history (joined entry.groups) entry.offset)) (sym joined_is) lag_more;
  }

pub sinks_may_end : SinksMayEnd
sinks_may_end entry stage m commit new n faithful in_range since followed going = sink_ends entry stage m commit new in_range followed faithful going since n
