-- What a session keeps while the source's history goes on.
use Rattle.std.proofs.Common.{◌≡◌, ◌∙◌, ◌≤◌, ◌<◌, ℕ, max, true, Option, Some, None, List, [], ◌∷◌, ◌++◌, map, refl, sym, ap, subst, arith, append_assoc}
use Rattle.std.specs.Prelude.{nat_lt, slice_get}
use Rattle.std.specs.List.{AllByRecursion}
use Rattle.std.proofs.lemmas.Bool.Decides.{nat_tests}
use Rattle.std.proofs.lemmas.List.Elements.{filter-append}
use Rattle.dbl_base.specs.declared.lsn.Lsn.{Lsn}
use Rattle.dbl_record.specs.declared.record.Record.{Record}
use Rattle.dbl_record.specs.Cuts.{joined}
use Rattle.dbl_model_table.specs.declared.table.TableInfo.{TableInfo}
use Rattle.dbl_model_table.specs.declared.change.Commit.{Commit}
use Rattle.dbl_faithful.specs.ModelHistory.History.{RawCommit, History}
use Rattle.dbl_faithful.specs.ModelHistory.Fit.{AreInfosOf, IsFitHistory}
use Rattle.dbl_faithful.specs.ModelHistory.Typed.{typed_commit}
use Rattle.dbl_faithful.proofs.ConsumeLawsNotices.{all_append}
use Rattle.dbl_follow.specs.SourceModel.Stated.{commits_after, to_state, ReadsRight}
use Rattle.dbl_follow.proofs.SourceModelReadLemmas.{right_more}
use Rattle.dbl_faithful.specs.Offset.declared.offset.Offset.{Offset}
use Rattle.dbl_faithful.proofs.Items.{all_weaker, filter_whole, zip_weaker}
use Rattle.dbl_faithful.specs.Stores.{IsCommitAt, IsPositionOf, top_position}
use Rattle.dbl_faithful.specs.Lag.{IsMarkedBy, IsDescribedAt, IsOffsetOf}
use Rattle.dbl_faithful.specs.Kept.{HasGrown}
use Rattle.dbl_faithful.proofs.Longer.{still_described, longer_histories_keep_offsets}
use Rattle.dbl_capture_model.specs.Entries.{SessionStart}
use Rattle.dbl_capture_model.specs.Stages.{Stage, records_of_stage, commits_at, read_at, PartsHistory, far_at}
use Rattle.dbl_capture_model.specs.Delivered.{IsDelivered}
use Rattle.dbl_capture_model.specs.Going.{IsUnstarted, IsFirstOf, IsNear}
use Rattle.dbl_faithful.proofs.Lists.{longer, map_append, after_position, after_top, still_position}
use Rattle.dbl_capture_model.proofs.Rising.{typed_more}
use Rattle.dbl_capture_model.proofs.Delivered.{longer_on}

-- ---- what names no stage

-- what messages have to state of a longer history
pub state_longer : (infos : List TableInfo) (after : Lsn) (history : History) (more : List RawCommit)
    → to_state infos after (longer history more) ≡ to_state infos after history ++ map (typed_commit infos) (commits_after after more)
state_longer infos after history more =
    ap (map (typed_commit infos)) (filter-append (λ (commit : RawCommit). nat_lt after.0 commit.lsn.0) history.commits more)
    ∙ map_append (typed_commit infos) (commits_after after history.commits) (commits_after after more)

pub unstarted_longer : (history : History) (more : List RawCommit) (first : Offset) → IsUnstarted history first → IsUnstarted (longer history more) first
unstarted_longer history more first is = record {
  at_start = is.at_start;
  unread = is.unread;
  distinct = is.distinct;
  infos = zip_weaker (IsDescribedAt history) (IsDescribedAt (longer history more)) first.infos first.versions (λ info version described. still_described history more info version described) is.infos;
}

-- a first offset stays one
pub first_longer : (entry : SessionStart) (history : History) (more : List RawCommit) (first : Offset) (offset : Option Offset) → IsFirstOf entry history first offset → IsFirstOf entry (longer history more) first offset
first_longer entry history more first None is = (
  record { identity = is.0.identity; tables = is.0.tables; start = still_position history more first.start.0 is.0.start; not_before = is.0.not_before; incarnation = is.0.incarnation },
  unstarted_longer history more first is.1,
)
first_longer entry history more first (Some old) is = is

-- what is confirmed may change, as long as it isn't after the LSN
pub confirmed_so : (history : History) (confirmed other : Lsn) (records : List Record) (offset : Offset) → other.0 ≤ offset.lsn.0 → IsOffsetOf history confirmed records offset → IsOffsetOf history other records offset
confirmed_so history confirmed other records offset le is = record {
  start = is.start;
  lsn = is.lsn;
  order = is.order;
  cursors = is.cursors;
  confirmed_to = le;
  marks = is.marks;
  many = is.many;
  distinct = is.distinct;
  infos = is.infos;
}

passes : (a b c : ℕ) → a ≤ b → b < c → nat_lt a c ≡ true
passes a b c le lt = grind (arith, nat_tests, le, lt)

grown_self : (history : History) (more : List RawCommit) → HasGrown history (longer history more) more
grown_self history more = record { tables = refl; commits = refl }

-- ---- a stage

module _ (entry : SessionStart) (stage : Stage) (more : List RawCommit) (fit : IsFitHistory (longer stage.history more)) where
  abbrev pub later_stage : Stage
  later_stage = record stage { history = longer stage.history more }

  abbrev pub new : List Commit
  new = map (typed_commit stage.first.infos) more

  pub list : commits_at later_stage ≡ commits_at stage ++ new
  list = map_append (typed_commit stage.first.infos) stage.history.commits more

  pub reads_longer : ReadsRight stage.first.infos stage.first.lsn (to_state stage.first.infos stage.first.lsn stage.history) stage.messages
      → ReadsRight stage.first.infos stage.first.lsn (to_state stage.first.infos stage.first.lsn (longer stage.history more)) stage.messages
  reads_longer right =
      subst (λ (l : List Commit). ReadsRight stage.first.infos stage.first.lsn l stage.messages) (sym (state_longer stage.first.infos stage.first.lsn stage.history more))
      (right_more stage.first.infos stage.first.lsn (to_state stage.first.infos stage.first.lsn stage.history) (map (typed_commit stage.first.infos) (commits_after stage.first.lsn more)) stage.messages right)

  pub over_lsn : IsPositionOf stage.history stage.lsn.0 → AllByRecursion (λ c. stage.lsn.0 < c.lsn.0) new
  over_lsn at = typed_more stage.first.infos (λ n. stage.lsn.0 < n) more (after_position stage.history more fit.rising stage.lsn.0 at)

  all_after : IsPositionOf stage.history stage.lsn.0 → stage.first.lsn.0 ≤ stage.lsn.0 → commits_after stage.first.lsn more ≡ more
  all_after at le =
      filter_whole (λ (commit : RawCommit). nat_lt stage.first.lsn.0 commit.lsn.0) more
      (all_weaker (λ (c : RawCommit). stage.lsn.0 < c.lsn.0) (λ (c : RawCommit). nat_lt stage.first.lsn.0 c.lsn.0 ≡ true) more (λ c lt. passes stage.first.lsn.0 stage.lsn.0 c.lsn.0 le lt)
      (after_position stage.history more fit.rising stage.lsn.0 at))

  pub stated_longer : IsPositionOf stage.history stage.lsn.0 → stage.first.lsn.0 ≤ stage.lsn.0 → (later : List Commit) → to_state stage.first.infos stage.first.lsn stage.history ≡ read_at stage ++ later
      → to_state stage.first.infos stage.first.lsn (longer stage.history more) ≡ read_at stage ++ (later ++ new)
  stated_longer at le later is =
      state_longer stage.first.infos stage.first.lsn stage.history more
      ∙ (ap (λ (l : List RawCommit). to_state stage.first.infos stage.first.lsn stage.history ++ map (typed_commit stage.first.infos) l) (all_after at le)
      ∙ (ap (λ (l : List Commit). l ++ new) is ∙ append_assoc (read_at stage) later new))

  abbrev pub parts_longer : IsPositionOf stage.history stage.lsn.0 → PartsHistory stage → PartsHistory later_stage
  parts_longer at parts = record {
    old = parts.old;
    later = parts.later ++ new;
    spelled = list ∙ (ap (λ (l : List Commit). l ++ new) parts.spelled ∙ append_assoc (parts.old ++ read_at stage) parts.later new);
    stated = stated_longer at parts.order parts.later parts.stated;
    last = parts.last;
    under = parts.under;
    over = all_append (λ (c : Commit). stage.lsn.0 < c.lsn.0) parts.later new parts.over (over_lsn at);
    order = parts.order;
  }

  -- ---- what faithful stores make of it

  module _ (parts : PartsHistory stage) (marks : AllByRecursion (λ commit. IsMarkedBy stage.first.incarnation commit.body) more) (at : IsPositionOf stage.history stage.lsn.0) where
    pub offset_longer : (offset : Offset) → offset.incarnation ≡ stage.first.incarnation → IsOffsetOf stage.history stage.confirmed (records_of_stage stage) offset → IsOffsetOf (longer stage.history more) stage.confirmed (records_of_stage stage) offset
    offset_longer offset same is =
        (longer_histories_keep_offsets stage.history (longer stage.history more) more stage.confirmed (records_of_stage stage) offset (grown_self stage.history more) fit.rising
        (subst (λ (n : ℕ). AllByRecursion (λ (commit : RawCommit). IsMarkedBy n commit.body) more) (sym same) marks)).0 is

    both_over : AllByRecursion (λ commit. top_position (joined entry.groups) < commit.lsn.0) more → AllByRecursion (λ commit. stage.lsn.0 < commit.lsn.0) more → AllByRecursion (λ commit. far_at entry stage < commit.lsn.0) more
    both_over one two = both more one two
      where
        greatest : (a b c : ℕ) → a < c → b < c → max a b < c
        greatest a b c left right = omega (arith, left, right)

        both : (cs : List RawCommit) → AllByRecursion (λ commit. top_position (joined entry.groups) < commit.lsn.0) cs → AllByRecursion (λ commit. stage.lsn.0 < commit.lsn.0) cs → AllByRecursion (λ commit. far_at entry stage < commit.lsn.0) cs
        both [] first second = tt
        both (c ∷ cs) first second = (greatest (top_position (joined entry.groups)) stage.lsn.0 c.lsn.0 first.0 second.0, both cs first.1 second.1)

    pub up_longer : IsFitHistory stage.history → AreInfosOf stage.history stage.first.infos → AreInfosOf (longer stage.history more) stage.first.infos
        → ((place : ℕ) (item : Record) → slice_get (joined entry.groups) place ≡ Some item → IsCommitAt stage.history item.position)
        → IsDelivered stage.first.identity stage.first.infos stage.history stage.first.start.0 stage.first.lsn.0 stage.lsn.0 (far_at entry stage) (parts.old ++ read_at stage) parts.later 0 (records_of_stage stage)
        → IsDelivered stage.first.identity stage.first.infos (longer stage.history more) stage.first.start.0 stage.first.lsn.0 stage.lsn.0 (far_at entry stage) (parts.old ++ read_at stage) (parts.later ++ new) 0 (records_of_stage stage)
    up_longer fit_old infos_old infos stand up =
        longer_on stage.first.identity stage.first.infos stage.history fit_old infos_old stage.first.start.0 stage.first.lsn.0 more fit infos stage.lsn.0 (far_at entry stage) (parts.old ++ read_at stage) parts.later 0 (records_of_stage stage)
        (both_over (after_top stage.history more fit.rising (joined entry.groups) stand) (after_position stage.history more fit.rising stage.lsn.0 at)) (after_position stage.history more fit.rising stage.lsn.0 at) up

    pub near_longer : IsNear entry stage → IsNear entry later_stage
    near_longer near = record {
      before = near.before;
      since = near.since;
      later = near.later ++ more;
      spelled = ap (λ (l : List RawCommit). l ++ more) near.spelled ∙ (append_assoc near.before (near.since ++ near.later) more ∙ ap (λ (l : List RawCommit). near.before ++ l) (append_assoc near.since near.later more));
      settled = near.settled;
      followed = near.followed;
      many = near.many;
      over = all_append (λ (c : RawCommit). stage.lsn.0 < c.lsn.0) near.later more near.over (after_position stage.history more fit.rising stage.lsn.0 at);
      few = near.few;
      top = near.top;
    }
