-- A session that begins: it has stored its first offset, and nothing was read.
use Rattle.std.proofs.Common.{◌≡◌, ◌∙◌, inl, inr, ◌+◌, ◌*◌, ◌≤◌, ◌<◌, ◌^◌, ℕ, max, Bool, true, false, cond, Option, Some, None, List, [], ◌∷◌, ◌++◌, length, map, refl, sym, ap, subst, arith, lit<, append-nil, le_refl}
use Rattle.std.specs.Prelude.{IfSome, nat_lt, slice_get}
use Rattle.std.specs.List.{AllByRecursion}
use Rattle.std.proofs.lemmas.Bool.Decides.{nat_tests}
use Rattle.dbl_base.specs.declared.lsn.Lsn.{Lsn}
use Rattle.dbl_record.specs.Cuts.{joined}
use Rattle.dbl_model_table.specs.declared.change.Commit.{Commit}
use Rattle.dbl_faithful.specs.ModelHistory.History.{RawBody, RawCommit, History}
use Rattle.dbl_faithful.specs.ModelHistory.History as raw
use Rattle.dbl_faithful.specs.ModelHistory.Fit.{AreInfosOf, IsFitHistory}
use Rattle.dbl_faithful.specs.ModelHistory.MarkTexts.{Side, mark_text}
use Rattle.dbl_faithful.proofs.ModelHistoryMarkLemmas.{marks_tell}
use Rattle.dbl_faithful.proofs.ConsumeLawsNotices.{all_append}
use Rattle.dbl_follow.specs.SourceModel.Growth.{HasChanges, Grows, marks_in}
use Rattle.dbl_follow.specs.SourceModel.Stated.{commits_after, to_state}
use Rattle.dbl_follow.proofs.SourceModelGrowthLemmas.{grows_none, no_mark_more}
use Rattle.dbl_follow.proofs.SourceModelReadLemmas.{parts_at}
use Rattle.dbl_faithful.specs.Offset.declared.offset.Offset.{Offset}
use Rattle.dbl_consume_courses.specs.Versions.{plain_commit}
use Rattle.dbl_faithful.proofs.Items.{at_all, all_weaker}
use Rattle.dbl_faithful.proofs.Plainly.{commits_are, to_plain}
use Rattle.dbl_faithful.specs.Stores.{IsPositionOf, StandTogether, top_position, repeated}
use Rattle.dbl_faithful.specs.Lag.{IsMarkedBy}
use Rattle.dbl_faithful.specs.Faithful.{HasNoMark, IsFaithful, IsFaithfulTo}
use Rattle.dbl_faithful.specs.Laws.{BeginsCaughtUp}
use Rattle.dbl_faithful.proofs.Faithful.{faithful_stores_are_caught_up, faithful_records_stand}
use Rattle.dbl_faithful.proofs.StorePositions.{repeated_commits_stand_together}
use Rattle.dbl_capture_model.specs.Entries.{SessionStart, WasFaithful}
use Rattle.dbl_capture_model.specs.Stages.{Stage, PartsHistory}
use Rattle.dbl_capture_model.specs.Delivered.{IsDelivered}
use Rattle.dbl_capture_model.specs.Counted.{ended_of}
use Rattle.dbl_capture_model.specs.Going.{IsFirstOf, BeganWith, KeepsStage}
use Rattle.dbl_capture_model.specs.Steps.{SessionsBegin, begun_at, following_of}
use Rattle.dbl_capture_model.proofs.LaterCursors.{cursors_stay}
use Rattle.dbl_faithful.proofs.Lists.{is_longer, map_append, still_position}
use Rattle.dbl_capture_model.proofs.Rising.{typed_more, split_once, split_front}
use Rattle.dbl_capture_model.proofs.Delivered.{far_on}
use Rattle.dbl_capture_model.proofs.Beginning.{begun}

-- ---- where reading begins

pub over_after : (after : Lsn) (cs : List RawCommit) → AllByRecursion (λ commit. after.0 < commit.lsn.0) (commits_after after cs)
over_after after [] = tt
over_after after (c ∷ cs) = by (over_after after cs) (nat_lt after.0 c.lsn.0) refl
  where
    passes : nat_lt after.0 c.lsn.0 ≡ true → after.0 < c.lsn.0
    passes is = grind (arith, nat_tests)

    by : AllByRecursion (λ commit. after.0 < commit.lsn.0) (commits_after after cs) → (b : Bool) → nat_lt after.0 c.lsn.0 ≡ b → AllByRecursion (λ commit. after.0 < commit.lsn.0) (cond b (c ∷ commits_after after cs) (commits_after after cs))
    by rest true is = (passes is, rest)
    by rest false is = rest

abbrev stage_of : SessionStart → History → Offset → Stage
stage_of entry history first = begun_at entry history first (following_of first)

pub position_of : (entry : SessionStart) (history : History) (first : Offset) (old : Option Offset) → Grows entry.history history → IsFirstOf entry history first old → IfSome old (λ o. IsPositionOf entry.history o.lsn.0) → IsPositionOf history first.lsn.0
position_of entry history first None grows began stood = subst (λ (l : Lsn). IsPositionOf history l.0) (sym began.1.at_start) began.0.start
position_of entry history first (Some old) grows began stood =
    subst (λ (l : Lsn). IsPositionOf history l.0) (sym began.0.lsn)
    (subst (λ (h : History). IsPositionOf h old.lsn.0) (sym (is_longer entry.history history grows.others (record { tables = grows.tables; commits = grows.commits }))) (still_position entry.history grows.others old.lsn.0 stood))

abbrev parts_of : (entry : SessionStart) (history : History) (first : Offset) → IsFitHistory history → PartsHistory (stage_of entry history first)
parts_of entry history first fit = record {
  old = (parts_at first.infos first.lsn history fit.rising).0;
  later = to_state first.infos first.lsn history;
  spelled = (parts_at first.infos first.lsn history fit.rising).1 ∙ ap (λ (l : List Commit). l ++ to_state first.infos first.lsn history) (sym (append-nil (parts_at first.infos first.lsn history fit.rising).0));
  stated = refl;
  last = inl (refl, refl);
  under = subst (AllByRecursion (λ (c : Commit). c.lsn.0 ≤ first.lsn.0)) (sym (append-nil (parts_at first.infos first.lsn history fit.rising).0)) (parts_at first.infos first.lsn history fit.rising).2;
  over = typed_more first.infos (λ n. first.lsn.0 < n) (commits_after first.lsn history.commits) (over_after first.lsn history.commits);
  order = le_refl first.lsn.0;
}

-- ---- no watermark is its own yet

too_late : (a b c : ℕ) → a ≤ b → c ≡ b + 1 → c ≡ a → ⊥
too_late a b c le is same = omega (arith, le, is, same)

below : (a b c d : ℕ) → a ≤ b → c ≡ b + 1 → c < d → a < d
below a b c d le is lt = omega (arith, le, is, lt)

-- watermarks up to an incarnation are none of the next one's
not_own : (greatest incarnation n : ℕ) (side : Side) (body : RawBody) → incarnation ≡ greatest + 1 → incarnation < 2 ^ 64 → n < 2 ^ 64 → IsMarkedBy greatest body → body ≡ raw.Mark (mark_text incarnation n side) → ⊥
not_own greatest incarnation n side (raw.Changes changes) later small number by is = cc
not_own greatest incarnation n side (raw.Alter name columns rows) later small number by is = cc
not_own greatest incarnation n side (raw.Mark value) later small number by is =
    let text : value ≡ mark_text incarnation n side = cc in
    let same = marks_tell incarnation by.incarnation n by.number side by.side small (below by.incarnation greatest incarnation (2 ^ 64) by.not_above later small) number by.small (sym text ∙ by.is) in
    too_late by.incarnation greatest incarnation by.not_above later same.0

no_mark_own : (incarnation n : ℕ) (side : Side) (body : RawBody) → HasNoMark body → body ≡ raw.Mark (mark_text incarnation n side) → ⊥
no_mark_own incarnation n side (raw.Changes changes) none is = cc
no_mark_own incarnation n side (raw.Mark value) none is = absurd none
no_mark_own incarnation n side (raw.Alter name columns rows) none is = cc

-- each watermark of the history is an earlier session's
pub earlier_marks : (entry : SessionStart) (history : History) (first : Offset) (old : Option Offset) → Grows entry.history history → first.incarnation < 2 ^ 64 → IsFirstOf entry history first old → IsFaithful entry.history entry.confirmed (joined entry.groups) old
    → (place n : ℕ) (side : Side) (commit : RawCommit) → n < 2 ^ 64 → slice_get history.commits place ≡ Some commit → commit.body ≡ raw.Mark (mark_text first.incarnation n side) → ⊥
earlier_marks entry history first None grows small began is place n side commit less at mark =
    no_mark_own first.incarnation n side commit.body
    (at_all (λ (c : RawCommit). HasNoMark c.body) (entry.history.commits ++ grows.others) place commit
    (all_append (λ (c : RawCommit). HasNoMark c.body) entry.history.commits grows.others is.unmarked (all_weaker (λ (c : RawCommit). HasChanges c.body) (λ (c : RawCommit). HasNoMark c.body) grows.others (λ c has. unmarked c.body has) grows.are_others))
    (ap (λ (l : List RawCommit). slice_get l place) (sym grows.commits) ∙ at)) mark
  where
    unmarked : (body : RawBody) → HasChanges body → HasNoMark body
    unmarked (raw.Changes changes) has = tt
    unmarked (raw.Mark value) has = has
    unmarked (raw.Alter name columns rows) has = tt
earlier_marks entry history first (Some old) grows small began is place n side commit less at mark =
    not_own old.incarnation first.incarnation n side commit.body began.1 small less
    (at_all (λ (c : RawCommit). IsMarkedBy old.incarnation c.body) (entry.history.commits ++ grows.others) place commit
    (all_append (λ (c : RawCommit). IsMarkedBy old.incarnation c.body) entry.history.commits grows.others is.lags.offset_is.marks (all_weaker (λ (c : RawCommit). HasChanges c.body) (λ (c : RawCommit). IsMarkedBy old.incarnation c.body) grows.others (λ c has. marked c.body has) grows.are_others))
    (ap (λ (l : List RawCommit). slice_get l place) (sym grows.commits) ∙ at)) mark
  where
    marked : (body : RawBody) → HasChanges body → IsMarkedBy old.incarnation body
    marked (raw.Changes changes) has = tt
    marked (raw.Mark value) has = absurd has
    marked (raw.Alter name columns rows) has = tt

-- ---- what it keeps

module _ (entry : SessionStart) (history : History) (first : Offset) (fit_found : IsFitHistory entry.history) (fit : IsFitHistory history) (grows : Grows entry.history history) (infos : AreInfosOf history first.infos) (began : BeganWith entry history first)
    (small : first.incarnation < 2 ^ 64) (faithful : WasFaithful entry) where
  faithful_first : IsFaithfulTo history entry.confirmed (joined entry.groups) first
  faithful_first = begun entry (record { history = history; confirmed = entry.confirmed }) fit_found fit grows history first entry.offset (grows_none history fit.rising) infos began refl faithful

  begins : BeginsCaughtUp history (joined entry.groups) first
  begins = faithful_stores_are_caught_up history entry.confirmed (joined entry.groups) first fit faithful_first

  abbrev plain_before : List Commit
  plain_before = map plain_commit begins.before

  abbrev plain_later : List Commit
  plain_later = map plain_commit begins.later

  both : plain_before ++ plain_later ≡ (parts_of entry history first fit).old ++ to_state first.infos first.lsn history
  both =
      sym (map_append plain_commit begins.before begins.later)
      ∙ (ap (map plain_commit) (sym begins.delivered.spelled) ∙ (commits_are history first.infos fit infos ∙ (parts_at first.infos first.lsn history fit.rising).1))

  later_is : plain_later ≡ to_state first.infos first.lsn history
  later_is =
      split_once first.lsn.0 plain_before plain_later (parts_of entry history first fit).old (to_state first.infos first.lsn history) both (to_plain (λ (n : ℕ). n ≤ first.lsn.0) begins.before begins.delivered.upto)
      (to_plain (λ (n : ℕ). first.lsn.0 < n) begins.later begins.delivered.past) (parts_at first.infos first.lsn history fit.rising).2 (parts_of entry history first fit).over

  before_is : plain_before ≡ (parts_of entry history first fit).old ++ []
  before_is =
      split_front first.lsn.0 plain_before plain_later (parts_of entry history first fit).old (to_state first.infos first.lsn history) both (to_plain (λ (n : ℕ). n ≤ first.lsn.0) begins.before begins.delivered.upto)
      (to_plain (λ (n : ℕ). first.lsn.0 < n) begins.later begins.delivered.past) (parts_at first.infos first.lsn history fit.rising).2 (parts_of entry history first fit).over
      ∙ sym (append-nil (parts_of entry history first fit).old)

  left_le : (a b : ℕ) → a ≤ max a b
  left_le a b = omega arith

  up_first : IsDelivered first.identity first.infos history first.start.0 first.lsn.0 first.lsn.0 (max (top_position (joined entry.groups)) first.lsn.0) ((parts_of entry history first fit).old ++ []) (to_state first.infos first.lsn history) 0 (joined entry.groups)
  up_first =
      far_on first.identity first.infos history fit infos first.start.0 first.lsn.0 first.lsn.0 (top_position (joined entry.groups)) (max (top_position (joined entry.groups)) first.lsn.0) ((parts_of entry history first fit).old ++ []) (to_state first.infos first.lsn history) 0 (joined entry.groups)
      (left_le (top_position (joined entry.groups)) first.lsn.0)
      (record { read = begins.before; unread = begins.later; read_is = before_is; unread_is = later_is; up = begins.delivered })

  together : StandTogether history (joined entry.groups) first
  together = repeated_commits_stand_together history (joined entry.groups) first fit.rising

  none_le : (n : ℕ) → 0 ≤ n
  none_le n = omega arith

  pub kept_first : KeepsStage entry (stage_of entry history first) (parts_of entry history first fit)
  kept_first = record {
    order = faithful_first.lags.offset_is.order;
    small = lit< tt;
    own_marks = record {
      numbered = λ place n side commit less at is. absurd (earlier_marks entry history first entry.offset grows small began faithful place n side commit less at is);
      once = λ place other n side one two less at_one at_two is_one is_two. absurd (earlier_marks entry history first entry.offset grows small began faithful place n side one less at_one is_one);
    };
    own_window = tt;
    window = tt;
    from = le_refl first.lsn.0;
    to = le_refl first.lsn.0;
    stored_is = faithful_first.lags.offset_is;
    next_is = faithful_first.lags.offset_is;
    up = up_first;
    adds = record { more = []; is = sym (append-nil (joined entry.groups)); above = tt; rise = tt };
    within = tt;
    grouped = sym (append-nil entry.groups);
    near = record {
      before = together.before;
      since = [];
      later = repeated history (joined entry.groups) first ++ together.later;
      spelled = together.spelled;
      settled = together.unread;
      followed = tt;
      many = refl;
      over = all_append (λ (c : RawCommit). first.lsn.0 < c.lsn.0) (repeated history (joined entry.groups) first) together.later
          (all_weaker (λ (c : RawCommit). (first.lsn.0 < c.lsn.0) × (c.lsn.0 ≤ top_position (joined entry.groups))) (λ (c : RawCommit). first.lsn.0 < c.lsn.0) (repeated history (joined entry.groups) first) (λ c is. is.0) together.redelivered)
          (all_weaker (λ (c : RawCommit). (first.lsn.0 < c.lsn.0) × (top_position (joined entry.groups) < c.lsn.0)) (λ (c : RawCommit). first.lsn.0 < c.lsn.0) together.later (λ c is. is.0) together.undelivered);
      few = none_le entry.config.every;
      top = inr refl;
    };
    stand = λ place item at. faithful_records_stand history entry.confirmed (joined entry.groups) first place item faithful_first at;
  }

plus_none : (n : ℕ) → n ≡ n + 2 * 0
plus_none n = omega arith

and_none : (n : ℕ) → n + 0 ≡ n
and_none n = omega arith

no_rows : (n : ℕ) → 0 ≡ 0 * n
no_rows n = omega arith

pub sessions_begin : SessionsBegin
sessions_begin entry history first some small grows fit_found fit infos cursors began = record {
  reading = record {
    began = began;
    first_small = small;
    of_session = record { identity = refl; infos = refl; versions = refl; start = refl; incarnation = refl };
    stored_later = cursors_stay first.cursors;
    no_fall = le_refl entry.confirmed.0;
    more = grows.others;
    grown = record { tables = grows.tables; commits = grows.commits };
    fit = fit;
    infos = infos;
    fields = tt;
    accepted = tt;
    right = tt;
    follows_identity = refl;
    follows_infos = refl;
    cursors = cursors;
    closed = 0;
    counted = record {
      marks = ap length (no_mark_more entry.history history grows) ∙ plus_none (length (marks_in entry.history.commits));
      windows = refl;
      waits = tt;
      come = record {
        full = 0;
        ended = 0;
        each = refl;
        tables = and_none (ended_of first.cursors);
        read = [];
        many = no_rows entry.config.chunk;
        were = tt;
        unread = tt;
        apart = record { apart = λ i j pair one two. (let wrong : ⊥ = cc in absurd wrong) };
        later = cursors_stay first.cursors;
      };
    };
    told = record { more = []; gained = sym (append-nil entry.groups); each = refl };
  };
  placed = λ stood. record { position = position_of entry history first entry.offset grows began stood; parts = parts_of entry history first fit; awaited = tt };
  kept = λ stood faithful. kept_first entry history first fit_found fit grows infos began small faithful;
}
