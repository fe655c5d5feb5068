-- Any number of sessions and crashes.
use Rattle.std.proofs.Common.{◌∙◌, ℤ, max, Option, List, [], ◌∷◌, refl, sym, ap, subst, append-nil, le_refl}
use Rattle.dbl_record.specs.Cuts.{cut, joined}
use Rattle.dbl_model_table.specs.declared.config.Config.{Config}
use Rattle.dbl_model_history.specs.History.{History}
use Rattle.dbl_model_history.specs.Fit.{IsFitHistory}
use Rattle.dbl_source.specs.SourceModel.Growth.{Grows}
use Rattle.dbl_capture_laws.specs.Offset.declared.offset.Offset.{Offset}
use Rattle.dbl_capture_laws.specs.Faithful.Stores.{lag}
use Rattle.dbl_capture_laws.specs.Faithful.Faithful.{IsFaithful}
use Rattle.dbl_capture_laws.specs.Faithful.Kept.{HasGrown}
use Rattle.dbl_capture_laws.proofs.FaithfulLonger.{longer_histories_stay_faithful}
use Rattle.dbl_capture_laws.specs.CaptureModel.Outcomes.{FollowsSession}
use Rattle.dbl_capture_laws.proofs.CaptureModelCompleting.{read_sessions_are_complete}
use Rattle.dblog_promise.specs.Restarts.{FoundStores, restart_at, source_of, IsRight, ByRules, ByPromise, After, nothing, others, session, IsUnused, most_every}
use Rattle.dblog_promise.specs.Outcomes.{WentOn}
use Rattle.dblog_promise.specs.RestartLaws.{RulesKeepPromises, RestartsStayFaithful, FirstSessionsAreFaithful, RestartsGoOn, CompletedRestartsAreImages}
use Rattle.dblog_promise.proofs.Going.{runs_keep_going}
use Rattle.dblog_promise.proofs.Leaving.{stops_follow}
use Rattle.dblog_promise.proofs.Farther.{le_on, over_none, under_both, extends_on, stays_put, offset_grown, offset_next, appends_next, others_new, lag_grown}

abbrev grown_by : (old new : History) (grows : Grows old new) → HasGrown old new grows.others
grown_by old new grows = record { tables = grows.tables; commits = grows.commits }

module _ (first : FoundStores) (right : IsRight first) where
  -- ---- faithful

  pub stays_right : (sessions : List Config) (last : FoundStores) → After ByPromise first sessions last → IsRight last
  stays_right _ _ nothing = right
  stays_right _ _ (others sessions last history after grows fits) =
      let before : IsRight last = stays_right sessions last after in
      record {
        fit = fits;
        faithful = longer_histories_stay_faithful last.history history grows.others last.confirmed (joined last.groups) last.offset before.fit fits (grown_by last.history history grows)
            (others_new last.offset grows.others grows.are_others) before.faithful;
      }
  stays_right _ _ (session sessions last new config after leads) =
      let before : IsRight last = stays_right sessions last after in
      record { fit = leads.fit before; faithful = (leads.follows before).faithful }

  -- ---- onward

  at_first : WentOn [] first first
  at_first = record {
    tables = refl;
    commits = record { more = []; is = sym (append-nil first.history.commits) };
    groups = record { more = []; is = sym (append-nil first.groups) };
    offset = stays_put first.history first.offset;
    no_fall = le_refl first.confirmed.0;
    appends = record { more = []; is = sym (append-nil (joined first.groups)); above = tt };
    lag_is = over_none (lag first.history (joined first.groups) first.offset);
  }

  grown_on : (sessions : List Config) (last : FoundStores) (history : History) → IsRight last → Grows last.history history → IsFitHistory history → WentOn sessions first last → WentOn sessions first (record last { history = history })
  grown_on sessions last history before grows fits went = record {
    tables = grows.tables ∙ went.tables;
    commits = extends_on first.history.commits last.history.commits history.commits went.commits (record { more = grows.others; is = grows.commits });
    groups = went.groups;
    offset = offset_grown sessions first.history last.history history grows.others first.offset last.offset (grown_by last.history history grows) went.offset;
    no_fall = went.no_fall;
    appends = went.appends;
    lag_is = le_on (lag history (joined last.groups) last.offset) (lag last.history (joined last.groups) last.offset) (max (most_every sessions) (lag first.history (joined first.groups) first.offset))
        (lag_grown last.history history last.confirmed (joined last.groups) last.offset before.fit fits grows before.faithful) went.lag_is;
  }

  session_on : (sessions : List Config) (last new : FoundStores) (config : Config) (now : ℤ) → IsRight last → FollowsSession (restart_at config now last) (source_of new) new.groups new.offset → WentOn sessions first last → WentOn (config ∷ sessions) first new
  session_on sessions last new config now before follows went = record {
    tables = follows.onward.tables ∙ went.tables;
    commits = extends_on first.history.commits last.history.commits new.history.commits went.commits follows.onward.commits;
    groups = extends_on first.groups last.groups new.groups went.groups (record { more = cut follows.adds.more; is = follows.grouped });
    offset = offset_next sessions config first.history last.history new.history follows.onward.commits.more first.offset last.offset new.offset went.commits
        (record { tables = follows.onward.tables; commits = follows.onward.commits.is }) went.offset follows.onward.offset;
    no_fall = le_on first.confirmed.0 last.confirmed.0 new.confirmed.0 went.no_fall follows.no_fall;
    appends = appends_next sessions config first.history last.history new.history last.confirmed first.offset last.offset new.offset (joined first.groups) (joined last.groups) (joined new.groups)
        before.faithful went.offset follows.onward.offset went.appends follows.adds;
    lag_is = under_both (lag new.history (joined new.groups) new.offset) (lag last.history (joined last.groups) last.offset) (lag first.history (joined first.groups) first.offset) config.every (most_every sessions) follows.lag_is went.lag_is;
  }

  pub goes_on : (sessions : List Config) (last : FoundStores) → After ByPromise first sessions last → WentOn sessions first last
  goes_on _ _ nothing = at_first
  goes_on _ _ (others sessions last history after grows fits) = grown_on sessions last history (stays_right sessions last after) grows fits (goes_on sessions last after)
  goes_on _ _ (session sessions last new config after leads) =
      let before : IsRight last = stays_right sessions last after in
      session_on sessions last new config leads.now before (leads.follows before) (goes_on sessions last after)

pub restarts_stay_faithful : RestartsStayFaithful
restarts_stay_faithful first last sessions right after = stays_right first right sessions last after

pub restarts_go_on : RestartsGoOn
restarts_go_on first last sessions right after = goes_on first right sessions last after

-- ---- by the rules

promised : (config : Config) (old new : FoundStores) → ByRules config old new → ByPromise config old new
promised config old new by = record {
  now = by.now;
  fit = λ right. (stops_follow (restart_at config by.now old) (source_of new) new.groups new.offset by.asked right.fit right.faithful by.stops).1;
  follows = λ right. (stops_follow (restart_at config by.now old) (source_of new) new.groups new.offset by.asked right.fit right.faithful by.stops).0;
}

keeps : (first : FoundStores) (sessions : List Config) (last : FoundStores) → After ByRules first sessions last → After ByPromise first sessions last
keeps first _ _ nothing = nothing
keeps first _ _ (others sessions last history after grows fits) = others sessions last history (keeps first sessions last after) grows fits
keeps first _ _ (session sessions last new config after leads) = session sessions last new config (keeps first sessions last after) (promised config last new leads)

pub rules_keep_promises : RulesKeepPromises
rules_keep_promises first last sessions after = keeps first sessions last after

-- ---- from the first session on

unused_right : (first : FoundStores) → IsUnused first → IsRight first
unused_right first is = record {
  fit = is.fit;
  faithful = subst (λ (o : Option Offset). IsFaithful first.history first.confirmed (joined first.groups) o) (sym is.unstored)
      (record { empty = ap joined is.empty; unmarked = is.unmarked; unconfirmed = is.unconfirmed });
}

pub first_sessions_are_faithful : FirstSessionsAreFaithful
first_sessions_are_faithful first last sessions is after = stays_right first (unused_right first is) sessions last (keeps first sessions last after)

-- ---- to the last

pub completed_restarts_are_images : CompletedRestartsAreImages
completed_restarts_are_images first last sessions config now stage left right after asked done =
    let before : IsRight last = stays_right first right sessions last after in
    read_sessions_are_complete (restart_at config now last) stage left done.more before.faithful done.read done.done done.may_be_left done.confirmed
    (runs_keep_going (restart_at config now last) stage asked before.fit before.faithful done.run)
