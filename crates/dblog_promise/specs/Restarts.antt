-- Any number of sessions and crashes, one after the other.
use Rattle.std.specs.Prelude.{◌≡◌, ℕ, ℤ, max, Option, None, List, [], ◌∷◌}
use Rattle.std.specs.List.{AllByRecursion}
use Rattle.dbl_base.specs.declared.lsn.Lsn.{Lsn}
use Rattle.dbl_record.specs.declared.record.Record.{Record}
use Rattle.dbl_record.specs.Cuts.{joined}
use Rattle.dbl_model_table.specs.declared.config.Config.{Config}
use Rattle.dbl_model_history.specs.History.{History}
use Rattle.dbl_model_history.specs.Fit.{IsFitHistory}
use Rattle.dbl_source.specs.SourceModel.Growth.{Grows}
use Rattle.dbl_source.specs.SourceModel.Standings.{CrashState}
use Rattle.dbl_capture_laws.specs.Offset.declared.offset.Offset.{Offset}
use Rattle.dbl_capture_laws.specs.Faithful.Stores.{Stores}
use Rattle.dbl_capture_laws.specs.Faithful.Faithful.{HasNoMark, AreFaithful}
use Rattle.dbl_capture_laws.specs.CaptureModel.Entries.{SessionStart}
use Rattle.dbl_capture_laws.specs.CaptureModel.Outcomes.{FollowsSession}
use Rattle.dblog_promise.specs.Runs.{IsAsked}
use Rattle.dblog_promise.specs.Stops.{Stops}

-- What source, sink and store contain while no session runs.
pub record FoundStores : Type 0 where
  pub history : History
  pub confirmed : Lsn
  pub groups : List (List Record)
  pub offset : Option Offset

-- The stores that a session finds, with the groups of the topic log joined.
abbrev pub stores_of : FoundStores → Stores
stores_of found = record {
  history = found.history;
  confirmed = found.confirmed;
  records = joined found.groups;
  offset = found.offset;
}

-- The start of a session that finds these stores.
abbrev pub restart_at : Config → ℤ → FoundStores → SessionStart
restart_at config now found = record {
  config = config;
  now = now;
  history = found.history;
  confirmed = found.confirmed;
  groups = found.groups;
  offset = found.offset;
}

-- The source's part of what was found.
abbrev pub source_of : FoundStores → CrashState
source_of found = record { history = found.history; confirmed = found.confirmed }

-- The history is valid, and the stores are faithful.
pub record IsRight (found : FoundStores) : Type 0 where
  pub fit : IsFitHistory found.history
  pub faithful : AreFaithful (stores_of found)

-- ---- one session and a crash

-- A session with this configuration that follows the rules may lead from what it found to this state, at a point where it stops.
pub record ByRules (config : Config) (old new : FoundStores) : Type 0 where
  pub now : ℤ
  pub asked : IsAsked config now
  pub stops : Stops (restart_at config now old) (source_of new) new.groups new.offset

-- A session with this configuration keeps its guarantees: from faithful stores of a valid history it leaves such stores, which extend them.
-- The theorem RulesKeepPromises says that a session by the rules keeps them.
pub record ByPromise (config : Config) (old new : FoundStores) : Type 0 where
  pub now : ℤ
  pub fit : IsRight old → IsFitHistory new.history
  pub follows : IsRight old → FollowsSession (restart_at config now old) (source_of new) new.groups new.offset

-- ---- any number of them

-- The states that are reached from the first one by others who commit while no session runs, and by sessions that run and stop. The
-- sessions are listed by their configurations, the newest first.
pub data After (MovesTo : Config → FoundStores → FoundStores → Type 0) (first : FoundStores) : List Config → FoundStores → Type 0 where
  nothing : After MovesTo first [] first
  others : (sessions : List Config) (last : FoundStores) (history : History)
      → After MovesTo first sessions last → Grows last.history history → IsFitHistory history
      → After MovesTo first sessions (record last { history = history })
  session : (sessions : List Config) (last new : FoundStores) (config : Config)
      → After MovesTo first sessions last → MovesTo config last new
      → After MovesTo first (config ∷ sessions) new

-- Stores before any session: a valid history without watermarks, and nothing else.
pub record IsUnused (found : FoundStores) : Type 0 where
  pub fit : IsFitHistory found.history
  pub unmarked : AllByRecursion (λ commit. HasNoMark commit.body) found.history.commits
  pub unconfirmed : found.confirmed.0 ≡ 0
  pub empty : found.groups ≡ []
  pub unstored : found.offset ≡ None

-- The greatest number of commits between two stores of the offset, over all sessions.
abbrev pub most_every : List Config → ℕ
most_every [] = 0
most_every (config ∷ sessions) = max config.every (most_every sessions)
