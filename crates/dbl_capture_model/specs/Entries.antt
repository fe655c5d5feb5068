-- What a session found, and what it may leave.
use Rattle.std.specs.Prelude.{◌≡◌, ◌≤◌, ℕ, ℤ, Option, Some, None, IfSome, List}
use Rattle.dbl_base.specs.declared.lsn.Lsn.{Lsn}
use Rattle.dbl_record.specs.declared.record.Record.{Record}
use Rattle.dbl_record.specs.Cuts.{joined}
use Rattle.dbl_model_table.specs.declared.config.Config.{Config}
use Rattle.dbl_faithful.specs.ModelHistory.History.{History}
use Rattle.dbl_faithful.specs.ModelHistory.Fit.{AreInfosOf}
use Rattle.dbl_follow.specs.SourceModel.Standings.{CrashState}
use Rattle.dbl_faithful.specs.Offset.declared.offset.Offset.{Offset}
use Rattle.dbl_faithful.specs.Stores.{Stores, IsPositionOf}
use Rattle.dbl_faithful.specs.Faithful.{AreFaithful}

-- The start of a session: its configuration, the time of its records, and what source, sink and store contained.
pub record SessionStart : Type 0 where
  pub config : Config
  pub now : ℤ
  pub history : History
  pub confirmed : Lsn
  pub groups : List (List Record)
  pub offset : Option Offset

-- The stores that the session found.
abbrev pub stores_at : SessionStart → Stores
stores_at entry = record {
  history = entry.history;
  confirmed = entry.confirmed;
  records = joined entry.groups;
  offset = entry.offset;
}

-- The stores that a crash leaves.
abbrev pub stores_left : CrashState → List (List Record) → Option Offset → Stores
stores_left left groups offset = record {
  history = left.history;
  confirmed = left.confirmed;
  records = joined groups;
  offset = offset;
}

-- ---- what may be known of the start

-- The stores that the session found were faithful.
abbrev pub WasFaithful : SessionStart → Type 0
WasFaithful entry = AreFaithful (stores_at entry)

-- No offset was stored, or it captures tables as the source's catalogue has them.
abbrev pub HadOwnTables : SessionStart → Type 0
HadOwnTables entry = IfSome entry.offset (λ offset. AreInfosOf entry.history offset.infos)

-- No offset was stored, or its LSN is a position of the source's log.
abbrev pub StoodInLog : SessionStart → Type 0
StoodInLog entry = IfSome entry.offset (λ offset. IsPositionOf entry.history offset.lsn.0)

-- The confirmed LSN isn't above the offset's, and is 0 if no offset is stored.
abbrev pub IsKeptAfter : Lsn → Option Offset → Type 0
IsKeptAfter confirmed None = confirmed.0 ≡ 0
IsKeptAfter confirmed (Some offset) = confirmed.0 ≤ offset.lsn.0

-- When the session began, the confirmed LSN wasn't above the stored one.
abbrev pub WasKept : SessionStart → Type 0
WasKept entry = IsKeptAfter entry.confirmed entry.offset

-- ---- positions

-- The position above which a session appends: the LSN that was stored when it began, or else the start of its first offset, or 0 if it
-- stored none.
abbrev pub appends_after : Option Offset → Option Offset → ℕ
appends_after (Some old) new = old.lsn.0
appends_after None (Some new) = new.start.0
appends_after None None = 0
