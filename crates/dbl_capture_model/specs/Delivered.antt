-- What a session preserves of its log, in terms of the commits that it reads.
use Rattle.std.specs.Prelude.{◌≡◌, ℕ, List, map}
use Rattle.dbl_record.specs.declared.record.Record.{Record}
use Rattle.dbl_model_table.specs.declared.identity.Identity.{Identity}
use Rattle.dbl_model_table.specs.declared.table.TableInfo.{TableInfo}
use Rattle.dbl_model_table.specs.declared.change.Commit.{Commit}
use Rattle.dbl_faithful.specs.ModelHistory.History.{History}
use Rattle.dbl_faithful.specs.ModelHistory.InForce.{opening_infos, versioned}
use Rattle.dbl_consume_courses.specs.Versions.{Versioned, plain_commit}
use Rattle.dbl_faithful.specs.CaughtUp.{HasDeliveredUpTo}

-- Whether the log has all records of the commits `before`, the first ones of the history, and the first `sent` of the next of the `later`
-- ones. It was delivered from the position `low` up to `high`, and no record is after `far`. The history may alter tables; a session reads
-- its commits without the tables' columns.
pub record IsDelivered (identity : Identity) (infos : List TableInfo) (history : History) (start low high far : ℕ)
    (before later : List Commit) (sent : ℕ) (records : List Record) : Type 0 where
  pub read : List Versioned
  pub unread : List Versioned
  pub read_is : map plain_commit read ≡ before
  pub unread_is : map plain_commit unread ≡ later
  pub up : HasDeliveredUpTo identity (opening_infos history infos) (versioned infos history) start low high far read unread sent records
