-- The rows of a history whose tables may be altered.
pub use Rattle.dbl_model_history.specs.InForce.{Alteration, Versioned, plain_commit, IsAlike, Alters, FollowsInfos, AreVersionsFrom}
pub use Rattle.dbl_model_history.specs.VersionRows.{versions_to, inserts, altered_rows, rows_through, rows_upto, version_rows}
