-- Valid histories with alterations: what a source's commits must satisfy, each after the rows just before it.
use Rattle.std.specs.Prelude.{◌<◌, ◌^◌, ◌↔◌, IfSome, IsSome, List, [], ◌∷◌, map}
use Rattle.std.specs.List.{AllByRecursion}
use Rattle.dbl_model_table.specs.declared.row.Key.{Key}
use Rattle.dbl_model_table.specs.declared.table.TableInfo.{TableInfo}
use Rattle.dbl_model_table.specs.declared.change.Body.TheVariants.{Changes}
use Rattle.dbl_model_table.specs.Rows.{Rows, no_rows, rows_from, changes_of}
use Rattle.dbl_model_history.specs.History.{History}
use Rattle.dbl_model_history.specs.Fit.{AreFit}
use Rattle.dbl_model_history.specs.Laws.{CommitsRise, AreDistinctTables}
use Rattle.dbl_model_history.specs.Ranges.{HasRanges, most_events, IsBodyInRange, IsCommitInRange}
use Rattle.dbl_model_history.specs.InForce.{Alteration, Versioned, plain_commit, AreVersionsFrom, versioned}
use Rattle.dbl_model_history.specs.VersionRows.{inserts, rows_through}

-- A valid alteration: its rows are as wide as the new columns, each at a readable key and no two at one, and there is one for each key that
-- had a row just before, and for no other.
pub record IsFitAlteration (infos : List TableInfo) (before : Rows) (alteration : Alteration) : Type 0 where
  pub rows : AreFit infos no_rows (inserts infos alteration.table alteration.rows)
  pub keys : (key : Key) → IsSome (before alteration.table key)
      ↔ IsSome (rows_from infos no_rows (inserts infos alteration.table alteration.rows) alteration.table key)
  pub in_range : IsBodyInRange (Changes (inserts infos alteration.table alteration.rows))

-- A valid commit after the rows just before it.
pub record IsFitVersion (before : Rows) (v : Versioned) : Type 0 where
  -- Each change is valid, in the columns in force.
  pub changes : AreFit v.infos before (changes_of (plain_commit v))
  pub altered : IfSome v.altered (IsFitAlteration v.infos before)
  pub in_range : IsCommitInRange (plain_commit v)
  -- An event takes more than four bytes of a log whose positions are LSNs.
  pub few : most_events (changes_of (plain_commit v)) < 2 ^ 62

-- Whether each of some commits is valid after the rows just before it.
abbrev pub AreFitFrom : Rows → List Versioned → Type 0
AreFitFrom before [] = Unit {0}
AreFitFrom before (v ∷ versions) = IsFitVersion before v × AreFitFrom (rows_through before v) versions

-- Whether the commits are those of a valid history of which these tables are captured before all of them.
pub record AreFitVersions (infos : List TableInfo) (versions : List Versioned) : Type 0 where
  pub follow : AreVersionsFrom infos versions
  pub distinct : AreDistinctTables infos
  pub rise : CommitsRise (map plain_commit versions)
  pub fit : AreFitFrom no_rows versions

-- The commits of a history in range are in range, for any captured tables, as are the rows that they give to altered tables.
abbrev pub VersionsAreInRange : Type 0
VersionsAreInRange = (infos : List TableInfo) (history : History) → HasRanges history
    → AllByRecursion (λ v. IsCommitInRange (plain_commit v) × (most_events (changes_of (plain_commit v)) < 2 ^ 62)
    × IfSome v.altered (λ alteration. IsBodyInRange (Changes (inserts v.infos alteration.table alteration.rows)))) (versioned infos history)
