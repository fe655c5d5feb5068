-- What a session preserves of its log while it reads and delivers, where tables may be altered: the log is aged, in every table, from each
-- position where an offset may be stored, from that of the stored one to the one that it has delivered.
use Rattle.std.specs.Prelude.{◌≡◌, ◌⊎◌, ℕ, ℤ, ◌<◌, ◌≤◌, Some, None, List, [], ◌∷◌, ◌++◌, take, map, flat_map, slice_get}
use Rattle.std.specs.List.{AllByRecursion}
use Rattle.dbl_record.specs.declared.record.Record.{Record}
use Rattle.dbl_model_table.specs.declared.identity.Identity.{Identity}
use Rattle.dbl_model_table.specs.declared.table.TableInfo.{TableInfo}
use Rattle.dbl_model_table.specs.Rows.{changes_of}
use Rattle.dbl_model_history.specs.Ranges.{IsMomentInRange}
use Rattle.dbl_model_event.specs.Events.{notices}
use Rattle.dbl_model_event.specs.EventJson.{envelopes}
use Rattle.dbl_model_event.specs.Clashes.{notice_clash, first_found, clash_of}
use Rattle.dbl_consume_courses.specs.Versions.{Versioned, plain_commit}
use Rattle.dbl_consume_courses.specs.AlteredTables.{IsAgedFrom}
use Rattle.dbl_consume_courses.specs.FitVersions.{AreFitVersions}
use Rattle.dbl_consume_courses.specs.TableAges.{IsJustBefore}

-- Whether some commit has this LSN.
abbrev pub IsLsnOf : List Versioned → ℕ → Type 0
IsLsnOf versions position = (place : ℕ) × (slice_get (map (λ v. v.lsn.0) versions) place ≡ Some position)

-- Whether the records of a log that starts at `start` are aged from each position between two at which an offset may be: the first one, and
-- the LSNs of commits.
abbrev pub AreAgedBetween : Identity → List TableInfo → List Versioned → ℕ → List Record → ℕ → ℕ → Type 0
AreAgedBetween identity infos versions start records low high = (table position : ℕ) → (position ≡ low) ⊎ IsLsnOf versions position
    → low ≤ position → position ≤ high → IsAgedFrom identity infos versions start records position table

-- An empty log is aged from where it starts.
abbrev pub EmptyLogsAreAged : Type 0
EmptyLogsAreAged = (identity : Identity) (infos : List TableInfo) (versions : List Versioned) (start : ℕ)
    → AreFitVersions infos versions → AreAgedBetween identity infos versions start [] start start

-- With any prefix of the records of the next commit, delivered for the first time or again, a log stays aged from each of the positions, of
-- which the last one is just before the commit.
abbrev pub PartsOfCommitsKeepAgesBetween : Type 0
PartsOfCommitsKeepAgesBetween = (identity : Identity) (infos : List TableInfo) (versions : List Versioned) (start low high : ℕ)
    (earlier : List Versioned) (v : Versioned) (later : List Versioned) (records : List Record) (now : ℤ) (n : ℕ)
    → AreFitVersions infos versions → versions ≡ earlier ++ v ∷ later → IsJustBefore high earlier v → start ≤ low → low ≤ high
    → (high ≡ low) ⊎ IsLsnOf versions high → IsMomentInRange now
    → first_found (notice_clash identity.placeholder) (take n (flat_map (notices v.infos) (changes_of (plain_commit v)))) ≡ None
    → AreAgedBetween identity infos versions start records low high
    → AreAgedBetween identity infos versions start (records ++ take n (envelopes identity v.infos (plain_commit v) now)) low high

-- With all of them it is aged from the commit's position too. An alteration, which has no records, is passed in the same way.
abbrev pub CommitsMoveAgesBetween : Type 0
CommitsMoveAgesBetween = (identity : Identity) (infos : List TableInfo) (versions : List Versioned) (start low high : ℕ)
    (earlier : List Versioned) (v : Versioned) (later : List Versioned) (records : List Record) (now : ℤ)
    → AreFitVersions infos versions → versions ≡ earlier ++ v ∷ later → IsJustBefore high earlier v → start ≤ low → low ≤ high
    → (high ≡ low) ⊎ IsLsnOf versions high → IsMomentInRange now → clash_of identity v.infos (plain_commit v) ≡ None
    → AreAgedBetween identity infos versions start records low high
    → AreAgedBetween identity infos versions start (records ++ envelopes identity v.infos (plain_commit v) now) low v.lsn.0

-- Later commits of the history, after every record and after the last position, leave it so; they may alter tables.
abbrev pub AgesBetweenStayAsHistoriesGrow : Type 0
AgesBetweenStayAsHistoriesGrow = (identity : Identity) (infos : List TableInfo) (versions more : List Versioned) (start low high : ℕ)
    (records : List Record)
    → AreFitVersions infos (versions ++ more) → AllByRecursion (λ v. high < v.lsn.0) more
    → AllByRecursion (λ item. AllByRecursion (λ v. item.position < v.lsn.0) more) records
    → AreAgedBetween identity infos versions start records low high
    → AreAgedBetween identity infos (versions ++ more) start records low high
