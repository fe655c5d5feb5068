-- What a session begins with.
use Rattle.std.specs.Prelude.{◌≡◌, ◌⊎◌, ℕ, ◌+◌, ◌^◌, ◌<◌, ◌≤◌, max, Option, Some, None, List, ◌∷◌, ◌++◌, length, map}
use Rattle.std.specs.List.{AllByRecursion, AllZip}
use Rattle.dbl_base.specs.declared.lsn.Lsn.{Lsn}
use Rattle.dbl_model_table.specs.declared.config.Config.{Config}
use Rattle.dbl_model_table.specs.declared.table.TableName.{TableName}
use Rattle.dbl_model_table.specs.declared.table.RawTable.{RawTable}
use Rattle.dbl_model_table.specs.declared.table.TableInfo.{TableInfo}
use Rattle.dbl_model_table.specs.declared.error.ModelError.{ModelError}
use Rattle.dbl_model_table.specs.Infos.{IsInfoOf}
use Rattle.dbl_model_table.specs.Made.{table_fault}
use Rattle.dbl_model_history.specs.declared.cursor.Cursor.{Cursor}
use Rattle.dbl_model_history.specs.History.{History, entry_of}
use Rattle.dbl_model_history.specs.InForce.{entry_at}
use Rattle.dbl_source_model.specs.Calls.{Moved}
use Rattle.dbl_source_model.specs.Leaves.{MayFollow}
use Rattle.dbl_source_model.specs.Standings.{SourceState, CrashState, left_of}
use Rattle.dbl_source_model.specs.Trace.{Trace, Described}
use Rattle.dbl_offset_content.specs.declared.offset.Offset.{Offset}
use Rattle.dbl_offset.specs.Entries.{offset_bytes_form}
use Rattle.dbl_offset.specs.Measures.{capped, offset_limit}
use Rattle.dbl_capture_model.specs.Faithful.Lag.{IsUnread}
use Rattle.dbl_capture_work.specs.declared.halt.Halt.{Halt}
use Rattle.dbl_capture_work.specs.declared.halt.Halt.TheVariants as halt

-- ---- descriptions of tables

-- After some number of the history's commits, `from` or more, the catalogue has this entry of the name, with the columns in force and the
-- version there.
pub record HadEntrySince (history : History) (from : ℕ) (name : TableName) (raw : RawTable) : Type 0 where
  pub place : ℕ
  pub not_before : from ≤ place
  pub not_after : place ≤ length history.commits
  pub is : entry_at history place name ≡ Some raw

-- The catalogue has this entry of the name at some point of the history.
abbrev pub HadEntry : History → TableName → RawTable → Type 0
HadEntry history name raw = HadEntrySince history 0 name raw

-- The description and the version are those of one entry that the catalogue had of the table after `from` or more commits. Versions are
-- counted from 1: 0 counts as 1.
pub record IsInfoAt (history : History) (from : ℕ) (info : TableInfo) (version : ℕ) : Type 0 where
  pub raw : RawTable
  pub entry : HadEntrySince history from info.name raw
  pub is : IsInfoOf raw info
  pub counted : version ≡ max 1 raw.version

-- Each description and its version are those of one entry that the catalogue had after `from` or more commits.
abbrev pub AreInfosAt : History → ℕ → List TableInfo → List ℕ → Type 0
AreInfosAt history from infos versions = AllZip (IsInfoAt history from) infos versions

-- Each table has a version of 64 bits, counted from 1.
abbrev pub AreCounted : List TableInfo → List ℕ → Type 0
AreCounted infos versions = AllZip (λ info version. (1 ≤ version) × (version < 2 ^ 64)) infos versions

-- A call of the source returned this description and this version of the named table, as they were at one time during the call, and others
-- may have committed.
abbrev pub IsDescribedAs : TableName → TableInfo → ℕ → SourceState → SourceState → Type 0
IsDescribedAs name info version s t = Moved s t × (info.name ≡ name) × IsInfoAt t.history (length s.history.commits) info version

-- The error for a table of which the catalogue has no entry, or this one, which can't be captured.
abbrev pub IsFaultOf : TableName → Option RawTable → Halt → Type 0
IsFaultOf name None h = h ≡ halt.UnknownTable name
IsFaultOf name (Some raw) h = (error : ModelError) × (table_fault raw ≡ Some error) × (h ≡ halt.Model error)

-- The error agrees with the entry that the source returned last, if known.
pub record IsModelFault (name : TableName) (told : Option Trace) (h : Halt) : Type 0 where
  pub entry : Option RawTable
  pub is : IsFaultOf name entry h
  pub tells : (t : Trace) → told ≡ Some t → t.answer ≡ Described entry

-- After `from` or more of the history's commits the catalogue had an entry with this name that can be captured.
pub record CouldBeCaptured (history : History) (from : ℕ) (name : TableName) : Type 0 where
  pub raw : RawTable
  pub entry : HadEntrySince history from name raw
  pub clean : table_fault raw ≡ None

-- The catalogue has an entry with this name that can be captured, at some point of the history.
abbrev pub CanBeCaptured : History → TableName → Type 0
CanBeCaptured history name = CouldBeCaptured history 0 name

-- The named table is one of the list, and every table before it could be captured after `from` or more commits.
pub record WasFirstAtFault (names : List TableName) (history : History) (from : ℕ) (name : TableName) : Type 0 where
  pub before : List TableName
  pub after : List TableName
  pub parted : names ≡ before ++ name ∷ after
  pub earlier : AllByRecursion (CouldBeCaptured history from) before

-- The named table is one of the list, and every table before it can be captured, at some point of the history.
abbrev pub IsFirstAtFault : List TableName → History → TableName → Type 0
IsFirstAtFault names history name = WasFirstAtFault names history 0 name

-- The error names the first table of the list that the catalogue doesn't have, or of which it had an entry that can't be captured after
-- `from` or more commits.
abbrev pub WasAbsentHalt : List TableName → History → ℕ → Halt → Type 0
WasAbsentHalt names history from (halt.UnknownTable name) = WasFirstAtFault names history from name × (entry_of history name ≡ None)
WasAbsentHalt names history from (halt.Model error) =
    (name : TableName) × (raw : RawTable) × WasFirstAtFault names history from name × HadEntrySince history from name raw
    × (table_fault raw ≡ Some error)
WasAbsentHalt names history from h = Unit {0}

-- The error names the first table of the list that the catalogue doesn't have, or of which it has an entry that can't be captured, at some
-- point of the history.
abbrev pub IsAbsentHalt : List TableName → History → Halt → Type 0
IsAbsentHalt names history h = WasAbsentHalt names history 0 h

-- An error about a table leaves the source in a state that only others' commits may set apart from this one, and whose catalogue since then
-- requires the error.
abbrev pub IsAbsentAfter : (SourceState → Type 0) → SourceState → List TableName → Halt → Type 0
IsAbsentAfter stands s names (halt.UnknownTable name) =
    (t : SourceState) × stands t × Moved s t × WasAbsentHalt names t.history (length s.history.commits) (halt.UnknownTable name)
IsAbsentAfter stands s names (halt.Model error) =
    (t : SourceState) × stands t × Moved s t × WasAbsentHalt names t.history (length s.history.commits) (halt.Model error)
IsAbsentAfter stands s names h = Unit {0}

-- The table that the source described last, if known, can be captured.
pub record IsFaultless (name : TableName) (told : Option Trace) : Type 0 where
  pub none : (t : Trace) (entry : Option RawTable) (h : Halt) → told ≡ Some t → t.answer ≡ Described entry → IsFaultOf name entry h → ⊥

-- ---- the first offset

-- The cursors of `count` tables, of which nothing was read.
pub record AreUnread (count : ℕ) (cursors : List Cursor) : Type 0 where
  pub many : length cursors ≡ count
  pub each : AllByRecursion IsUnread cursors

-- The first offset of the configured tables, at this head of the log.
pub record IsFirstOffsetAtHead (config : Config) (infos : List TableInfo) (head : Lsn) (offset : Offset) : Type 0 where
  pub identity : offset.identity ≡ config.identity
  pub infos_are : offset.infos ≡ infos
  pub incarnation : offset.incarnation ≡ 1
  pub start : offset.start ≡ head
  pub lsn : offset.lsn ≡ head
  pub end_lsn : offset.end_lsn ≡ head
  pub cursors : AreUnread (length infos) offset.cursors

-- ---- a later offset

-- The stored offset with the next incarnation, if one is stored.
abbrev pub IsAgain : Option Offset → Option Offset → Type 0
IsAgain None None = Unit {0}
IsAgain None (Some offset) = ⊥
IsAgain (Some stored) None = ⊥
IsAgain (Some stored) (Some offset) = offset ≡ record stored { incarnation = stored.incarnation + 1 }

-- The stored incarnation is the greatest that is possible.
abbrev pub IsExhausted : Option Offset → Halt → Type 0
IsExhausted None h = ⊥
IsExhausted (Some stored) h = (2 ^ 63 ≤ stored.incarnation) × (h ≡ halt.Exhausted stored.incarnation)

-- The offset that a session stores first: the stored one with the next incarnation, or else one of the configured tables with nothing read.
abbrev pub IsOffsetFor : Config → Option Offset → Offset → Type 0
IsOffsetFor config None offset = (offset.identity ≡ config.identity) × (map (λ info. info.name) offset.infos ≡ config.tables)
    × (offset.incarnation ≡ 1)
    × (offset.lsn ≡ offset.start) × (offset.end_lsn ≡ offset.start) × AreUnread (length offset.infos) offset.cursors
IsOffsetFor config (Some stored) offset = offset ≡ record stored { incarnation = stored.incarnation + 1 }

-- ---- other errors

-- The encoding of the offset is longer than the limit, and the error has its length.
pub record IsTooLong (offset : Offset) (h : Halt) : Type 0 where
  pub long : offset_limit < length (offset_bytes_form offset)
  pub is : h ≡ halt.OffsetTooLong (capped (length (offset_bytes_form offset)))

-- The error says that the log after this LSN is gone.
pub record IsGoneFrom (after : Lsn) (h : Halt) : Type 0 where
  pub first : Lsn
  pub is : h ≡ halt.Gone after first

-- ---- what may be left

-- A call may leave the source unchanged, or with commits of others.
abbrev pub MayRest : SourceState → CrashState → Type 0
MayRest s l = (l ≡ left_of s) ⊎ MayFollow s l
