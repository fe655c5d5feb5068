-- For private clauses: truncates of several tables.
use Rattle.std.specs.Prelude.{◌≡◌, ◌⊎◌, ◌+◌, ◌<◌, ◌++◌, ◌&&◌, not, nat_eq, ℕ, Bool, true, false, is_none, IsSome, Option}
use Rattle.std.specs.Prelude.{None, Some, Result, Ok, Err, slice_get, replicate, List, [], ◌∷◌, length, map, bytes_eq}
use Rattle.std.specs.List.{AllByRecursion, AllZip, list_any, position_from}
use Rattle.dbl_pgmsg.specs.declared.messages.Message.{Message}
use Rattle.dbl_pgmsg.specs.Grammar.{Fits}
use Rattle.dbl_model_table.specs.declared.table.TableName.{TableName}
use Rattle.dbl_model_table.specs.Tables.{same_name}
use Rattle.dbl_tables_rows.specs.SourceLog.Relations.{first_oid, oid_limit}
use Rattle.dbl_tables_rows.specs.declared.demo_table.DemoTable.{DemoTable}
use Rattle.dbl_tables_rows.specs.declared.error.StepError.{StepError}
use Rattle.dbl_tables_rows.specs.declared.error.StepError.TheVariants as errors
use Rattle.dbl_tables_rows.specs.Acts.{Accepted, is_open, messages_by}
use Rattle.dbl_tables_rows.specs.Acts.Accepted.{Did}
use Rattle.dbl_tables_rows.specs.Locks.{holds_some}
use Rattle.dbl_tables_rows.specs.Sending.{log_tables, entry_size, truncate_message}
use Rattle.dbl_tables_rows.specs.Steps.{truncate_judged}
use Rattle.dbl_tables_rows.specs.declared.rows.Rows.{Rows}
use Rattle.dbl_tables_rows.specs.Changing.{IsTruncated}
use Rattle.dbl_tables_rows.specs.Holders.{IsFirstPassing, IsFirstHolder}
use Rattle.dbl_tables.specs.declared.truncating.Cut.{Cut}

-- ---- indices of tables

-- The index of the table of a name.
abbrev pub place_in : List Rows → TableName → Option ℕ
place_in tables name = position_from (λ rows. same_name rows.table.info.name name) 0 tables

-- Whether one of the tables doesn't exist.
abbrev pub is_missing : List Rows → List TableName → Bool
is_missing tables names = list_any (λ name. is_none (place_in tables name)) names

-- The index of each named table, or the refusal if one doesn't exist.
abbrev pub PlacesOf : List Rows → List TableName → Result (List ℕ) StepError → Type 0
PlacesOf tables names (Ok places) = AllZip (λ name place. place_in tables name ≡ Some place) names places
PlacesOf tables names (Err e) = (e ≡ errors.Memory) ⊎ ((e ≡ errors.UnknownTable) × (is_missing tables names ≡ true))

-- The truncate message of the tables at these indices, if each has an OID.
abbrev pub TruncatesAt : List ℕ → Message → Type 0
TruncatesAt places message = AllByRecursion (λ place. place < oid_limit) places
    → message ≡ truncate_message (map (λ place. first_oid + place) places)

-- ---- blocking sessions

-- The session that blocks a truncate of a table.
abbrev pub IsHolderAt : List ℕ → Option Rows → Option (List ℕ) → Type 0
IsHolderAt session None first = first ≡ None
IsHolderAt session (Some rows) first = IsFirstHolder session rows.cleared rows.holders first

-- The session that blocks a truncate of several tables: the first of those that block one of them.
abbrev pub FindsFirst : List ℕ → List Rows → List ℕ → Option (List ℕ) → Type 0
FindsFirst session tables places first = (holds : ℕ → List ℕ → Bool)
    → ((place : ℕ) (own : Option (List ℕ)) → IsHolderAt session (slice_get tables place) own
    → IsFirstPassing (λ t. not (bytes_eq t session) && holds place t) own)
    → IsFirstPassing (λ t. not (bytes_eq t session) && list_any (λ place. holds place t) places) first

-- ---- tables that are truncated

-- One table was truncated, and the others stay as they are.
pub record TruncatesOne (session : List ℕ) (place : ℕ) (old new : List Rows) : Type 0 where
  pub here : (rows : Rows) → slice_get old place ≡ Some rows → (after : Rows) × (slice_get new place ≡ Some after)
      × IsTruncated session rows after
  pub others : (other : ℕ) → (other ≡ place → ⊥) → slice_get new other ≡ slice_get old other
  pub back : slice_get old place ≡ None → new ≡ old

-- The tables at these indices were truncated one after the other.
abbrev pub TruncatesAll : List ℕ → List ℕ → List Rows → List Rows → Type 0
TruncatesAll session [] old new = new ≡ old
TruncatesAll session (place ∷ places) old new = (between : List Rows) × TruncatesOne session place old between
    × TruncatesAll session places between new

-- ---- planned truncates

-- A planned truncate that is accepted: its message, size, tables and names.
pub record IsCut (tables : List DemoTable) (past : List Accepted) (session : List ℕ) (names : List TableName) (rows : List Rows)
    (cut : Cut) : Type 0 where
  pub begun : is_open session past ≡ true
  pub accepted : truncate_judged tables past session names ≡ Ok (Did session cut.message)
  pub fits : Fits cut.message
  pub size : cut.size ≡ entry_size (messages_by session past ++ cut.message ∷ [])
  pub message_is : cut.message ≡ truncate_message (map (λ place. first_oid + place) cut.places)
  pub there : AllByRecursion (λ place. IsSome (slice_get rows place)) cut.places
  pub by : cut.names.items ≡ replicate (length cut.places) session
  pub free : (place : ℕ) (r : Rows) → slice_get rows place ≡ Some r → list_any (nat_eq place) cut.places ≡ true → (t : List ℕ)
      → bytes_eq session t ≡ false → holds_some (log_tables tables) past r.table.info.name t ≡ false

-- The plan of a truncate if it is accepted, or its refusal.
abbrev pub Cuts : List DemoTable → List Accepted → List ℕ → List TableName → List Rows → Result Cut StepError → Type 0
Cuts tables past session names rows (Ok cut) = IsCut tables past session names rows cut
Cuts tables past session names rows (Err e) = (e ≡ errors.Memory) ⊎ (truncate_judged tables past session names ≡ Err e)
