-- For private clauses and for `Stands`: a session, and the rows of a table, after the accepted acts.
use Rattle.std.specs.Prelude.{◌≡◌, ℕ, ◌+◌, true, false, Option, None, Some, IfSome, List}
use Rattle.std.specs.List.{AllByRecursion}
use Rattle.std.specs.BTreeMap.{get}
use Rattle.dbl_base.specs.Texts.{text_cmp}
use Rattle.dbl_pgmsg.specs.Grammar.{Fits}
use Rattle.dbl_model_table.specs.declared.row.Key.{Key}
use Rattle.dbl_model_table.specs.Tables.{column_names}
use Rattle.dbl_model_table.specs.Made.{place_of}
use Rattle.dbl_tables_rows.specs.SourceLog.Relations.{first_oid}
use Rattle.dbl_tables_rows.specs.declared.demo_table.DemoTable.{DemoTable}
use Rattle.dbl_tables_rows.specs.declared.rows.Cleared.{Cleared}
use Rattle.dbl_tables_rows.specs.declared.rows.Rows.{Rows}
use Rattle.dbl_tables_changes.specs.declared.sessions.Session.{Session}
use Rattle.dbl_tables_rows.specs.declared.held.HeldKey.{HeldKey}
use Rattle.dbl_tables_rows.specs.Acts.{Accepted, is_open, messages_by}
use Rattle.dbl_tables_rows.specs.Seen.{committed_rows}
use Rattle.dbl_tables_rows.specs.Locks.{holds_key, holds_some}
use Rattle.dbl_tables_rows.specs.Sending.{log_tables, entry_size}
use Rattle.dbl_tables_rows.specs.Steps.{FoundTable, seen}
use Rattle.dbl_tables_rows.specs.Listed.{is_listed}
use Rattle.dbl_tables_rows.specs.Views.{Slots, committed_in, held_in, committed_at, owner_at}
use Rattle.dbl_tables_rows.specs.Views.{is_owner, seen_at, is_holder, IsAlone, AreWide}

-- ---- sessions

-- The state of an open session after the accepted acts.
pub record IsSession (past : List Accepted) (name : List ℕ) (session : Session) : Type 0 where
  pub begun : is_open name past ≡ true
  pub messages : session.messages.items ≡ messages_by name past
  pub size : session.size ≡ entry_size (messages_by name past)
  pub fitting : AllByRecursion Fits session.messages.items

-- A session is stored if and only if it is open.
abbrev pub IsSessionAt : List Accepted → List ℕ → Option Session → Type 0
IsSessionAt past name None = is_open name past ≡ false
IsSessionAt past name (Some session) = IsSession past name session

-- ---- rows

-- The locks of a session are listed, so that it can release them.
abbrev pub AreListed : ℕ → Slots → List ℕ → List HeldKey → Type 0
AreListed table slots name keys = (key : Key) → IfSome (held_in slots key) (λ held. held.by ≡ name → is_listed table key keys ≡ true)

-- The locks of a session before a truncate in progress are listed.
abbrev pub AreListedBefore : ℕ → Option Cleared → List ℕ → List HeldKey → Type 0
AreListedBefore table None name keys = Unit {0}
AreListedBefore table (Some cleared) name keys = AreListed table cleared.slots name keys

-- After a truncate in progress only the slots before it have committed rows.
abbrev pub HasNothingCommitted : Option Cleared → Slots → Type 0
HasNothingCommitted None slots = Unit {0}
HasNothingCommitted (Some cleared) slots = (key : Key) → committed_in slots key ≡ None

-- The state of a table after the accepted acts: the committed rows, those that each session sees, and the locks.
pub record AreRows (tables : List DemoTable) (past : List Accepted) (at : FoundTable) (rows : Rows) : Type 0 where
  pub table : rows.table ≡ at.table
  pub places : (name : List ℕ) → get text_cmp rows.places name ≡ place_of (column_names at.table.info.columns) name
  pub committed : (key : Key) → committed_at rows key ≡ committed_rows (log_tables tables) past at.table.info.name key
  pub sees : (session : List ℕ) (key : Key) → seen_at rows session key ≡ seen tables past session at key
  pub holds : (session : List ℕ) (key : Key)
      → is_owner session (owner_at rows key) ≡ holds_key (log_tables tables) past at.table.info.name key session
  pub holders : (session : List ℕ) → is_holder rows session ≡ holds_some (log_tables tables) past at.table.info.name session
  pub fresh : HasNothingCommitted rows.cleared rows.slots
  pub alone : IsAlone rows.cleared rows.slots
  pub wide : AreWide rows

-- The table at an index, with its OID.
abbrev pub found_at : ℕ → DemoTable → FoundTable
found_at place table = record { oid = first_oid + place; table = table }
