-- Known keys: those on which a consumer of a log of records must agree with the source. After the DBLog paper.
use Rattle.std.specs.Prelude.{◌≡◌, ◌⊎◌, ℕ, Bool, IsTrue, Contains, Option, Some, List, slice_get}
use Rattle.dbl_record.specs.declared.record.Record.{Record}
use Rattle.dbl_model_table.specs.declared.identity.Identity.{Identity}
use Rattle.dbl_model_table.specs.declared.row.Key.{Key}
use Rattle.dbl_model_table.specs.declared.table.TableInfo.{TableInfo}
use Rattle.dbl_model_table.specs.declared.change.Change.{Change}
use Rattle.dbl_model_history.specs.KeyBounds.{IsUpTo}
use Rattle.dbl_model_history.specs.WholeChanges.{IsTouched}
use Rattle.dbl_consume_laws.specs.Prints.{ReportsProgress}

-- Whether a progress record of the table covers the key: the snapshot is done, or has reached this key or one beyond it.
pub record IsTold (identity : Identity) (infos : List TableInfo) (records : List Record) (table : ℕ) (key : Key) : Type 0 where
  pub info : TableInfo
  pub captured : slice_get infos table ≡ Some info
  pub item : Record
  pub stands : Contains records item
  pub through : Option Key
  pub done : Bool
  pub tells : ReportsProgress identity info item through done
  pub covers : IsTrue done ⊎ IsUpTo through key

-- Whether a key of a table is known at a point in the history: a progress record covers it, or some change from this table's start on and
-- before that point is whole for it. Meant for keys of the table's key types.
abbrev pub IsKnown : Identity → List TableInfo → List Change → ℕ → List Record → ℕ → ℕ → Key → Type 0
IsKnown identity infos changes start records to table key =
    IsTold identity infos records table key ⊎ IsTouched infos changes start to table key

-- Whether each key up to the bound after which a window begins is covered, as if a progress record reports the bound (theorem
-- ToldBoundsAreTold).
abbrev pub AreToldUpTo : Identity → List TableInfo → List Record → ℕ → Option Key → Type 0
AreToldUpTo identity infos records table bound = (key : Key) → IsUpTo bound key → IsTold identity infos records table key

-- If a progress record reports a bound, each key up to it is covered.
abbrev pub ToldBoundsAreTold : Type 0
ToldBoundsAreTold = (identity : Identity) (infos : List TableInfo) (records : List Record) (table : ℕ) (info : TableInfo)
    (item : Record) (bound : Option Key) (done : Bool)
    → slice_get infos table ≡ Some info → Contains records item → ReportsProgress identity info item bound done
    → AreToldUpTo identity infos records table bound
