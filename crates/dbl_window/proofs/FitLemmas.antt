-- What every chunk keeps, as what is asked of a closed window.
use Rattle.std.proofs.Common.{◌≡◌, ◌≤◌, ℕ, Option, Some, IfSome, List, [], ◌∷◌, length, sym, subst}
use Rattle.std.specs.List.{AllByRecursion}
use Rattle.dbl_model_table.specs.declared.row.Key.{Key}
use Rattle.dbl_model_table.specs.declared.row.Row.{Row}
use Rattle.dbl_model_table.specs.declared.table.TableInfo.{TableInfo}
use Rattle.dbl_model_table.specs.Infos.{column_types}
use Rattle.dbl_model_table.specs.Keys.{key_of}
use Rattle.dbl_model_history.specs.Fit.{IsKeyOf}
use Rattle.dbl_model_history.specs.FitsInfos.{AreCellsOf}
use Rattle.dbl_model_history.specs.KeyedRows.{last_key}
use Rattle.dbl_model_event.specs.declared.closed.Closed.{Closed}
use Rattle.dbl_model_event.specs.Snapshots.{FitsChunk}
use Rattle.dbl_window.specs.Plans.{Chunk, IsFitChunk}
use Rattle.dbl_window.specs.Changing.{FitsRow}
use Rattle.dbl_window.specs.Promise.{closed_of}

each_fits : (P Q : Key × Row → Type 0) → ((entry : Key × Row) → P entry → Q entry) → (rows : List (Key × Row)) → AllByRecursion P rows → AllByRecursion Q rows
each_fits P Q so [] all = tt
each_fits P Q so (entry ∷ rows) all = (so entry all.0, each_fits P Q so rows all.1)

pub fits_chunk : (info : TableInfo) (limit : ℕ) (closed : Closed) → IsFitChunk info limit closed.rows closed.through → FitsChunk info closed
fits_chunk info limit closed fit = record {
  rows = each_fits (FitsRow info) (λ e. AreCellsOf (column_types info) e.1.cells × (key_of info e.1.cells ≡ e.0)) (λ entry fits. (fits.cells, fits.own)) closed.rows fit.each;
  through = fit.last;
}

-- a chunk, as it would be closed
pub chunk_fits : (chunk : Chunk) → IsFitChunk chunk.plan.info chunk.plan.limit chunk.rows chunk.through → FitsChunk chunk.plan.info (closed_of chunk)
chunk_fits chunk fit = fits_chunk chunk.plan.info chunk.plan.limit (closed_of chunk) fit

pub fit_keys : (info : TableInfo) (limit : ℕ) (closed : Closed) → IsFitChunk info limit closed.rows closed.through → AllByRecursion (λ entry. IsKeyOf info entry.0) closed.rows
fit_keys info limit closed fit = each_fits (FitsRow info) (λ entry. IsKeyOf info entry.0) (λ entry fits. fits.key) closed.rows fit.each

last_fits : (info : TableInfo) (above : Option Key) (rows : List (Key × Row)) → IfSome above (IsKeyOf info) → AllByRecursion (FitsRow info) rows → IfSome (last_key above rows) (IsKeyOf info)
last_fits info above [] start all = start
last_fits info above (entry ∷ rows) start all = last_fits info (Some entry.0) rows all.0.key all.1

-- rows that were read one by one
pub fit_chunk : (info : TableInfo) (limit : ℕ) (above : Option Key) (rows : List (Key × Row)) (through : Option Key) → IfSome above (IsKeyOf info) → AllByRecursion (FitsRow info) rows → length rows ≤ limit
    → through ≡ last_key above rows → IsFitChunk info limit rows through
fit_chunk info limit above rows through start each few is = record {
  each = each;
  few = few;
  last = subst (λ (o : Option Key). IfSome o (IsKeyOf info)) (sym is) (last_fits info above rows start each);
}
