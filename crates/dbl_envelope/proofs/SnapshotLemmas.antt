-- The records of a snapshot, one after the other.
use Rattle.std.proofs.Common.{◌≡◌, ◌∙◌, ◌+◌, ℕ, ℤ, Bool, Option, Some, None, List, [], ◌∷◌, ◌++◌, suc, length, length-append, slice_get, refl, sym, ap, ap₂, subst, arith, append_assoc}
use Rattle.std.specs.Prelude.{IsSomeAnd, option_map, unwrap_or}
use Rattle.dbl_record.specs.declared.record.Record.{Record}
use Rattle.dbl_model_table.specs.declared.identity.Identity.{Identity}
use Rattle.dbl_model_table.specs.declared.row.Key.{Key}
use Rattle.dbl_model_table.specs.declared.row.Row.{Row}
use Rattle.dbl_model_table.specs.declared.table.TableInfo.{TableInfo}
use Rattle.dbl_model_table.specs.declared.change.Commit.{Commit}
use Rattle.dbl_model_event.specs.declared.closed.Closed.{Closed}
use Rattle.dbl_model_event.specs.Snapshots.{read_record, read_records, progress_record, chunk_records, snapshot}
use Rattle.dbl_model_event.specs.Clashes.{rows_clash, snapshot_clash}
use Rattle.dbl_envelope.specs.Suits.{SuitsChunk, SuitsSnapshot}

-- one more row
pub read_step : (identity : Identity) (info : TableInfo) (commit : Commit) (now : ℤ) (made more : List Record) (e : Key × Row) (rest : List (Key × Row)) (r : Record) (all : List Record)
    → made ++ read_records identity info commit now (length made) (e ∷ rest) ≡ all → more ≡ made ++ r ∷ [] → r ≡ read_record identity info commit now (length made) e
    → more ++ read_records identity info commit now (length more) rest ≡ all
read_step identity info commit now made more e rest r all before pushed is =
    let longer = length-append made (r ∷ []) in
    let count : length more ≡ length made + 1 = omega (arith, ap length pushed, longer) in
    ap₂ (λ (m : List Record) (k : ℕ). m ++ read_records identity info commit now k rest) pushed count
    ∙ append_assoc made (r ∷ []) (read_records identity info commit now (length made + 1) rest)
    ∙ ap (λ (x : Record). made ++ x ∷ read_records identity info commit now (length made + 1) rest) is
    ∙ before

read_count : (identity : Identity) (info : TableInfo) (commit : Commit) (now : ℤ) (from : ℕ) (rows : List (Key × Row)) → length (read_records identity info commit now from rows) ≡ length rows
read_count identity info commit now from [] = refl
read_count identity info commit now from (e ∷ rows) = ap suc (read_count identity info commit now (from + 1) rows)

-- the rows' records, and the progress after them
pub chunk_is : (identity : Identity) (info : TableInfo) (commit : Commit) (now : ℤ) (rows : List (Key × Row)) (through : Option Key) (done : Bool) (made more : List Record) (r : Record)
    → made ≡ read_records identity info commit now 0 rows → more ≡ made ++ r ∷ [] → r ≡ progress_record identity info commit (length made) through done
    → more ≡ chunk_records identity info rows through done commit now
chunk_is identity info commit now rows through done made more r is pushed last =
    pushed ∙ ap₂ (λ (m : List Record) (x : Record). m ++ x ∷ []) is (last ∙ ap (λ (n : ℕ). progress_record identity info commit n through done) (ap length is ∙ read_count identity info commit now 0 rows))

-- a window's table
pub window_suits : (infos : List TableInfo) (closed : Closed) (info : TableInfo) → slice_get infos closed.table ≡ Some info → SuitsSnapshot infos closed → SuitsChunk info closed
window_suits infos closed info is = subst (λ (o : Option TableInfo). IsSomeAnd o (λ i. SuitsChunk i closed)) is

pub window_records : (identity : Identity) (infos : List TableInfo) (closed : Closed) (commit : Commit) (now : ℤ) (info : TableInfo) → slice_get infos closed.table ≡ Some info
    → chunk_records identity info closed.rows closed.through closed.done commit now ≡ snapshot identity infos closed commit now
window_records identity infos closed commit now info is =
    ap (λ (o : Option TableInfo). unwrap_or (option_map (λ i. chunk_records identity i closed.rows closed.through closed.done commit now) o) []) (sym is)

pub window_clash : (identity : Identity) (infos : List TableInfo) (closed : Closed) (info : TableInfo) → slice_get infos closed.table ≡ Some info
    → rows_clash identity.placeholder info closed.rows ≡ snapshot_clash identity infos closed
window_clash identity infos closed info is =
    ap (λ (o : Option TableInfo). unwrap_or (option_map (λ i. rows_clash identity.placeholder i closed.rows) o) None) (sym is)
