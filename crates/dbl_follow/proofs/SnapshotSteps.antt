-- The records of a step that closes a window are one snapshot.
use Rattle.std.proofs.Common.{◌≡◌, ◌∙◌, ℕ, ℤ, Bool, true, false, Some, None, List, bytes_eq, refl, ap, subst}
use Rattle.std.specs.Prelude.{if◌then◌else◌, slice_get}
use Rattle.std.specs.List.{AllByRecursion}
use Rattle.std.proofs.lemmas.Slice.Eq.{bytes_eq-Decides}
use Rattle.dbl_record.specs.declared.record.Record.{Record}
use Rattle.dbl_model_table.specs.declared.identity.Identity.{Identity}
use Rattle.dbl_model_table.specs.declared.table.TableInfo.{TableInfo}
use Rattle.dbl_model_table.specs.declared.change.Commit.{Commit}
use Rattle.dbl_model_history.specs.Fit.{IsKeyOf}
use Rattle.dbl_model_event.specs.declared.closed.Closed.{Closed}
use Rattle.dbl_model_event.specs.Snapshots.{AreInKeyOrder, snapshot, FitsChunk}
use Rattle.dbl_model_event.specs.SnapshotLists.{IsSnapshot}
use Rattle.dbl_window.specs.Plans.{Chunk, high_text}
use Rattle.dbl_window.specs.Promise.{IsClosedOf}
use Rattle.dbl_follow.specs.declared.window.Window.{Window}
use Rattle.dbl_follow.specs.declared.window.Window.TheVariants.{Absent, Armed, Open}
use Rattle.dbl_follow.specs.Steps.{closing, closed_of}

closed_is : (chunk : Chunk) (closed : Closed) → IsClosedOf chunk closed → closed ≡ closed_of chunk
closed_is chunk closed is =
    let table : closed.table ≡ chunk.plan.table = is.table in
    let rows : closed.rows ≡ chunk.rows = is.rows in
    let through : closed.through ≡ chunk.through = is.through in
    let done : closed.done ≡ chunk.done = is.done in
    λ i. record { table = table i; rows = rows i; through = through i; done = done i }

pub is_snapshot : (identity : Identity) (infos : List TableInfo) (chunk : Chunk) (closed : Closed) (commit : Commit) (now : ℤ) (records : List Record) → slice_get infos chunk.plan.table ≡ Some chunk.plan.info
    → IsClosedOf chunk closed → FitsChunk chunk.plan.info closed → AllByRecursion (λ entry. IsKeyOf chunk.plan.info entry.0) closed.rows → AreInKeyOrder closed.rows
    → records ≡ snapshot identity infos closed commit now → IsSnapshot identity infos (closed_of chunk) commit now records
is_snapshot identity infos chunk closed commit now records planned is fits keys ordered are =
    subst (λ (c : Closed). IsSnapshot identity infos c commit now records) (closed_is chunk closed is) (record {
      info = chunk.plan.info;
      captured = ap (slice_get infos) is.table ∙ planned;
      fits = fits;
      keys = keys;
      ordered = ordered;
      records_are = are;
    })

-- which watermark closes which chunk
pub record IsOwn (opened chunk : Chunk) (value : List ℕ) : Type 0 where
  pub own : value ≡ high_text opened.plan
  pub same : opened ≡ chunk

pub closing_tells : (opened chunk : Chunk) (value : List ℕ) → closing (Open opened) (Some value) ≡ Some chunk → IsOwn opened chunk value
closing_tells opened chunk value = by (bytes_eq value (high_text opened.plan)) refl
  where
    by : (b : Bool) → bytes_eq value (high_text opened.plan) ≡ b → (if b then Some opened else None) ≡ Some chunk → IsOwn opened chunk value
    by true is told = record { own = (bytes_eq-Decides value (high_text opened.plan)).0 is; same = cc }
    by false is told = absurd (cc)

pub closing-None : (window : Window) → closing window None ≡ None
closing-None Absent = refl
closing-None (Armed chunk) = refl
closing-None (Open chunk) = refl
