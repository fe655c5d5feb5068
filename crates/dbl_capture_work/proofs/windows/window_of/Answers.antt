use Rattle.std.proofs.Common.{◌≡◌, ◌∙◌, ◌+◌, ◌<◌, ℕ, Option, Some, IfSome, List, length, refl, sym, ap, subst, arith}
use Rattle.std.specs.Prelude.{slice_get}
use Rattle.std.proofs.lemmas.Option.{slice_get_read}
use Rattle.dbl_model_table.specs.declared.row.Key.{Key}
use Rattle.dbl_model_table.specs.declared.table.TableInfo.{TableInfo}
use Rattle.dbl_model_history.specs.declared.cursor.Cursor.{Cursor}
use Rattle.dbl_model_history.specs.Fit.{IsKeyOf}
use Rattle.dbl_capture_work.proofs.Ahead.{ready_cursors}
use Rattle.dbl_capture_work.proofs.Planning.{as_many_cursors, cursor_key, plan_made}
use Rattle.dbl_capture_work.proofs.windows.window_of.Goals as goal

pub index-requires-2 : goal.index-requires-2
index-requires-2 c =
    let work = c.args.work.now in
    let many : length c.cursors.result.now.items ≡ length work.offset.infos =
    ap length c.cursors.ensures.cursors ∙ as_many_cursors work.offset.infos work.follower.cursors (ready_cursors work c.requires.ready) in
    let within : c.args.table < length work.offset.infos = c.requires.table in
    omega (arith, many, within, c.cursors.result.now.ok.0)

pub new-requires-clause-above : goal.new-requires-clause-above
new-requires-clause-above c =
    let work = c.args.work.now in
    let table = c.args.table in
    let infos = c.items.result.now.items in
    let cursors = c.cursors.result.now.items in
    let many : length cursors ≡ length work.offset.infos =
    ap length c.cursors.ensures.cursors ∙ as_many_cursors work.offset.infos work.follower.cursors (ready_cursors work c.requires.ready) in
    let one : table < length infos = subst (λ (l : List TableInfo). table < length l) (sym c.items.ensures) c.requires.table in
    let two : table < length cursors = subst (λ (n : ℕ). table < n) (sym many) c.requires.table in
    let here : slice_get work.offset.infos table ≡ Some c.index.result.now =
    ap (λ (l : List TableInfo). slice_get l table) (sym c.items.ensures) ∙ slice_get_read infos (length infos) table c.index.result.now refl one c.index.ensures in
    let at : slice_get work.follower.cursors table ≡ Some c.index-2.result.now =
    ap (λ (l : List Cursor). slice_get l table) (sym c.cursors.ensures.cursors) ∙ slice_get_read cursors (length cursors) table c.index-2.result.now refl two c.index-2.ensures in
    subst (λ (i : TableInfo). IfSome c.in_ok-above.above (IsKeyOf i)) (sym c.in_ok-info.ensures)
    (subst (λ (k : Option Key). IfSome k (IsKeyOf c.index.result.now)) (sym c.in_ok-above.ensures)
    (cursor_key work.offset.infos work.follower.cursors table c.index.result.now c.index-2.result.now (ready_cursors work c.requires.ready) here at))

pub returns : goal.returns
returns c =
    let work = c.args.work.now in
    let table = c.args.table in
    let infos = c.items.result.now.items in
    let cursors = c.cursors.result.now.items in
    let many : length cursors ≡ length work.offset.infos =
    ap length c.cursors.ensures.cursors ∙ as_many_cursors work.offset.infos work.follower.cursors (ready_cursors work c.requires.ready) in
    let one : table < length infos = subst (λ (l : List TableInfo). table < length l) (sym c.items.ensures) c.requires.table in
    let two : table < length cursors = subst (λ (n : ℕ). table < n) (sym many) c.requires.table in
    let here : slice_get work.offset.infos table ≡ Some c.index.result.now =
    ap (λ (l : List TableInfo). slice_get l table) (sym c.items.ensures) ∙ slice_get_read infos (length infos) table c.index.result.now refl one c.index.ensures in
    let at : slice_get work.follower.cursors table ≡ Some c.index-2.result.now =
    ap (λ (l : List Cursor). slice_get l table) (sym c.cursors.ensures.cursors) ∙ slice_get_read cursors (length cursors) table c.index-2.result.now refl two c.index-2.ensures in
    plan_made work table c.index.result.now c.index-2.result.now c.new.result here at
    (c.new.ensures ∙ (λ i. record { info = c.in_ok-info.ensures i; table = table; above = c.in_ok-above.ensures i; limit = work.chunk; incarnation = work.offset.incarnation; number = work.number + 1; version = 1 }))
