-- What is asked of the plan is asked at the slices of the cells.
use Rattle.std.proofs.lemmas.Result.{err_from_is_err_and}
use Rattle.std.proofs.Common.{◌≡◌, List, Some, None, refl, subst}
use Rattle.std.specs.Prelude.{Result, Ok, Err, slice_get}
use Rattle.dbl_model_table.specs.declared.named_cell.NamedCell.{NamedCell}
use Rattle.dbl_tables_rows.specs.declared.error.StepError.{StepError}
use Rattle.dbl_tables_rows.specs.Acts.{Accepted}
use Rattle.dbl_tables_rows.specs.Cells.{key_given, key_set}
use Rattle.dbl_tables_rows.specs.Sending.{raw_of}
use Rattle.dbl_tables_rows.specs.Steps.{Step, FoundTable, update_in}
use Rattle.dbl_tables_rows.specs.Steps.Step.{Update}
use Rattle.dbl_tables_rows.specs.declared.rows.Rows.{Rows}
use Rattle.dbl_tables_changes.specs.Planned.{Plans, found_here}
use Rattle.dbl_tables.proofs.StoreLemmas.{got, got_none, step_refused, step_has, step_there, low_place, asked_here, plan_refused, plan_ready}
use Rattle.dbl_tables.proofs.tables.Tables.update.Goals as goal

pub returns-in_err-place : goal.returns-in_err-place
returns-in_err-place c tables past st =
    let p = err_from_is_err_and c.from_residual.result c.from_residual.ensures.1 in
    let call : Step = Update c.args.session.now c.args.table.now c.args.key.now.items c.args.set.now.items in
    let f : FoundTable → Result Accepted StepError = λ at. update_in tables past c.args.session.now at c.args.key.now.items c.args.set.now.items (key_given (raw_of at.table) c.args.key.now.items) (key_set (raw_of at.table) c.args.key.now.items c.args.set.now.items) in
    rw (p.1, p.2) (step_refused tables past c.args.session.now c.args.self.now st c.args.table.now call f refl c.in_err-place.field-0.0 (c.in_err-place.ensures tables past st))

-- the session is open
pub returns-in_default : goal.returns-in_default
returns-in_default c tables past st =
    let call : Step = Update c.args.session.now c.args.table.now c.args.key.now.items c.args.set.now.items in
    let f : FoundTable → Result Accepted StepError = λ at. update_in tables past c.args.session.now at c.args.key.now.items c.args.set.now.items (key_given (raw_of at.table) c.args.key.now.items) (key_set (raw_of at.table) c.args.key.now.items c.args.set.now.items) in
    let some = step_has tables past c.args.session.now c.args.self.now st c.args.table.now call f refl c.in_ok-place.place (c.in_ok-place.ensures tables past st) None c.in_default.ensures.value in
    cc

-- the table is there
pub returns-in_default-get : goal.returns-in_default-get
returns-in_default-get c tables past st =
    let call : Step = Update c.args.session.now c.args.table.now c.args.key.now.items c.args.set.now.items in
    let f : FoundTable → Result Accepted StepError = λ at. update_in tables past c.args.session.now at c.args.key.now.items c.args.set.now.items (key_given (raw_of at.table) c.args.key.now.items) (key_set (raw_of at.table) c.args.key.now.items c.args.set.now.items) in
    absurd (step_there tables past c.args.session.now c.args.self.now st c.args.table.now call f refl c.in_ok-place.place (c.in_ok-place.ensures tables past st) (got_none c.args.self.now.tables.items c.deref.result.now c.in_ok-place.place c.deref.ensures.value c.in_default-get.ensures.lookup.0))

pub returns-in_err-planned : goal.returns-in_err-planned
returns-in_err-planned c tables past st =
    let p = err_from_is_err_and c.from_residual-in_err-planned.result c.from_residual-in_err-planned.ensures.1 in
    let call : Step = Update c.args.session.now c.args.table.now c.args.key.now.items c.args.set.now.items in
    let f : FoundTable → Result Accepted StepError = λ at. update_in tables past c.args.session.now at c.args.key.now.items c.args.set.now.items (key_given (raw_of at.table) c.args.key.now.items) (key_set (raw_of at.table) c.args.key.now.items c.args.set.now.items) in
    let of = c.in_ok-place.ensures tables past st in
    let rows : Rows = c.in-Some-get.rows.now in
    let there : slice_get c.args.self.now.tables.items c.in_ok-place.place ≡ Some rows = got c.args.self.now.tables.items c.deref.result.now c.in_ok-place.place rows c.deref.ensures.value c.in-Some-get.ensures.lookup.0 c.in-Some-get.ensures.lookup.1 in
    let low = low_place tables past c.args.session.now c.args.self.now st c.args.table.now call f refl c.in_ok-place.place of in
    let asked = asked_here tables past c.args.session.now c.args.self.now st c.args.table.now call f refl c.in_ok-place.place of rows there c.oid_of-oid.result (c.oid_of-oid.ensures low) c.in-Some.state.now c.in-Some.ensures.value in
    rw (p.1, p.2) (plan_refused tables past c.args.session.now c.args.self.now st c.args.table.now call f refl c.in_ok-place.place of rows there c.oid_of-oid.result (c.oid_of-oid.ensures low) c.in_err-planned.field-0.0
    (subst (λ (l : List NamedCell). Plans tables past c.args.session.now (found_here c.oid_of-oid.result rows) (update_in tables past c.args.session.now (found_here c.oid_of-oid.result rows) c.args.key.now.items l (key_given (raw_of rows.table) c.args.key.now.items) (key_set (raw_of rows.table) c.args.key.now.items l)) (Err c.in_err-planned.field-0.0)) c.as_slice-2.ensures.value (subst (λ (l : List NamedCell). Plans tables past c.args.session.now (found_here c.oid_of-oid.result rows) (update_in tables past c.args.session.now (found_here c.oid_of-oid.result rows) l c.as_slice-2.result.now (key_given (raw_of rows.table) l) (key_set (raw_of rows.table) l c.as_slice-2.result.now)) (Err c.in_err-planned.field-0.0)) c.as_slice.ensures.value (c.in_err-planned.ensures tables past asked))))

pub returns : goal.returns
returns c tables past st =
    let call : Step = Update c.args.session.now c.args.table.now c.args.key.now.items c.args.set.now.items in
    let f : FoundTable → Result Accepted StepError = λ at. update_in tables past c.args.session.now at c.args.key.now.items c.args.set.now.items (key_given (raw_of at.table) c.args.key.now.items) (key_set (raw_of at.table) c.args.key.now.items c.args.set.now.items) in
    let of = c.in_ok-place.ensures tables past st in
    let rows : Rows = c.in-Some-get.rows.now in
    let there : slice_get c.args.self.now.tables.items c.in_ok-place.place ≡ Some rows = got c.args.self.now.tables.items c.deref.result.now c.in_ok-place.place rows c.deref.ensures.value c.in-Some-get.ensures.lookup.0 c.in-Some-get.ensures.lookup.1 in
    let low = low_place tables past c.args.session.now c.args.self.now st c.args.table.now call f refl c.in_ok-place.place of in
    let asked = asked_here tables past c.args.session.now c.args.self.now st c.args.table.now call f refl c.in_ok-place.place of rows there c.oid_of-oid.result (c.oid_of-oid.ensures low) c.in-Some.state.now c.in-Some.ensures.value in
    c.take_at.ensures tables past call st
    (plan_ready tables past c.args.session.now c.args.self.now st c.args.table.now call f refl c.in_ok-place.place of rows there c.oid_of-oid.result (c.oid_of-oid.ensures low) c.in_ok-planned.planned
    (subst (λ (l : List NamedCell). Plans tables past c.args.session.now (found_here c.oid_of-oid.result rows) (update_in tables past c.args.session.now (found_here c.oid_of-oid.result rows) c.args.key.now.items l (key_given (raw_of rows.table) c.args.key.now.items) (key_set (raw_of rows.table) c.args.key.now.items l)) (Ok c.in_ok-planned.planned)) c.as_slice-2.ensures.value (subst (λ (l : List NamedCell). Plans tables past c.args.session.now (found_here c.oid_of-oid.result rows) (update_in tables past c.args.session.now (found_here c.oid_of-oid.result rows) l c.as_slice-2.result.now (key_given (raw_of rows.table) l) (key_set (raw_of rows.table) l c.as_slice-2.result.now)) (Ok c.in_ok-planned.planned)) c.as_slice.ensures.value (c.in_ok-planned.ensures tables past asked))))
