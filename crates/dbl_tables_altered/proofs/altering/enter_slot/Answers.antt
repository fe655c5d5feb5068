use Rattle.std.proofs.lemmas.Result.{err_from_is_err_and}
use Rattle.std.proofs.Common.{inl, refl}
use Rattle.dbl_model_table.specs.Infos.{catalogue_of}
use Rattle.dbl_tables_altered.proofs.SlotLemmas.{no_row, row_refused, row_taken}
use Rattle.dbl_tables_altered.proofs.altering.enter_slot.Goals as goal

pub returns-in_default : goal.returns-in_default
returns-in_default c room = no_row c.args.alteration.now c.args.oid (catalogue_of c.args.info.now).columns c.args.key.now c.args.slot.now c.args.slots.now c.in_default.is

pub returns-in_err-altered : goal.returns-in_err-altered
returns-in_err-altered c room =
    let p = err_from_is_err_and c.from_residual.result c.from_residual.ensures.1 in
    rw (p.1, p.2)
    (row_refused c.args.alteration.now c.args.oid (catalogue_of c.args.info.now).columns c.args.key.now c.args.slot.now c.args.slots.now c.in-Some.row c.in-Some.is c.in_err-altered.field-0.0 (c.in_err-altered.ensures room))

pub returns-in_err-enter_row : goal.returns-in_err-enter_row
returns-in_err-enter_row c room =
    let p = err_from_is_err_and c.from_residual-in_err-enter_row.result c.from_residual-in_err-enter_row.ensures.1 in
    rw (p.1, p.2) (inl refl)

pub returns : goal.returns
returns c room =
    row_taken c.args.alteration.now c.args.oid (catalogue_of c.args.info.now).columns c.args.key.now c.args.slot.now c.args.slots.now c.in-Some.row c.in-Some.is c.in_ok-altered.altered c.enter_row.new.slots (c.in_ok-altered.ensures room)
    c.in_ok-enter_row.ensures
