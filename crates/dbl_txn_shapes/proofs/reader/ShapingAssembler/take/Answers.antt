use Rattle.std.proofs.Common.{refl, sym, subst}
use Rattle.std.proofs.lemmas.Result.{err_from_is_err_and}
use Rattle.dbl_txn_shapes.specs.declared.reader.Read.{Read}
use Rattle.dbl_txn_shapes.specs.declared.reader.ShapingAssembler.{ShapingAssembler}
use Rattle.dbl_model_commit.specs.Stated.{open_changes}
use Rattle.dbl_model_commit.specs.Shaped.{shapes_after}
use Rattle.dbl_txn_shapes.specs.Shaping.{TakenShaped}
use Rattle.dbl_txn_shapes.proofs.ShapingLemmas.{ready_whole, shaped_taken, shaped_fails, refused_fails}
use Rattle.dbl_txn_shapes.proofs.reader.ShapingAssembler.take.Goals as goal

pub returns-in-Err : goal.returns-in-Err
returns-in-Err c = λ infos after ms s. refused_fails infos after c.args.message ms c.in-Err.error (c.in-Err.ensures infos after ms (open_changes infos ms) s)

pub returns-in_err-ended-in-Ok : goal.returns-in_err-ended-in-Ok
returns-in_err-ended-in-Ok c = λ infos after ms s. (
    let p = err_from_is_err_and c.from_residual.result c.from_residual.ensures.1 in
    let ready = c.in-Ok.ensures infos after ms (open_changes infos ms) s in
    rw (p.1, p.2) (shaped_fails infos after c.args.message ms (open_changes infos ms) c.prepare.new.self c.in-Ok.shaped c.in_err-ended-in-Ok.field-0.0 ready
    (c.in_err-ended-in-Ok.ensures (shapes_after c.args.message infos) after ms (ready_whole infos after c.args.message ms c.prepare.new.self
    c.in-Ok.shaped ready))))

pub returns-in_ok-ended-in-Ok : goal.returns-in_ok-ended-in-Ok
returns-in_ok-ended-in-Ok c = λ infos after ms s. (
    let ready = c.in-Ok.ensures infos after ms (open_changes infos ms) s in
    let now : ShapingAssembler = record { assembler = c.take.new.self; oids = c.prepare.new.self.oids } in
    subst (λ (r : Read). TakenShaped infos after c.args.message ms now r) (sym c.read_of.ensures)
    (shaped_taken infos after c.args.message ms (open_changes infos ms) c.prepare.new.self now c.in-Ok.shaped c.in_ok-ended-in-Ok.ended ready
    (c.in_ok-ended-in-Ok.ensures (shapes_after c.args.message infos) after ms (ready_whole infos after c.args.message ms c.prepare.new.self
    c.in-Ok.shaped ready)) refl))
