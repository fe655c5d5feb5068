use Rattle.std.proofs.Common.{[], refl, sym, subst}
use Rattle.std.proofs.lemmas.Result.{err_from_is_err_and}
use Rattle.dbl_model_commit.specs.Shaped.{shapes_after}
use Rattle.dbl_txn_shapes.specs.declared.reader.ShapedPiece.{ShapedPiece}
use Rattle.dbl_txn_shapes.specs.declared.reader.ShapingAssembler.{ShapingAssembler}
use Rattle.dbl_txn_shapes.specs.Shaping.{TakenShapedPiece}
use Rattle.dbl_txn_shapes.proofs.ShapingLemmas.{piece_taken, shaped_fails, refused_fails}
use Rattle.dbl_txn_shapes.proofs.reader.ShapingAssembler.piece.Goals as goal

pub returns-in-Err : goal.returns-in-Err
returns-in-Err c = λ infos after ms s. refused_fails infos after c.args.message ms c.in-Err.error (c.in-Err.ensures infos after ms [] s)

pub returns-in_err-piece-in-Ok : goal.returns-in_err-piece-in-Ok
returns-in_err-piece-in-Ok c = λ infos after ms s. (
    let p = err_from_is_err_and c.from_residual.result c.from_residual.ensures.1 in
    let ready = c.in-Ok.ensures infos after ms [] s in
    rw (p.1, p.2) (shaped_fails infos after c.args.message ms [] c.prepare.new.self c.in-Ok.shaped c.in_err-piece-in-Ok.field-0.0 ready
    (c.in_err-piece-in-Ok.ensures (shapes_after c.args.message infos) after ms ready.stands)))

pub returns-in_ok-piece-in-Ok : goal.returns-in_ok-piece-in-Ok
returns-in_ok-piece-in-Ok c = λ infos after ms s. (
    let ready = c.in-Ok.ensures infos after ms [] s in
    let now : ShapingAssembler = record { assembler = c.piece.new.self; oids = c.prepare.new.self.oids } in
    subst (λ (r : ShapedPiece). TakenShapedPiece infos after c.args.message ms now r) (sym c.piece_of.ensures)
    (piece_taken infos after c.args.message ms [] c.prepare.new.self now c.in-Ok.shaped c.in_ok-piece-in-Ok.piece ready
    (c.in_ok-piece-in-Ok.ensures (shapes_after c.args.message infos) after ms ready.stands) refl))
