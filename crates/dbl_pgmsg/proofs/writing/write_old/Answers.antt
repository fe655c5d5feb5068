use Rattle.std.proofs.Common.{OnOk, sym, subst}
use Rattle.dbl_pgmsg.specs.Grammar.{old_tuple}
use Rattle.dbl_pgmsg.specs.Room.{Appends}
use Rattle.dbl_pgmsg.proofs.Fronts.{begins_same, last_step, last_left, left_at}
use Rattle.dbl_pgmsg.proofs.writing.write_old.Goals as goal

pub returns-in_err-extend_from_slice-in-Key-clause-kept : goal.returns-in_err-extend_from_slice-in-Key-clause-kept
returns-in_err-extend_from_slice-in-Key-clause-kept c = left_at c.from_residual.result (begins_same _ _ c.in_err-extend_from_slice-in-Key.ensures.items)

pub returns-in_err-extend_from_slice-in-Whole-clause-kept : goal.returns-in_err-extend_from_slice-in-Whole-clause-kept
returns-in_err-extend_from_slice-in-Whole-clause-kept c =
    left_at c.from_residual-in_err-extend_from_slice-in-Whole.result (begins_same _ _ c.in_err-extend_from_slice-in-Whole.ensures.items)

pub returns-in_ok-extend_from_slice-in-Key-clause-written : goal.returns-in_ok-extend_from_slice-in-Key-clause-written
unfolding old_tuple
returns-in_ok-extend_from_slice-in-Key-clause-written c =
    subst (λ old. OnOk c.write_tuple.result (Appends c.args.out.now.items (old_tuple old) c.write_tuple.new.out.items)) (sym c.in-Key.is)
    (last_step c.write_tuple.result c.args.out.now.items _ c.extend_from_slice.new.self.items _ _
    c.in_ok-extend_from_slice-in-Key.ensures.items c.write_tuple.ensures.written)

pub returns-in_ok-extend_from_slice-in-Key-clause-kept : goal.returns-in_ok-extend_from_slice-in-Key-clause-kept
returns-in_ok-extend_from_slice-in-Key-clause-kept c =
    last_left c.write_tuple.result _ _ _ _ c.in_ok-extend_from_slice-in-Key.ensures.items c.write_tuple.ensures.kept

pub returns-in_ok-extend_from_slice-in-Whole-clause-written : goal.returns-in_ok-extend_from_slice-in-Whole-clause-written
unfolding old_tuple
returns-in_ok-extend_from_slice-in-Whole-clause-written c =
    subst (λ old. OnOk c.write_tuple-in-Whole.result (Appends c.args.out.now.items (old_tuple old) c.write_tuple-in-Whole.new.out.items)) (sym c.in-Whole.is)
    (last_step c.write_tuple-in-Whole.result c.args.out.now.items _ c.extend_from_slice-in-Whole.new.self.items _ _
    c.in_ok-extend_from_slice-in-Whole.ensures.items c.write_tuple-in-Whole.ensures.written)

pub returns-in_ok-extend_from_slice-in-Whole-clause-kept : goal.returns-in_ok-extend_from_slice-in-Whole-clause-kept
returns-in_ok-extend_from_slice-in-Whole-clause-kept c =
    last_left c.write_tuple-in-Whole.result _ _ _ _ c.in_ok-extend_from_slice-in-Whole.ensures.items c.write_tuple-in-Whole.ensures.kept
