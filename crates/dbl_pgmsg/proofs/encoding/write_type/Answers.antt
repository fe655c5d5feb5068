use Rattle.dbl_pgmsg.specs.Grammar.{spelling}
use Rattle.dbl_pgmsg.proofs.Fronts.{begins_same, last_step, last_left, left_at}
use Rattle.dbl_pgmsg.proofs.encoding.write_type.Goals as goal

pub returns-in_err-extend_from_slice-clause-kept : goal.returns-in_err-extend_from_slice-clause-kept
returns-in_err-extend_from_slice-clause-kept c = left_at c.from_residual.result (begins_same _ _ c.in_err-extend_from_slice.ensures.items)

pub returns-clause-written : goal.returns-clause-written
unfolding spelling
returns-clause-written c = last_step c.write_name.result c.args.out.now.items _ c.extend_from_slice.new.self.items _ _
    c.in_ok-extend_from_slice.ensures.items c.write_name.ensures.written

pub returns-clause-kept : goal.returns-clause-kept
returns-clause-kept c = last_left c.write_name.result _ _ _ _ c.in_ok-extend_from_slice.ensures.items c.write_name.ensures.kept
