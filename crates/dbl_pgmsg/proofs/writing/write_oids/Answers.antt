use Rattle.std.proofs.Common.{rules, ◌++◌, get_or, refl}
use Rattle.std.specs.List.{flat_map}
use Rattle.dbl_pgmsg.specs.Room.{Begins}
use Rattle.dbl_pgmsg.specs.Grammar.{int32}
use Rattle.dbl_pgmsg.proofs.Fronts.{begins_further, begins_through}
use Rattle.dbl_pgmsg.proofs.Sizes.{written_goes, written_done}
use Rattle.dbl_pgmsg.proofs.writing.write_oids.Goals as goal

pub loop-oid-preserved : goal.loop-oid-preserved
loop-oid-preserved c = record {
  front = begins_further c.args.out.now.items c.loop-oid.out.items (int32 (get_or c.args.oids.now c.loop-oid.oid-index 0)) c.int32.new.out.items c.loop-oid.invariant.front c.in_ok-int32.ensures.written;
  equal = written_goes int32 c.loop-oid.out.items c.int32.new.out.items (c.args.out.now.items ++ flat_map int32 c.args.oids.now) c.args.oids.now c.loop-oid.oid-index (get_or c.args.oids.now c.loop-oid.oid-index 0) 0 c.loop-oid-test.true refl c.in_ok-int32.ensures.written c.loop-oid.invariant.equal;
}

pub returns-clause-written : goal.returns-clause-written
returns-clause-written c = written_done int32 c.loop-oid.out.items (c.args.out.now.items ++ flat_map int32 c.args.oids.now) c.args.oids.now c.loop-oid.oid-index c.loop-oid-test.false c.loop-oid.invariant.equal

pub returns-in_err-int32-clause-kept : goal.returns-in_err-int32-clause-kept
returns-in_err-int32-clause-kept c =
    let kept : Begins c.args.out.now.items c.int32.new.out.items = begins_through c.args.out.now.items c.loop-oid.out.items c.int32.new.out.items c.loop-oid.invariant.front c.in_err-int32.ensures.kept in
    search rules
