use Rattle.std.proofs.Common.{◌∙◌, sym}
use Rattle.std.specs.Ordering.{nat_cmp}
use Rattle.std.specs.BTreeMap.{get}
use Rattle.dbl_stream2_pending.proofs.MapLemmas.{room_there, room_made, room_counts}
use Rattle.dbl_stream2_pending.proofs.pending.make_room.Goals as goal

pub returns-then-contains_key-clause-buffer : goal.returns-then-contains_key-clause-buffer
returns-then-contains_key-clause-buffer g c = room_there (get nat_cmp c.args.pending.now) c.args.xid (sym c.contains_key.ensures ∙ c.if-contains_key.true)

pub returns-clause-buffer : goal.returns-clause-buffer
returns-clause-buffer g c = room_made (get nat_cmp c.args.pending.now) (get nat_cmp c.insert.new.self) c.args.xid c.make.result (sym c.contains_key.ensures
    ∙ c.if-contains_key.false) c.in_ok-insert.ensures.updates.0 c.make.ensures.buffer

pub returns-clause-aborts : goal.returns-clause-aborts
returns-clause-aborts g c = room_counts (get nat_cmp c.args.pending.now) (get nat_cmp c.insert.new.self) c.args.xid c.make.result (sym c.contains_key.ensures
    ∙ c.if-contains_key.false) c.in_ok-insert.ensures.updates.0 c.make.ensures.aborts
