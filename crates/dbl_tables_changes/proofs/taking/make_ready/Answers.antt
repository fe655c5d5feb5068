use Rattle.std.proofs.Common.{List, sym, subst, take}
use Rattle.dbl_model_table.proofs.PartLemmas.{one_more}
use Rattle.dbl_tables_changes.specs.declared.planned.Write.{Write}
use Rattle.dbl_tables_changes.specs.Taking.{AreReady}
use Rattle.dbl_tables_changes.proofs.WriteLemmas.{ready_keys, ready_both, ready_none, ready_more}
use Rattle.dbl_tables_changes.proofs.taking.make_ready.Goals as goal

pub loop-write-init : goal.loop-write-init
loop-write-init c = record { same = ready_none c.args.slots.now c.args.keys.now.items; ready = record { room = tt; listed = tt } }

-- a key found no room in the list
pub returns-in_err-list_key-clause-same : goal.returns-in_err-list_key-clause-same
returns-in_err-list_key-clause-same c = ready_keys c.args.slots.now c.loop-write.slots c.loop-write.slots c.args.keys.now.items c.loop-write.keys.items c.list_key.new.keys.items c.loop-write.invariant.same c.list_key.ensures.more

-- a slot found none
pub returns-in_err-make_slot-clause-same : goal.returns-in_err-make_slot-clause-same
returns-in_err-make_slot-clause-same c =
    ready_both c.args.slots.now c.loop-write.slots c.make_slot.new.slots c.args.keys.now.items c.loop-write.keys.items c.list_key.new.keys.items c.loop-write.invariant.same c.list_key.ensures.more c.make_slot.ensures.same

pub loop-write-preserved : goal.loop-write-preserved
loop-write-preserved c = record {
  same = ready_both c.args.slots.now c.loop-write.slots c.make_slot.new.slots c.args.keys.now.items c.loop-write.keys.items c.list_key.new.keys.items c.loop-write.invariant.same c.list_key.ensures.more c.make_slot.ensures.same;
  ready = subst (λ (l : List Write). AreReady c.args.place l c.make_slot.new.slots c.list_key.new.keys.items)
      (sym (one_more c.args.writes.now c.loop-write.write-index c.write-item.result c.write-item.result c.loop-write-test.true c.write-item.is))
      (ready_more c.args.place (take c.loop-write.write-index c.args.writes.now) c.write-item.result c.loop-write.slots c.make_slot.new.slots c.loop-write.keys.items c.list_key.new.keys.items c.loop-write.invariant.ready
      c.make_slot.ensures.stay c.in_ok-make_slot.ensures.there c.list_key.ensures.more c.in_ok-list_key.ensures.listed);
}
