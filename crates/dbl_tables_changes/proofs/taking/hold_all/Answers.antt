use Rattle.std.proofs.Common.{◌≡◌, ◌∙◌, List, length, sym, subst, arith}
use Rattle.std.proofs.lemmas.List.{map-id}
use Rattle.std.proofs.lemmas.Iterator.Adapters.{YieldsList-from_vec}
use Rattle.std.proofs.lemmas.Iterator.Consumers.{YieldsList-end, YieldsList-turn}
use Rattle.dbl_tables_rows.specs.Changing.{HasSlot}
use Rattle.dbl_tables_changes.specs.declared.planned.Write.{Write}
use Rattle.dbl_tables_changes.specs.Written.{WritesAll}
use Rattle.dbl_tables_changes.proofs.WriteLemmas.{held_none, held_more, held_all, all_at}
use Rattle.dbl_tables_changes.proofs.taking.hold_all.Goals as goal

pub loop-write-init : goal.loop-write-init
loop-write-init c = held_none c.args.slots.now

-- there is room for each write
pub hold-requires : goal.hold-requires
hold-requires c =
    let gives = c.into_iter-write-iterator.ensures.into_iter_gives in
    let road = YieldsList-from_vec c.args.writes.items gives.0 (omega (arith, gives.1, c.args.writes.ok.0)) in
    let turn = YieldsList-turn road c.loop-write.yielded c.loop-write.write-iterator c.loop-write.yielded_by c.next.result c.next.new.self c.in-Some.write c.in-Some.is c.next.ensures.steps in
    c.loop-write.invariant.room c.in-Some.write.key (all_at (λ w. HasSlot c.args.slots.now w.key) c.args.writes.items (length c.loop-write.yielded) c.in-Some.write turn.0 turn.1 c.requires)

pub loop-write-preserved : goal.loop-write-preserved
loop-write-preserved c = held_more c.loop-write.yielded c.in-Some.write c.args.slots.now c.loop-write.slots c.hold.new.slots c.loop-write.invariant c.hold.ensures.written c.hold.ensures.stay

pub returns : goal.returns
returns c =
    let gives = c.into_iter-write-iterator.ensures.into_iter_gives in
    let road = YieldsList-from_vec c.args.writes.items gives.0 (omega (arith, gives.1, c.args.writes.ok.0)) in
    let all : c.loop-write.yielded ≡ c.args.writes.items =
    sym (map-id c.loop-write.yielded) ∙ (YieldsList-end road c.loop-write.yielded c.loop-write.write-iterator c.loop-write.yielded_by c.next.result c.next.new.self c.in-None.is c.next.ensures.steps).0 in
    subst (λ (l : List Write). WritesAll l c.args.slots.now c.loop-write.slots) all (held_all c.loop-write.yielded c.args.slots.now c.loop-write.slots c.loop-write.invariant)
