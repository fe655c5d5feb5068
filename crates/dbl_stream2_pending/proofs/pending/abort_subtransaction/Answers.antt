use Rattle.std.proofs.Common.{◌≡◌, Some, IsSome, refl, sym, subst}
use Rattle.std.specs.Ordering.{nat_cmp}
use Rattle.std.specs.BTreeMap.{get, Updates}
use Rattle.std.proofs.lemmas.Result.{on_ok_weaker}
use Rattle.dbl_stream2_pending.specs.Buffers.{buffer_in}
use Rattle.dbl_stream2_pending.proofs.MapLemmas.{on_ok, aborts_at, same_at, none_aborted}
use Rattle.dbl_stream2_pending.proofs.pending.abort_subtransaction.Goals as goal

pub returns-in-Some-clause-buffer : goal.returns-in-Some-clause-buffer
returns-in-Some-clause-buffer g c =
    let old = c.args.pending.now in
    let found : Some c.in-Some.transaction.now ≡ get nat_cmp old c.args.xid = c.in-Some.ensures.value in
    let new = c.get_mut.follows.lender c.abort.new.self in
    let updates : Updates nat_cmp old new c.args.xid (Some c.abort.new.self) = (c.get_mut.follows.holds c.abort.new.self).3 (subst IsSome found refl) in
    on_ok c.abort.result (λ x. same_at (get nat_cmp old) (get nat_cmp new) c.args.xid c.in-Some.transaction.now c.abort.new.self
    (sym found) updates.0 buffer_in c.abort.ensures.buffer x)

pub returns-in-Some-clause-aborts : goal.returns-in-Some-clause-aborts
returns-in-Some-clause-aborts g c =
    let old = c.args.pending.now in
    let found : Some c.in-Some.transaction.now ≡ get nat_cmp old c.args.xid = c.in-Some.ensures.value in
    let new = c.get_mut.follows.lender c.abort.new.self in
    let updates : Updates nat_cmp old new c.args.xid (Some c.abort.new.self) = (c.get_mut.follows.holds c.abort.new.self).3 (subst IsSome found refl) in
    on_ok_weaker c.abort.result (aborts_at (get nat_cmp old) (get nat_cmp new) c.args.xid c.in-Some.transaction.now c.abort.new.self
    (sym found) updates.0 c.args.subxid) c.abort.ensures.aborts

pub returns-in-None-clause-buffer : goal.returns-in-None-clause-buffer
returns-in-None-clause-buffer g c = rw c.get_mut.follows.holds-at-none (λ x. refl)

pub returns-in-None-clause-aborts : goal.returns-in-None-clause-aborts
returns-in-None-clause-aborts g c = rw c.get_mut.follows.holds-at-none (none_aborted (get nat_cmp c.args.pending.now) c.args.xid
    (sym c.in-None.ensures.value) c.args.subxid)
