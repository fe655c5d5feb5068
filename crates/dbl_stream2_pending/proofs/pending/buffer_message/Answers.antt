use Rattle.std.proofs.Common.{◌≡◌, Some, IsSome, refl, sym, subst}
use Rattle.std.specs.Ordering.{nat_cmp}
use Rattle.std.specs.BTreeMap.{get, Updates}
use Rattle.std.proofs.lemmas.Result.{on_ok_weaker}
use Rattle.dbl_stream2_pending.specs.Buffers.{aborts_in}
use Rattle.dbl_stream2_pending.proofs.MapLemmas.{on_ok, pushed_at, same_at, none_pushed}
use Rattle.dbl_stream2_pending.proofs.pending.buffer_message.Goals as goal

pub returns-in-Some-clause-buffer : goal.returns-in-Some-clause-buffer
returns-in-Some-clause-buffer g c =
    let old = c.args.pending.now in
    let found : Some c.in-Some.transaction.now ≡ get nat_cmp old c.args.block = c.in-Some.ensures.value in
    let new = c.get_mut.follows.lender c.push.new.self in
    let updates : Updates nat_cmp old new c.args.block (Some c.push.new.self) = (c.get_mut.follows.holds c.push.new.self).3 (subst IsSome found refl) in
    on_ok_weaker c.push.result (pushed_at (get nat_cmp old) (get nat_cmp new) c.args.block c.in-Some.transaction.now c.push.new.self (sym found) updates.0
    (c.args.xid, c.args.message)) c.push.ensures.buffer

pub returns-in-Some-clause-aborts : goal.returns-in-Some-clause-aborts
returns-in-Some-clause-aborts g c =
    let old = c.args.pending.now in
    let found : Some c.in-Some.transaction.now ≡ get nat_cmp old c.args.block = c.in-Some.ensures.value in
    let new = c.get_mut.follows.lender c.push.new.self in
    let updates : Updates nat_cmp old new c.args.block (Some c.push.new.self) = (c.get_mut.follows.holds c.push.new.self).3 (subst IsSome found refl) in
    on_ok c.push.result (λ x y. same_at (get nat_cmp old) (get nat_cmp new) c.args.block c.in-Some.transaction.now c.push.new.self (sym found) updates.0
    (aborts_in y) (c.push.ensures.aborts y) x)

pub returns-in-None-clause-buffer : goal.returns-in-None-clause-buffer
returns-in-None-clause-buffer g c = rw c.get_mut.follows.holds-at-none (none_pushed (get nat_cmp c.args.pending.now) c.args.block (sym c.in-None.ensures.value)
    (c.args.xid, c.args.message))

pub returns-in-None-clause-aborts : goal.returns-in-None-clause-aborts
returns-in-None-clause-aborts g c = rw c.get_mut.follows.holds-at-none (λ x y. refl)
