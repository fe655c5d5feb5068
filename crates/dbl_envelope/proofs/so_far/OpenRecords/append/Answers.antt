use Rattle.std.proofs.Common.{refl, arith}
use Rattle.dbl_envelope.proofs.SoFarLemmas.{appends, few_more, stamp_at}
use Rattle.dbl_envelope.proofs.so_far.OpenRecords.append.Goals as goal

pub overflow_add-self : goal.overflow_add-self
overflow_add-self c =
    let before = c.args.self.now in
    let few = few_more c.args.writer.now before.commit before.now_ms
    (stamp_at before.ordinal) c.args.change.now c.args.out.now.items c.add_change.new.out.items c.requires.suits c.in_ok-add_change.ensures.told in
    omega (arith, few.0, few.1)

pub returns-clause-some : goal.returns-clause-some
returns-clause-some c =
    let before = c.args.self.now in
    let few = few_more c.args.writer.now before.commit before.now_ms
    (stamp_at before.ordinal) c.args.change.now c.args.out.now.items c.add_change.new.out.items c.requires.suits c.in_ok-add_change.ensures.told in
    omega (arith, few.0)

pub returns-clause-made : goal.returns-clause-made
returns-clause-made c = λ head now made is. (
    let before = c.args.self.now in
    let few = few_more c.args.writer.now before.commit before.now_ms
    (stamp_at before.ordinal) c.args.change.now c.args.out.now.items c.add_change.new.out.items c.requires.suits c.in_ok-add_change.ensures.told in
    appends c.args.writer.now head now made c.args.change.now c.args.out.now.items c.add_change.new.out.items before _ is c.in_ok-add_change.ensures.told
    refl refl (omega (arith, few.0))
    (record { long = c.in_ok-add_change.ensures.long; tails = c.in_ok-add_change.ensures.tails }))
