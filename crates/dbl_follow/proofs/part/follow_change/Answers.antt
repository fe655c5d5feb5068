use Rattle.std.proofs.Common.{ℤ, [], ◌∷◌, ◌++◌, Option, Some, List, sym, subst}
use Rattle.std.specs.Prelude.{option_map}
use Rattle.std.proofs.Math.Facts.{to_z-of_z}
use Rattle.dbl_record.specs.declared.record.Record.{Record}
use Rattle.dbl_model_event.specs.OpenEvents.{unmarked}
use Rattle.dbl_envelope.specs.SoFar.{made_by}
use Rattle.dbl_follow.specs.declared.part.Part.{Part}
use Rattle.dbl_follow.specs.Amid.{ExtendsPart, HoldsLast}
use Rattle.dbl_follow.specs.Followed.{IsOpenPartOf, part_of}
use Rattle.dbl_follow.proofs.PartLemmas.{first_extends, next_extends, part_makes}
use Rattle.dbl_follow.proofs.part.follow_change.Goals as goal

pub returns-in_ok-next-in-None-clause-extends : goal.returns-in_ok-next-in-None-clause-extends
returns-in_ok-next-in-None-clause-extends c =
    let writer = c.args.writer.now in
    let head = c.args.head.now in
    let change = c.args.change.now in
    let next = c.in_ok-next-in-None.next in
    let released = c.begin_part.new.out.items in
    let held = subst (λ (l : List Record). HoldsLast writer head c.args.now_ms 0 change l released next) c.new-released.ensures.items
    (subst (λ (m : ℤ). HoldsLast writer head m 0 change c.new-released.result.items released next) (to_z-of_z c.ranges.now_ms)
    c.in_ok-next-in-None.ensures.held) in
    subst (λ (o : Option Part). ExtendsPart writer head c.args.now_ms change (option_map part_of o) released (Some (part_of next)))
    c.in-None.ensures.value (first_extends writer head c.args.now_ms change released next held)

pub returns-in_ok-next-in-None-clause-part : goal.returns-in_ok-next-in-None-clause-part
returns-in_ok-next-in-None-clause-part c =
    part_makes c.args.writer.now c.args.head.now _ 0 c.args.change.now c.new-released.result.items c.begin_part.new.out.items
    c.in_ok-next-in-None.next c.in_ok-next-in-None.ensures.held

pub extend_part-requires-clause-made : goal.extend_part-requires-clause-made
extend_part-requires-clause-made c = subst (IsOpenPartOf c.args.writer.now) (sym c.in-Some.ensures.value) c.requires.part

pub returns-in_ok-next-in-Some-clause-extends : goal.returns-in_ok-next-in-Some-clause-extends
returns-in_ok-next-in-Some-clause-extends c =
    let writer = c.args.writer.now in
    let change = c.args.change.now in
    let old = c.in-Some.old in
    let next = c.in_ok-next-in-Some.next in
    let released = c.extend_part.new.out.items in
    let held = subst (λ (l : List Record). HoldsLast writer old.head old.now_ms (made_by old.records) change (l ++ unmarked old.held ∷ []) released next)
    c.new-released.ensures.items c.in_ok-next-in-Some.ensures.held in
    subst (λ (o : Option Part). ExtendsPart writer c.args.head.now c.args.now_ms change (option_map part_of o) released (Some (part_of next)))
    c.in-Some.ensures.value (next_extends writer c.args.head.now c.args.now_ms change released old next held)

pub returns-in_ok-next-in-Some-clause-part : goal.returns-in_ok-next-in-Some-clause-part
returns-in_ok-next-in-Some-clause-part c =
    let old = c.in-Some.old in
    part_makes c.args.writer.now old.head old.now_ms (made_by old.records) c.args.change.now (c.new-released.result.items ++ unmarked old.held ∷ [])
    c.extend_part.new.out.items c.in_ok-next-in-Some.next c.in_ok-next-in-Some.ensures.held
