use Rattle.std.proofs.Common.{◌≡◌, Some, None, refl, sym, subst}
use Rattle.std.specs.Prelude.{IsSome}
use Rattle.std.specs.BTreeMap.{get, Updates}
use Rattle.dbl_tables_rows.specs.Views.{Slots}
use Rattle.dbl_tables_rows.specs.Changing.{ReleasesKey}
use Rattle.dbl_tables_rows.proofs.SlotLemmas.{derived_cmp, found_at, releases_there, releases_nothing}
use Rattle.dbl_tables_rows.proofs.slots.release_there.Goals as goal

pub returns-in-Some : goal.returns-in-Some
returns-in-Some c =
    let found : Some c.in-Some.slot.now ≡ get derived_cmp c.args.slots.now c.args.key.now = c.in-Some.ensures.value in
    let updates : Updates derived_cmp c.args.slots.now (c.get_mut.follows.lender c.release_slot.new.slot) c.args.key.now (Some c.release_slot.new.slot) = (c.get_mut.follows.holds c.release_slot.new.slot).3 (subst IsSome found refl) in
    releases_there c.args.slots.now (c.get_mut.follows.lender c.release_slot.new.slot) c.args.key.now c.in-Some.slot.now (found_at c.args.slots.now c.args.key.now (Some c.in-Some.slot.now) found) c.args.session.now c.release_slot.new.slot c.release_slot.ensures updates

pub returns-in-None : goal.returns-in-None
returns-in-None c =
    subst (λ (m : Slots). ReleasesKey c.args.key.now c.args.session.now c.args.slots.now m) (sym c.get_mut.follows.holds-at-none)
    (releases_nothing c.args.slots.now c.args.key.now c.args.session.now (found_at c.args.slots.now c.args.key.now None c.in-None.ensures.value))
