use Rattle.std.proofs.Common.{List, take, get_or, subst, sym}
use Rattle.std.proofs.lemmas.List.{take_more, take_all}
use Rattle.dbl_disk.specs.declared.extent.Extent.{Extent}
use Rattle.dbl_disk.specs.Memory.{AreFilled}
use Rattle.dbl_disk.proofs.Kept.{filling_begins, filling_goes_on}
use Rattle.dbl_disk.proofs.memory.fill_extents.Goals as goal

pub extents-init : goal.extents-init
extents-init c = filling_begins c.args.byte c.args.crashed.now

pub extents-preserved : goal.extents-preserved
extents-preserved c =
    let here : Extent = get_or c.args.dirty.now c.extents.extent-index (record { at = 0; length = 0 }) in
    subst (λ (es : List Extent). AreFilled c.args.byte es c.args.crashed.now c.fill.new.crashed) (sym (take_more c.args.dirty.now c.extents.extent-index (record { at = 0; length = 0 }) c.extents-test.true))
    (filling_goes_on c.args.byte c.args.crashed.now c.extents.crashed c.fill.new.crashed (take c.extents.extent-index c.args.dirty.now) here c.extents.invariant c.fill.auto.crashed c.fill.ensures.inside c.fill.ensures.aside)

pub returns : goal.returns
returns c = subst (λ (es : List Extent). AreFilled c.args.byte es c.args.crashed.now c.extents.crashed) (take_all c.extents.extent-index c.args.dirty.now c.extents-test.false) c.extents.invariant
