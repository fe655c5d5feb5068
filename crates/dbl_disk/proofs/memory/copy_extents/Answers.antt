use Rattle.std.proofs.Common.{◌+◌, List, drop, get_or, subst}
use Rattle.std.proofs.lemmas.List.{drop_more, drop_all}
use Rattle.dbl_disk.specs.declared.extent.Extent.{Extent}
use Rattle.dbl_disk.specs.Memory.{DiffersInside}
use Rattle.dbl_disk.proofs.Kept.{copying_goes_on, copying_ends}
use Rattle.dbl_disk.proofs.memory.copy_extents.Goals as goal

pub extents-preserved : goal.extents-preserved
extents-preserved c =
    let here : Extent = get_or c.args.dirty.now c.extents.extent-index (record { at = 0; length = 0 }) in
    copying_goes_on c.extents.stable c.copy.new.stable c.args.current.now here (drop (c.extents.extent-index + 1) c.args.dirty.now)
    (subst (λ (es : List Extent). DiffersInside es c.extents.stable c.args.current.now) (drop_more c.args.dirty.now c.extents.extent-index (record { at = 0; length = 0 }) c.extents-test.true) c.extents.invariant)
    c.copy.auto.stable c.copy.ensures.inside c.copy.ensures.aside

pub returns : goal.returns
returns c = copying_ends c.extents.stable c.args.current.now (subst (λ (es : List Extent). DiffersInside es c.extents.stable c.args.current.now) (drop_all c.extents.extent-index c.args.dirty.now c.extents-test.false) c.extents.invariant)
