use Rattle.std.proofs.Common.{◌≡◌, List, [], ap, inl, inr, ◌∙◌, subst}
use Rattle.dbl_disk.specs.declared.extent.Extent.{Extent}
use Rattle.dbl_disk.specs.Disks.{MayLeave}
use Rattle.dbl_disk.specs.Memory.{Platter}
use Rattle.dbl_disk.proofs.Tears.{only_stable}
use Rattle.dbl_disk.proofs.memory.MemDiskDisk.sync.Goals as goal

pub returns-in-Ok-clause-stable : goal.returns-in-Ok-clause-stable
returns-in-Ok-clause-stable c bytes told crashed (inl now) =
    let current : c.self.inside.current.items ≡ c.args.self.now.current = ap (λ (p : Platter). p.current) c.self.view_is in
    let same : c.args.self.now.current ≡ bytes = cc in
    now ∙ current ∙ same
returns-in-Ok-clause-stable c bytes told crashed (inr leaves) =
    let stable : MayLeave c.settle.new.stable.items [] crashed = subst (λ (es : List Extent). MayLeave c.settle.new.stable.items es crashed) c.clear.ensures.items leaves in
    let current : c.self.inside.current.items ≡ c.args.self.now.current = ap (λ (p : Platter). p.current) c.self.view_is in
    let same : c.args.self.now.current ≡ bytes = cc in
    only_stable c.settle.new.stable.items crashed stable ∙ c.in-Ok.ensures.ok ∙ c.deref.ensures.value ∙ current ∙ same
