use Rattle.std.proofs.Common.{◌∙◌, ap}
use Rattle.dbl_disk.specs.Fuse.{Fused, fuse_calls}
use Rattle.dbl_disk.proofs.Counts.{one_passed}
use Rattle.dbl_disk.proofs.fuse.FuseDiskDisk.read_at.Goals as goal

pub returns-clause-called : goal.returns-clause-called
returns-clause-called g c count is =
    let began = ap (λ (f : Fused _). fuse_calls g.D.Disk f) c.self.view_is ∙ is in
    one_passed _ _ c.self.inside.refused _ c.in_ok-take_call.ensures.counted c.read_at.ensures.called count began
