use Rattle.std.proofs.Common.{◌∙◌, length, ap}
use Rattle.std.proofs.lemmas.Result.{err_from_is_err_and}
use Rattle.dbl_disk.specs.Fuse.{Fused, fuse_calls}
use Rattle.dbl_disk.proofs.Counts.{one_passed}
use Rattle.dbl_disk.proofs.Tears.{torn_same}
use Rattle.dbl_disk.proofs.fuse.FuseDiskDisk.write_at.Goals as goal

pub returns-in_err-take_call-clause-torn : goal.returns-in_err-take_call-clause-torn
returns-in_err-take_call-clause-torn g c old told =
    let p = err_from_is_err_and c.from_residual.result c.from_residual.ensures.1 in
    rw p.1 (old, ap (λ (f : Fused _). g.D.Disk.seen f.inner) c.self.view_is ∙ told, torn_same c.args.at (length c.args.bytes.now) old)

pub returns-clause-called : goal.returns-clause-called
returns-clause-called g c count is =
    let began = ap (λ (f : Fused _). fuse_calls g.D.Disk f) c.self.view_is ∙ is in
    one_passed _ _ c.self.inside.refused _ c.in_ok-take_call.ensures.counted c.write_at.ensures.called count began
