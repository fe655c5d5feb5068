-- Where one wal is left alone, that is what is left.
use Rattle.std.proofs.Common.{◌≡◌, ◌∙◌, ℕ, List, ap, subst}
use Rattle.dbl_disk.specs.Model.{DiskModel}
use Rattle.dbl_demo_wal.specs.Standings.{MayLeaveWal, left_in}
use Rattle.dbl_demo_wal.specs.Wals.{IsWal}
use Rattle.dbl_demo_wal.proofs.WalLaws.{one_wal}
use Rattle.dbl_demo_wal.specs.LogLaws.{LeavesOneWal}

pub one_left : {D : Type 0} (model : DiskModel D) → LeavesOneWal model
one_left model disk bytes wal l is may only = (forth, back)
  where
    forth : MayLeaveWal model disk l → l ≡ left_in wal
    forth left =
        let same : left.crashed ≡ bytes = only left.crashed left.may in
        left.left ∙ ap left_in (one_wal bytes left.wal wal (subst (λ (b : List ℕ). IsWal b left.wal) same left.is) is)

    back : l ≡ left_in wal → MayLeaveWal model disk l
    back same = record { crashed = bytes; may = may; wal = wal; is = is; left = same }
