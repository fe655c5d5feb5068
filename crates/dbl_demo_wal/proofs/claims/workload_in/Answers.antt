use Rattle.std.proofs.Common.{◌∙◌, sym}
use Rattle.dbl_demo_wal.proofs.EntryLaws.{workload_is, workload_again}
use Rattle.dbl_demo_wal.proofs.claims.workload_in.Goals as goal

pub returns : goal.returns
returns c workload = (
  λ h. workload_is c.args.entry.now workload (sym c.workload_of.ensures ∙ h),
  λ h. c.workload_of.ensures ∙ workload_again c.args.entry.now workload h,
)
