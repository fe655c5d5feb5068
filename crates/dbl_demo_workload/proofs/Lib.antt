pub use Rattle.dbl_demo_wal.proofs.EntryLaws as DemoWalEntryLaws
pub use Rattle.dbl_demo_wal.proofs.FitLaws as DemoWalFitLaws
pub use Rattle.dbl_demo_wal.proofs.GroupLemmas as DemoWalGroupLemmas
pub use Rattle.dbl_demo_wal.proofs.GrowsLemmas as DemoWalGrowsLemmas
pub use Rattle.dbl_demo_wal.proofs.GrowthLaws as DemoWalGrowthLaws
pub use Rattle.dbl_demo_wal.proofs.LeftLemmas as DemoWalLeftLemmas
pub use Rattle.dbl_demo_wal.proofs.RangeLaws as DemoWalRangeLaws
pub use Rattle.dbl_demo_wal.proofs.SelectLemmas as DemoWalSelectLemmas
pub use Rattle.dbl_demo_wal.proofs.SizeLemmas as DemoWalSizeLemmas
pub use Rattle.dbl_demo_wal.proofs.TableLemmas as DemoWalTableLemmas
pub use Rattle.dbl_demo_wal.proofs.WalLaws as DemoWalWalLaws
pub mod RefusalLaws
pub mod OneOfLaws
pub mod StepLemmas
pub mod RunLemmas
pub mod WorkloadLemmas
pub mod PrepareLemmas
pub mod RowLemmas
pub mod CheckLemmas
pub mod TakeLemmas
pub mod LogLemmas
pub mod ReadLemmas
