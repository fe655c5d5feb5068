pub use Rattle.dbl_demo_laws.proofs.MakeLemmas as DemoLawsMakeLemmas
pub use Rattle.dbl_demo_wal.proofs.FitLaws as DemoWalFitLaws
pub use Rattle.dbl_demo_wal.proofs.WalLaws as DemoWalWalLaws
pub use Rattle.dbl_demo_workload.proofs.OneOfLaws as DemoWorkloadOneOfLaws
pub use Rattle.dbl_demo_workload.proofs.RefusalLaws as DemoWorkloadRefusalLaws
pub use Rattle.dbl_source_log.proofs.LogLemmas as SourceLogLogLemmas
pub use Rattle.dbl_source_log.proofs.SentLemmas as SourceLogSentLemmas
pub mod AppendLemmas
pub mod OneLemmas
pub mod GroupLemmas
pub mod NumberLemmas
pub mod BeginLemmas
pub mod HeldLemmas
pub mod OwnExits
pub mod MakingLemmas
pub mod OpeningLemmas
