pub use Rattle.dbl_tables_laws.proofs.AcceptedLemmas as TablesLawsAcceptedLemmas
pub use Rattle.dbl_tables_laws.proofs.JudgedLemmas as TablesLawsJudgedLemmas
pub use Rattle.dbl_tables_laws.proofs.MessageLemmas as TablesLawsMessageLemmas
pub use Rattle.dbl_tables_laws.proofs.SeenLemmas as TablesLawsSeenLemmas
pub use Rattle.dbl_tables_laws.proofs.StandingLemmas as TablesLawsStandingLemmas
pub mod UnderLemmas
pub mod OwnerLemmas
pub mod SettledLemmas
pub mod EndRows
pub mod CommitRows
pub mod DoRows
pub mod PlanLemmas
pub mod TruncateRows
pub mod HolderLemmas
pub mod VerdictLemmas
pub mod ExitLemmas
pub mod WriteLemmas
pub mod JoinLemmas
pub mod FirstLemmas
pub mod MovedLemmas
