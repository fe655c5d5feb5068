pub use Rattle.dbl_txn_changes.proofs.Loops as TxnChangesLoops
pub mod Steps
pub mod Targets
