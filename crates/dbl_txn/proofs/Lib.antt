pub use Rattle.dbl_txn_pieces.proofs.TxnChangesLoops
pub mod FlagLemmas
pub mod Wholes
pub mod Buffering
