pub use Rattle.dbl_txn_changes.specs as TxnChanges
pub mod Reading
