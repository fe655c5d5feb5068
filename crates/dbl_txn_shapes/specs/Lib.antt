pub use Rattle.dbl_txn.specs as Txn
pub mod Oids
pub mod Shaping
