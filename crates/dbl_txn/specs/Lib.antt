pub use Rattle.dbl_txn_pieces.specs as TxnPieces
pub mod Stands
