pub use Rattle.dbl_pgmsg.specs as Pgmsg
pub use Rattle.dbl_stream2_pending.specs as Pending
pub mod Errors
pub mod Wire
pub mod Reading
pub mod Flat
pub mod State
