pub use Rattle.dbl_consume_laws.proofs.Commits as ConsumeLawsCommits
pub use Rattle.dbl_consume_laws.proofs.Lists as ConsumeLawsLists
pub use Rattle.dbl_consume_laws.proofs.ModelHistoryBoundLemmas
pub use Rattle.dbl_consume_laws.proofs.ModelHistoryMarkLemmas
pub use Rattle.dbl_consume_laws.proofs.ModelHistoryMomentLemmas
pub use Rattle.dbl_consume_laws.proofs.ModelHistoryRowLemmas
pub use Rattle.dbl_consume_laws.proofs.Notices as ConsumeLawsNotices
pub use Rattle.dbl_consume_laws.proofs.Prints as ConsumeLawsPrints
pub use Rattle.dbl_consume_laws.proofs.Topics as ConsumeLawsTopics
pub mod Items
pub mod RecordKinds
pub mod Trace
pub mod News
pub mod KeyedRows
pub mod Likes
pub mod Agree
pub mod Caught
pub mod Prints
pub mod Exact
pub mod RightSnapshots
pub mod Positions
pub mod CaughtUp
pub mod Words
pub mod PlainWindows
pub mod Plainly
pub mod TornPlain
pub mod TornWindows
pub mod TornExample
pub mod StorePositions
pub mod Faithful
pub mod Onward
pub mod InForce
pub mod Offsets
pub mod Longer
pub mod Complete
pub mod Lists
pub mod Splits
