pub use Rattle.dbl_faithful.proofs.Agree as FaithfulAgree
pub use Rattle.dbl_faithful.proofs.Exact as FaithfulExact
pub use Rattle.dbl_faithful.proofs.Faithful as FaithfulFaithful
pub use Rattle.dbl_faithful.proofs.InForce as FaithfulInForce
pub use Rattle.dbl_faithful.proofs.Items as FaithfulItems
pub use Rattle.dbl_faithful.proofs.Lists as FaithfulLists
pub use Rattle.dbl_faithful.proofs.Longer as FaithfulLonger
pub use Rattle.dbl_faithful.proofs.Onward as FaithfulOnward
pub use Rattle.dbl_faithful.proofs.Positions as FaithfulPositions
pub use Rattle.dbl_faithful.proofs.RecordKinds as FaithfulRecordKinds
pub use Rattle.dbl_faithful.proofs.RightSnapshots as FaithfulRightSnapshots
pub use Rattle.dbl_faithful.proofs.StorePositions as FaithfulStorePositions
pub use Rattle.dbl_faithful.proofs.Trace as FaithfulTrace
pub use Rattle.dbl_faithful.proofs.Words as FaithfulWords
pub mod Rising
pub mod LaterCursors
pub mod Events
pub mod Delivered
pub mod Growing
pub mod Marking
pub mod Stepping
pub mod Arming
pub mod Windowing
pub mod Ending
pub mod Beginning
pub mod Sending
pub mod Closing
pub mod Following
pub mod Sinks
pub mod Parting
pub mod Telling
pub mod Counts
pub mod Cursors
pub mod Commits
pub mod Completing
pub mod Counting
pub mod Starting
