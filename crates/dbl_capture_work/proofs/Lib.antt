pub use Rattle.dbl_capture_model.proofs.Arming as CaptureModelArming
pub use Rattle.dbl_capture_model.proofs.Beginning as CaptureModelBeginning
pub use Rattle.dbl_capture_model.proofs.Closing as CaptureModelClosing
pub use Rattle.dbl_capture_model.proofs.Commits as CaptureModelCommits
pub use Rattle.dbl_capture_model.proofs.Completing as CaptureModelCompleting
pub use Rattle.dbl_capture_model.proofs.Counting as CaptureModelCounting
pub use Rattle.dbl_capture_model.proofs.Counts as CaptureModelCounts
pub use Rattle.dbl_capture_model.proofs.Cursors as CaptureModelCursors
pub use Rattle.dbl_capture_model.proofs.Ending as CaptureModelEnding
pub use Rattle.dbl_capture_model.proofs.Events as CaptureModelEvents
pub use Rattle.dbl_capture_model.proofs.FaithfulAgree
pub use Rattle.dbl_capture_model.proofs.FaithfulExact
pub use Rattle.dbl_capture_model.proofs.FaithfulFaithful
pub use Rattle.dbl_capture_model.proofs.FaithfulInForce
pub use Rattle.dbl_capture_model.proofs.FaithfulItems
pub use Rattle.dbl_capture_model.proofs.FaithfulLists
pub use Rattle.dbl_capture_model.proofs.FaithfulLonger
pub use Rattle.dbl_capture_model.proofs.FaithfulOnward
pub use Rattle.dbl_capture_model.proofs.FaithfulPositions
pub use Rattle.dbl_capture_model.proofs.FaithfulRecordKinds
pub use Rattle.dbl_capture_model.proofs.FaithfulRightSnapshots
pub use Rattle.dbl_capture_model.proofs.FaithfulStorePositions
pub use Rattle.dbl_capture_model.proofs.FaithfulTrace
pub use Rattle.dbl_capture_model.proofs.FaithfulWords
pub use Rattle.dbl_capture_model.proofs.Growing as CaptureModelGrowing
pub use Rattle.dbl_capture_model.proofs.Marking as CaptureModelMarking
pub use Rattle.dbl_capture_model.proofs.Parting as CaptureModelParting
pub use Rattle.dbl_capture_model.proofs.Sending as CaptureModelSending
pub use Rattle.dbl_capture_model.proofs.Sinks as CaptureModelSinks
pub use Rattle.dbl_capture_model.proofs.Starting as CaptureModelStarting
pub use Rattle.dbl_capture_model.proofs.Stepping as CaptureModelStepping
pub use Rattle.dbl_capture_model.proofs.Windowing as CaptureModelWindowing
pub use Rattle.dbl_follow.proofs.AmidLemmas as FollowAmidLemmas
pub use Rattle.dbl_follow.proofs.SnapshotSteps as FollowSnapshotSteps
pub use Rattle.dbl_follow.proofs.StepLemmas as FollowStepLemmas
pub use Rattle.dbl_model_commit.proofs.ChangeFits as ModelCommitChangeFits
pub use Rattle.dbl_model_commit.proofs.MarkedLemmas as ModelCommitMarkedLemmas
pub use Rattle.dbl_model_commit.proofs.PieceLemmas as ModelCommitPieceLemmas
pub use Rattle.dbl_model_history.proofs.BoundLemmas as ModelHistoryBoundLemmas
pub use Rattle.dbl_model_history.proofs.RangeLemmas as ModelHistoryRangeLemmas
pub use Rattle.dbl_model_history.proofs.RowKeys as ModelHistoryRowKeys
pub use Rattle.dbl_offset.proofs.StoreLaws as OffsetStoreLaws
pub use Rattle.dbl_source_model.proofs.GrowthLemmas as SourceModelGrowthLemmas
pub use Rattle.dbl_source_model.proofs.ReadLemmas as SourceModelReadLemmas
pub use Rattle.dbl_source_model.proofs.ShapedLemmas as SourceModelShapedLemmas
pub use Rattle.dbl_window.proofs.ConsumeLawsActs
pub use Rattle.dbl_window.proofs.ConsumeLawsCellEvents
pub use Rattle.dbl_window.proofs.ConsumeLawsCommits
pub use Rattle.dbl_window.proofs.ConsumeLawsConsumers
pub use Rattle.dbl_window.proofs.ConsumeLawsEvents
pub use Rattle.dbl_window.proofs.ConsumeLawsLists
pub use Rattle.dbl_window.proofs.ConsumeLawsNotices
pub use Rattle.dbl_window.proofs.ConsumeLawsPrints
pub use Rattle.dbl_window.proofs.ConsumeLawsReadRows
pub use Rattle.dbl_window.proofs.ConsumeLawsSnapshot
pub use Rattle.dbl_window.proofs.ConsumeLawsTopics
pub use Rattle.dbl_window.proofs.HonestLemmas as WindowHonestLemmas
pub use Rattle.dbl_window.proofs.LawLemmas as WindowLawLemmas
pub use Rattle.dbl_window.proofs.LeftLemmas as WindowLeftLemmas
pub use Rattle.dbl_window.proofs.OrderLemmas as WindowOrderLemmas
pub use Rattle.dbl_window.proofs.PromiseLemmas as WindowPromiseLemmas
pub mod Exits
pub mod Ahead
pub mod Planning
pub mod WindowFaults
pub mod Batches
pub mod OpenLemmas
pub mod Delivering
pub mod OpenSteps
pub mod CommitSteps
pub mod Gathering
pub mod Puts
pub mod Putting
pub mod Appending
pub mod Describing
pub mod Looking
pub mod Taking
pub mod Following
pub mod Working
