pub use Rattle.dbl_capture.proofs.CaptureLawsAwaited
pub use Rattle.dbl_capture.proofs.CaptureLawsKeeping
pub use Rattle.dbl_capture.proofs.CaptureModelEnding
pub use Rattle.dbl_capture.proofs.WindowHonestLemmas
pub use Rattle.dblog_promise.proofs.FreshLaws as PromiseFreshLaws
pub use Rattle.dblog_promise.proofs.KeptLaws as PromiseKeptLaws
pub use Rattle.dblog_promise.proofs.TakenLaws as PromiseTakenLaws
pub mod Configs
pub mod Opened
pub mod Ran
pub mod CrashState
pub mod Causes
pub mod Followed
pub mod Answered
pub mod Session
pub mod Stays
pub mod ErrorKinds
pub mod Exits
pub mod Gated
