pub use Rattle.dblog_run_stores.proofs.DiskLemmas
pub use Rattle.dblog_run_stores.proofs.FinishLemmas
pub use Rattle.dblog_run_stores.proofs.StoreRunLemmas
pub use Rattle.dblog_run_stores.proofs.InitLemmas
pub use Rattle.dblog_run_stores.proofs.InitEndLemmas
pub use Rattle.dblog_capture.proofs.Fresh as CaptureFresh
pub use Rattle.dblog_capture.proofs.InitStatuses as CaptureInitStatuses
pub use Rattle.dblog_capture.proofs.SessionLemmas as CaptureSessionLemmas
pub use Rattle.dblog_capture.proofs.CaptureLawsAwaited
pub use Rattle.dblog_capture.proofs.CaptureLawsKeeping
pub use Rattle.dblog_capture.proofs.CaptureModelEnding
pub use Rattle.dblog_capture.proofs.PromiseFreshLaws
pub use Rattle.dblog_capture.proofs.PromiseKeptLaws
pub use Rattle.dblog_capture.proofs.PromiseTakenLaws
pub use Rattle.dblog_capture.proofs.WindowHonestLemmas
pub use Rattle.dblog_init.proofs.AnswerLaws as InitAnswerLaws
pub use Rattle.dblog_streams.proofs.ReplayCaptureLemmas
pub use Rattle.dblog_streams.proofs.ReplayMaskedLemmas
pub use Rattle.dblog_streams.proofs.ReplayPieceLemmas
pub use Rattle.dblog_streams.proofs.ReplayStreamLemmas
pub mod CommandLemmas
pub mod GeneratedLemmas
pub mod KeptLemmas
pub mod RefusalLaws
pub mod SessionLemmas
pub mod StandLemmas
pub mod StatusLemmas
