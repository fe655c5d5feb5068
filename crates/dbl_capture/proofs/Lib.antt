pub use Rattle.dbl_capture_laws.proofs.Awaited as CaptureLawsAwaited
pub use Rattle.dbl_capture_laws.proofs.Keeping as CaptureLawsKeeping
pub use Rattle.dbl_capture_work.proofs.CaptureModelEnding
pub use Rattle.dbl_capture_work.proofs.Exits as CaptureWorkExits
pub use Rattle.dbl_capture_work.proofs.WindowHonestLemmas
