pub use Rattle.dblog_replay.proofs.CaptureLemmas as ReplayCaptureLemmas
pub use Rattle.dblog_replay.proofs.MaskedLemmas as ReplayMaskedLemmas
pub use Rattle.dblog_replay.proofs.PieceLemmas as ReplayPieceLemmas
pub use Rattle.dblog_replay.proofs.StreamLemmas as ReplayStreamLemmas
pub mod AnswerLemmas
pub mod ApplyLaws
pub mod ApplyRunLemmas
pub mod ErrorLemmas
pub mod FrameInputLemmas
pub mod InputLemmas
pub mod ReplayLaws
pub mod ReplayRunLemmas
pub mod StatusLemmas
