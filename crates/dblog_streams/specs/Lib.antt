pub use Rattle.dblog_replay.specs as Replay
pub mod Answers
pub mod Applies
pub mod Generates
pub mod Inputs
pub mod Replays
pub mod Statuses
pub mod Streaming
