pub mod HeadLemmas
pub mod FrameLemmas
