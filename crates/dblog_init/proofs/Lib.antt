pub mod AnswerLaws
pub mod DiskLemmas
pub mod KindLemmas
pub mod StandLaws
pub mod MadeLemmas
pub mod TurnLemmas
pub mod EndLemmas
