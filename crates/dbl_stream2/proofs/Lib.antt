pub mod FlatLemmas
pub mod Steps
pub mod ReadingLaws
pub mod Places
pub mod Refusals
pub mod FitLemmas
