pub mod CellLemmas
pub mod SpelledCommits
pub mod MovedLaws
pub mod MovedRelations
pub mod ReadableLaws
