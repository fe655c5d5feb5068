pub mod WordLemmas
pub mod TextLaws
pub mod LineLaws
