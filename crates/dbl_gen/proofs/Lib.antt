pub mod TextLemmas
pub mod Changes
pub mod Plain
pub mod Steps
pub mod Accepted
pub mod Sizes
