pub use Rattle.dbl_faithful.specs as Faithful
pub mod Entries
pub mod Stages
pub mod Marked
pub mod Counted
pub mod Reports
pub mod Going
pub mod Outcomes
pub mod Steps
pub mod Exits
pub mod Delivered
