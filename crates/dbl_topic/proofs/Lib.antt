pub mod LogLaws
pub mod HeldLaws
pub mod Groupings
pub mod FaultLaws
