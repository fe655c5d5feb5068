pub mod Accounts
pub mod Inserts
pub mod RunLaws
