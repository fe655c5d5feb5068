pub mod Stores
pub mod Errors
pub mod Answers
pub mod Ends
pub mod Consuming
pub mod Applying
pub mod Compacting
pub mod Laws
