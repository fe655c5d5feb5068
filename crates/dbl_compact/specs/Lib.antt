pub mod Kept
pub mod Refusals
pub mod Compactors
pub mod Passes
pub mod Marks
pub mod Laws
