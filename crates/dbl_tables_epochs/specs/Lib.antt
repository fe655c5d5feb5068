pub mod Epochs
pub mod Laws
