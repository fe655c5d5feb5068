mod Fronts
pub mod GateLemmas
