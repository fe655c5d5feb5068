pub use Rattle.dbl_value_types.proofs as Value
pub mod Lists
pub mod Making
pub mod KeyLemmas
pub mod DerivedOrder
pub mod InfoLemmas
pub mod Capturable
pub mod PartLemmas
