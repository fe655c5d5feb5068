pub mod OidLemmas
pub mod ShapingLemmas
