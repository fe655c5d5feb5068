pub mod MaskLemmas
pub mod FitLemmas
pub mod ResultLemmas
pub mod CellLemmas
pub mod PlaceLemmas
