pub mod EndingLemmas
pub mod EffectLemmas
pub mod KeptLemmas
pub mod PassLemmas
pub mod MarkLemmas
