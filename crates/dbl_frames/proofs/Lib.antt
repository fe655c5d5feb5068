pub mod StreamLemmas
pub mod StepLemmas
