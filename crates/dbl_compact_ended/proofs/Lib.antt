pub mod EndedLemmas
