pub mod RemainingLemmas
pub mod MapLemmas
