mod ToldLemmas
pub mod MomentLemmas
mod PlainRowLemmas
mod PlainJsonLemmas
mod PlainEventLemmas
pub mod PlainAgeLemmas
