pub mod WritingLemmas
pub mod PutLemmas
pub mod SayLemmas
pub mod LongTextLemmas
