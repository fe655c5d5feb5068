pub mod JsonValueLemmas
pub mod CellLemmas
pub mod EnvelopeLemmas
pub mod FlatLemmas
pub mod TableLemmas
pub mod PrintingLemmas
pub mod RowLemmas
pub mod StandLemmas
