pub mod LeftLemmas
pub mod LengthLemmas
pub mod ColumnLemmas
pub mod SlotLemmas
