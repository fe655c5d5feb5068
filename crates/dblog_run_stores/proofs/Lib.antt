pub mod DiskLemmas
pub mod StoreStatuses
pub mod FinishLemmas
pub mod StoreRunLemmas
pub mod InitLemmas
pub mod InitEndLemmas
