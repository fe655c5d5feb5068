pub mod EventLemmas
pub mod SnapshotLemmas
pub mod OpenLemmas
