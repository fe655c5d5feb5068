pub use Rattle.dbl_time.proofs as Time
pub mod Decimals
pub mod KindLemmas
pub mod ByteLemmas
pub mod TypeLemmas
pub mod Ordered
pub mod JsonTexts
pub mod RangeLemmas
