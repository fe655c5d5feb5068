pub use Rattle.dbl_time.specs as Time
pub mod Types
pub mod Kinds
pub mod Decimals
pub mod ByteTexts
pub mod Values
pub mod Faults
pub mod Order
pub mod Laws
pub mod Forms
pub mod KindOrder
