pub use Rattle.dbl_offset_content.specs.Entries
pub use Rattle.dbl_offset_content.specs.Measures
pub use Rattle.dbl_offset_content.specs.Offsets
pub mod Slots
pub mod Stores
pub mod Keeps
