pub use Rattle.dbl_value_types.specs as Value
pub mod Tables
pub mod Identities
pub mod Infos
pub mod Keys
pub mod Rows
pub mod Heads
pub mod Made
pub mod Laws
pub mod Configs
