pub use Rattle.dbl_model_event.specs as ModelEvent
pub mod Suits
pub mod Writers
pub mod Clashing
pub mod SoFar
