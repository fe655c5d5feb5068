pub use Rattle.dbl_offset_content.specs as Offset
pub use Rattle.dbl_consume_laws.specs as ConsumeLaws
pub use Rattle.dbl_consume_courses.specs as ConsumeCourses
pub use Rattle.dbl_consume_laws.specs.ModelEvent
pub use Rattle.dbl_consume_laws.specs.ModelHistory
pub mod Agreements
pub mod Kinds
pub mod ToldEvents
pub mod CaughtLaws
pub mod ExactLogs
pub mod ExactLaws
pub mod RightSnapshots
pub mod CaughtUp
pub mod CaughtUpLaws
pub mod Controls
pub mod TornExample
pub mod Stores
pub mod Lag
pub mod Faithful
pub mod Onward
pub mod Laws
pub mod Kept
pub mod Complete
