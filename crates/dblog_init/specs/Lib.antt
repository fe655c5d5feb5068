pub use Rattle.dbl_demo.specs.DemoLaws
pub use Rattle.dbl_demo.specs.DemoWorkload
pub mod Errors
pub mod Answers
pub mod Disks
pub mod Fresh
pub mod Laws
pub mod Turns
