pub mod Blocks
pub mod Contents
pub mod Heads
pub mod StoreLaws
