pub mod Texts
pub mod Loops
pub mod Captured
pub mod KeyLemmas
