pub mod Alterations
pub mod Altered
