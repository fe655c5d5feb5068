pub mod Layouts
pub mod Tokens
pub mod Frames
