pub mod Rules
pub mod Gates
pub mod GateLaws
