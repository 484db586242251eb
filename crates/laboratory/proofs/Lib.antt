pub mod Moving
pub mod Joining
pub mod Asking
pub mod Agreeing
pub mod Retired
