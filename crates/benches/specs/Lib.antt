pub mod Carried
pub mod Opened
