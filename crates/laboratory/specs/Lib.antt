pub mod Passing
pub mod Retiring
