pub mod Lines
pub mod Reading
pub mod Heads
pub mod Lists
