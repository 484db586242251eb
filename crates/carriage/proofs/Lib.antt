pub mod Slots
pub mod Tables
pub mod Sweeps
pub mod Props
pub mod Allowed
