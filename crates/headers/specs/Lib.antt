pub mod Carriages
pub mod Headers
pub mod Lines
