pub mod Letters
pub mod Ranges
pub mod Notices
pub mod Pulses
