pub mod Faults
pub mod Views
pub mod Extraction
pub mod Refusals
pub mod Steps
pub mod Runs
pub mod Law
pub mod Repeats
