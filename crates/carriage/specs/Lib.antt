pub mod Triples
pub mod Model
pub mod Runs
pub mod Moments
pub mod Checks
pub mod Cells
