pub mod Kinds
pub mod Values
pub mod Back
