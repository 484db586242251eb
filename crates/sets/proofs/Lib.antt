pub mod Masks
pub mod Counts
pub mod Strict
pub mod Built
pub mod Unions
