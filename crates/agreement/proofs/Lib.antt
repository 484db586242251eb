pub mod Vouching
pub mod Offering
pub mod Keeping
pub mod Verdicts
pub mod Beginning
pub mod Agreement
pub mod Repeating
