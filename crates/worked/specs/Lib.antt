pub mod Four
pub mod Cases
pub mod Stories
