pub mod Letters
pub mod Acts
