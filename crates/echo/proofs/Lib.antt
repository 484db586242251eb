pub mod Sentences
pub mod Told
pub mod Views
