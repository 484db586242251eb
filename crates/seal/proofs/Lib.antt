pub mod Views
pub mod Told
