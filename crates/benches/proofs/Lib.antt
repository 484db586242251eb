pub mod Carrying
pub mod Settling
