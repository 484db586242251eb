pub mod State
pub mod Cells
pub mod Sound
pub mod View
pub mod Seals
pub mod Story
pub mod Kept
