pub mod Steps
pub mod State
pub mod Consistent
pub mod Cells
pub mod View
pub mod Echoes
pub mod Story
pub mod Kept
