pub mod Table
pub mod Four
pub mod Replays
pub mod Telling
pub mod Ending
pub mod Whole
