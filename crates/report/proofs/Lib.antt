pub mod Rising
pub mod Framing
pub mod Passing
pub mod Lined
pub mod Listing
pub mod Judging
pub mod Counting
pub mod Telling
