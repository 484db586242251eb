pub mod Campaigns
pub mod Writing
