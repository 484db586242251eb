pub mod Render
pub mod Campaigns
