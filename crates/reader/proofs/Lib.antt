pub mod Standing
pub mod Chains
pub mod Taking
pub mod Whole
