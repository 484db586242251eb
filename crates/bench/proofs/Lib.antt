pub mod Filled
pub mod Vouched
pub mod Chains
pub mod Charges
pub mod Searching
pub mod Refusing
pub mod Turning
pub mod Single
