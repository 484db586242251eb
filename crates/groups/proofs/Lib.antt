pub mod Marked
pub mod Quorums
