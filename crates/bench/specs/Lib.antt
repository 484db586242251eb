pub mod Tables
pub mod Inner
pub mod Views
pub mod Shots
