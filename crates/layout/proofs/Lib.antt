pub mod Texts
pub mod Forth
