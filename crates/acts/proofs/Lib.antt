pub mod ActLines
