pub mod Pieces
pub mod Decimal
pub mod Fields
