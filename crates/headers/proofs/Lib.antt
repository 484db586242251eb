pub mod Commas
pub mod MarkLists
pub mod MarkTexts
pub mod Backs
pub mod Forths
pub mod Numbers
