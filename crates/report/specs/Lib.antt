pub mod Texts
pub mod Courses
pub mod Pool
pub mod Truth
pub mod Reports
