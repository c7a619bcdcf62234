pub mod Groups
pub mod Leading
pub mod Rows
