pub mod UserText
pub mod Answers
pub mod Found
pub mod Written
