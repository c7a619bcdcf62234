pub mod Found
pub mod Explained
pub mod Foreseeing
pub mod EachRow
pub mod Opened
pub mod Together
pub mod Tables
