pub mod Lists
pub mod Steps
pub mod Stands
pub mod Kept
pub mod Acts
pub mod Opened
