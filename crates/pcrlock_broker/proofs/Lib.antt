pub mod Passed
pub mod Numbers
pub mod Turns
pub mod Stands
pub mod Acts
