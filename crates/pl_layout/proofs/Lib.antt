pub mod Steps
pub mod Fields
pub mod Repeats
pub mod Loops
