pub mod Held
pub mod Rows
pub mod Looks
pub mod Depth
