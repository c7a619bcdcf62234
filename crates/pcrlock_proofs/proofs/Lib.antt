pub mod Acts
pub mod Checked
pub mod Each
pub mod Passing
