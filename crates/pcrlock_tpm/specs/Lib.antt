pub mod Extend
pub mod Boot
pub mod Acts
