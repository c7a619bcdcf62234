pub mod Acts
pub mod Done
pub mod Lacking
pub mod Removed
