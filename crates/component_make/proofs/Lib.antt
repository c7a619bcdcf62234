pub mod Rows
pub mod Flags
pub mod Parts
pub mod Locks
pub mod Explained
pub mod LineFeed
pub mod FileData
