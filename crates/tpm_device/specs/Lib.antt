pub mod Stored
pub mod SoftDevice
pub mod Running
