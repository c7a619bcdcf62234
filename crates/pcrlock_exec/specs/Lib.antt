pub mod Input
pub mod Exec
pub mod Acts
pub mod Sending
pub mod Worlds
pub mod Unseals
