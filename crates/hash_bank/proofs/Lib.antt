pub mod Sizes
pub mod Digits
pub mod Joined
pub mod Bytes
