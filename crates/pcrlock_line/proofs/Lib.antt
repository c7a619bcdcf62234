pub mod Refusals
pub mod Composed
pub mod Replaced
pub mod Removed
pub mod PcrReads
pub mod Standing
pub mod Devices
