pub mod Foretold
pub mod Settled
pub mod Scripts
pub mod Examples
