pub mod Places
pub mod Paths
pub mod Walking
pub mod States
pub mod Choosing
pub mod Ends
