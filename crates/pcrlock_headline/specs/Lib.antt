pub mod Enrolled
pub mod Exact
pub mod Only
pub mod Calm
