pub mod Rows
pub mod Named
pub mod Newest
pub mod Exact
pub mod Bindings
pub mod Only
pub mod Calm
