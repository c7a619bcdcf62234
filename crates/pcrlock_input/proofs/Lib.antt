pub mod Few
pub mod Localities
pub mod Named
pub mod Rows
