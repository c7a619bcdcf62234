pub mod Walks
pub mod Known
pub mod ByValues
