pub mod Attributes
pub mod Handles
pub mod IndexName
pub mod Table
