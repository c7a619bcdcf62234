pub mod Kinds
pub mod Beside
