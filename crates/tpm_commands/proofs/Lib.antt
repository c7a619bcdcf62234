pub mod Splits
pub mod Sizes
pub mod Walks
pub mod Updates
pub mod Utf8
pub mod Texts
pub mod Sessions
pub mod Groups
