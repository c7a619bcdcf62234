pub mod Parsed
pub mod Depths
pub mod Levels
pub mod Leaves
pub mod Tables
pub mod Valid
