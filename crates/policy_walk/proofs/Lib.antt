pub mod Branches
pub mod Ends
pub mod Plans
