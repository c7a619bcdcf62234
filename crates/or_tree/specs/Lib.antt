pub mod Branching
pub mod Leading
pub mod Plan
