pub mod ByPolicy
pub mod OneList
