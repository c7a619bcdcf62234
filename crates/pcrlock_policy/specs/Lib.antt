pub mod Asked
pub mod Foreseen
pub mod IndexState
pub mod MakePolicy
pub mod Acts
