pub mod Plays
pub mod Histories
