pub mod Lists
pub mod Handles
pub mod Places
pub mod TableKeeps
