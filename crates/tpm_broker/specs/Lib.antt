pub mod Clients
pub mod Served
pub mod Leaving
pub mod Lists
pub mod Alone
