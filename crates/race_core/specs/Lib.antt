pub mod Clients
pub mod Racing
pub mod Playing
pub mod OutcomeText
pub mod Histories
