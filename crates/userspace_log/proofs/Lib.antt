pub mod Pieces
pub mod Steps
pub mod RoundTrip
pub mod NextText
