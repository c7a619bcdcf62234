pub mod Moments
pub mod ByNewest
pub mod RaceEvents
pub mod Stillness
pub mod Rightly
