pub mod BoundEnds
pub mod Endings
pub mod Gives
pub mod Opens
pub mod SameValues
pub mod Stops
pub mod BoundGives
pub mod Acts
