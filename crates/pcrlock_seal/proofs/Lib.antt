pub mod Sealed
pub mod Objects
pub mod Enrolled
pub mod Stops
pub mod Acts
pub mod BoundWorld
