pub mod Acts
pub mod BoundWorld
pub mod Condition
pub mod Enroll
pub mod EnrollWorld
