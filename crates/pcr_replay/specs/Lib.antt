pub mod Row
pub mod Combined
pub mod Measured
pub mod Sized
