pub mod Text
pub mod Allowed
pub mod Reading
pub mod Locality
