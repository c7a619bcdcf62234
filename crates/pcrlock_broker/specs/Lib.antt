pub mod Input
pub mod Broker
pub mod Serving
pub mod Acts
