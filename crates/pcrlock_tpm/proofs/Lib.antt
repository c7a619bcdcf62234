pub mod Boots
pub mod Extends
pub mod Acts
