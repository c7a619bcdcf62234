pub mod Steps
pub mod Firmware
