pub mod Answering
pub mod Firmware
pub mod User
pub mod Logs
pub mod Components
