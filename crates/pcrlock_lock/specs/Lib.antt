pub mod Between
pub mod Changing
pub mod LockRaw
pub mod MadeFiles
pub mod LockFirmware
pub mod UnlockFirmware
pub mod Made
pub mod Acts
