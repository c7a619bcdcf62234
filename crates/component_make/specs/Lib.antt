pub mod RawRecord
pub mod EarlyLate
pub mod Lock
pub mod Split
pub mod Among
pub mod Parting
pub mod FileText
pub mod FirmwareFiles
