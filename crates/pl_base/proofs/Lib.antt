pub mod HeldFiles
pub mod Parts
pub mod Listed
pub mod Below
