pub mod CheckProof
pub mod Prove
pub mod Acts
pub mod Passes
