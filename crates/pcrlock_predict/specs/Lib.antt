pub mod Inputs
pub mod Present
pub mod Log
pub mod Predict
