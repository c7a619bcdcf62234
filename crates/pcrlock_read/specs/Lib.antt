pub mod Cel
pub mod ComponentLines
