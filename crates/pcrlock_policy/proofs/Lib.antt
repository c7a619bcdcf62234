pub mod Acts
pub mod Trees
pub mod Valid
pub mod Sound
pub mod Makes
pub mod Forced
pub mod Looked
pub mod Made
