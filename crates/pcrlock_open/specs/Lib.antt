pub mod Acts
pub mod Bound
pub mod BoundEndings
pub mod UnsealAnswers
pub mod Endings
pub mod Headline
pub mod TokenRead
pub mod Unseal
