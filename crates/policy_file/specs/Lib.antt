pub mod Field
pub mod TokenText
pub mod TokenReading
pub mod PolicyText
pub mod PolicyReading
