pub mod Loops
pub mod Fields
pub mod SpecLaws
pub mod RecordLaws
pub mod LogLaws
pub mod Appends
pub mod WritableSteps
