pub mod Stretch
pub mod Turn
pub mod PlainSteps
