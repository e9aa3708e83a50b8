pub mod Values
pub mod Forms
pub mod Evaluating
pub mod steps
