pub mod State
pub mod SameText
