pub mod FrontLemmas
pub mod Inputs
pub mod Words
pub mod rows
