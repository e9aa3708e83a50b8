pub mod Sparse
pub mod Loads
pub mod steps
