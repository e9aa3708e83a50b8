pub mod ColumnKinds
pub mod Keeping
pub mod steps
