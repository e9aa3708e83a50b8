pub mod Frequent
