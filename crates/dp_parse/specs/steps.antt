pub mod Operators
pub mod Expressions
pub mod Heads
pub mod Statements
pub mod Regions
pub mod Programs
