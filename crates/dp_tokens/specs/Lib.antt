pub mod Symbols
pub mod Leaves
pub mod Steps
pub mod Numbers
pub mod Cursor
