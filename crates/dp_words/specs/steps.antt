pub mod Reading
pub mod Numbers
pub mod Verbs
pub mod Table
