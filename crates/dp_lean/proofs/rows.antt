pub mod Mixed
mod Texts
mod Turned
mod Compared
