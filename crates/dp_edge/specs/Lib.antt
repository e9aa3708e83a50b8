pub mod Digits
pub mod Input
pub mod MemShelf
pub mod MemSink
pub mod Shelf
pub mod Sink
pub mod Writing
