pub mod Read
pub mod KindAmong
