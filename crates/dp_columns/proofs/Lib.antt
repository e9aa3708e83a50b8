pub mod Places
pub mod Behind
pub mod PairLists
pub mod PartLists
pub mod EventLists
pub mod ColumnLists
pub mod MarkLists
pub mod QueueLists
mod rows
