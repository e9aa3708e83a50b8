pub mod Small
mod Batches
mod Own
mod Caps
