mod OneLine
mod NameLemmas
mod Listing
mod ReadOn
pub mod rows
