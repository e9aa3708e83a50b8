pub mod rows
pub mod KnownSites
