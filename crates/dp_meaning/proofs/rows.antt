pub mod Stretches
pub mod PartAnswers
pub mod IterationAnswers
pub mod Laws
pub mod RegionStarts
