pub mod Needed
pub mod LeanText
pub mod Queues
pub mod LeanTurn
pub mod LeanJudge
pub mod Laws
