pub mod PlansOnce
pub mod AutomaticPlans
pub mod StageFacts
pub mod SumLemmas
pub mod NodeElements
pub mod NodesAround
pub mod NodeKinds
pub mod ChosenIfs
pub mod ControlEdges
pub mod LeastStages
pub mod RegionHead
pub mod RegionReady
pub mod StageLines
pub mod ValidStages
pub mod LeastValid
pub mod PlansValid
mod rows
