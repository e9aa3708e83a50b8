pub mod NodeSites
pub mod rows
pub mod LoadForms
pub mod NodeForms
pub mod KeyLemmas
pub mod EdgeLemmas
