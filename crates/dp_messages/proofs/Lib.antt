pub mod FindingLemmas
pub mod LoadFindings
