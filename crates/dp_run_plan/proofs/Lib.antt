pub mod Alike
pub mod Crossing
pub mod OneStage
pub mod OneStageValid
pub mod Prepared
pub mod Same
pub mod Tables
