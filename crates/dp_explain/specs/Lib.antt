pub mod EdgeText
pub mod CheckText
pub mod UnitText
pub mod ForwardText
pub mod ShownText
pub mod Reasons
pub mod Explanation
pub mod steps
