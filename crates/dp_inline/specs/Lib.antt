pub mod Size
pub mod InlineAnswer
pub mod Named
pub mod steps
