pub mod RegisterLemmas
pub mod EvalLemmas
pub mod StepLemmas
pub mod SiteLemmas
pub mod GoesLemmas
pub mod ChoiceLemmas
pub mod WholeLemmas
pub mod ValueLemmas
