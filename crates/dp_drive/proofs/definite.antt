pub mod AsksOnce
pub mod AnswersOnce
