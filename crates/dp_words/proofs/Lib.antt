mod PassLemmas
mod RangeLemmas
mod TakenNumbers
mod OwnWord
pub mod VerbLemmas
mod AnswerLemmas
mod FormLemmas
mod TableLemmas
mod rows
