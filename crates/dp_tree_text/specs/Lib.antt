pub mod TreeText
pub mod VariableText
pub mod StatementText
pub mod ExprText
