pub mod Opened
pub mod ExprForms
pub mod StatementForms
pub mod rows
