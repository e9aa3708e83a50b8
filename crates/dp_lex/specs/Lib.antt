pub mod Token
pub mod Characters
pub mod Spelling
pub mod Front
pub mod Tokens
pub mod Scan
