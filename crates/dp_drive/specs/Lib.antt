pub mod Headline
pub mod Answer
pub mod RunText
pub mod Made
pub mod Audit
pub mod Pieces
pub mod SavedText
pub mod steps
