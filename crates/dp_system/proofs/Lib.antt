pub mod OwnTexts
pub mod KnownBytes
