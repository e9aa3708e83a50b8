mod rows
pub mod Forms
pub mod Sizes
pub mod Later
pub mod KeptEnough
pub mod ReadForms
pub mod ReadAppended
pub mod ReadPieces
pub mod ReadTexts
pub mod ReadWhole
pub mod KindsRight
