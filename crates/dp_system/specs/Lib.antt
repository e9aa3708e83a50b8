pub mod FileShelf
pub mod OwnText
