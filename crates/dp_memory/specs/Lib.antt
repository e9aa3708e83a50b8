pub mod Book
pub mod Piece
pub mod Pieces
pub mod Table
