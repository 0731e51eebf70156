-- What a reader must believe of a piece read and answered.
pub mod Piece
pub mod Laws
