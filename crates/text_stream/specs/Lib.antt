-- What a reader must believe of a session that is fed piece by piece.
pub mod Running
pub mod Laws
