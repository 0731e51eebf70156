-- The laws of a session that is fed piece by piece.
pub mod Holding
pub mod Parts
pub mod Feeding
pub mod Cutting
pub mod Laws
