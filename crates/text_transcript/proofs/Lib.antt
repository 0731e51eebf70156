-- The laws of a whole text.
pub mod Entire
pub mod Laws
