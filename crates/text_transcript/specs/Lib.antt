-- What a reader must believe of a whole text.
pub mod Whole
pub mod Laws
