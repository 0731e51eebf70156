-- What a reader must believe of this crate.
pub mod Plans
pub mod Lent
pub mod Standing
pub mod Laws
